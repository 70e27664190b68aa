-- The text up to the end of each word that ends at or before `from` is valid. Either `from` is 0, or it is the end of
-- the last of these words.
use Rattle.std.proofs.Common.{◌≡◌, ◌<◌, ◌≤◌, ◌-◌, ℕ, false, true, is_ok, length, take, slice_index}
use Rattle.cal_bytes.specs.rules.Separators.{is_blank}
use Rattle.cal_spec.specs.computed.Expr.{expr_in}
use Rattle.cal_spec.specs.rules.WordsOfText.{IsWordAt}
use Rattle.cal_spec.proofs.fault_word.fault_span.Given as goal

abbrev pub invariant-loop-word : goal.invariant-loop-word
invariant-loop-word l = record {
  within : l.from ≤ length l.text;
  accepted : (start end : ℕ) → IsWordAt l.text start end → end ≤ l.from → is_ok (expr_in (take end l.text)) ≡ true;
  solid : 0 < l.from → is_blank (slice_index l.text (l.from - 1)) ≡ false;
  valid : 0 < l.from → is_ok (expr_in (take l.from l.text)) ≡ true;
  blank : 0 < l.from → l.from < length l.text → is_blank (slice_index l.text l.from) ≡ true;
}

abbrev pub decreases-loop-word : goal.decreases-loop-word
decreases-loop-word l = length l.text - l.from
