use Rattle.std.proofs.Common.{arith, sym, ap, ◌∷◌, ◌∙◌, List, [], length, refl, ℕ, ◌<◌, ◌≡◌, ◌==◌, false, get_or, ◌≢◌}
use Rattle.std.specs.Str.Lines.{lines, lines_of_parts, strip_carriage_return}
use Rattle.std.proofs.lemmas.Bool.Decides.{nat_tests}
use Rattle.std.proofs.lemmas.Str.Pattern.{NoCharPasses-char, split_once_first}
use Rattle.cal_timer.proofs.LineLemmas.{lines_of_more, some_line}
use Rattle.cal_timer.proofs.lines.first_line.Goals as goal
use Rattle.std.specs.List.{slice_split, after_first, before_first, position_or_len}
use Rattle.std.proofs.lemmas.List.Splits.{length-slice_split, slice_split_first, slice_split_none}
use Rattle.std.proofs.lemmas.List.Elements.{All-from_get_or}

lines_first : (text line rest : List ℕ) → position_or_len (λ b. b == 10) text < length text → line ≡ before_first (λ b. b == 10) text → rest ≡ after_first (λ b. b == 10) text → lines text ≡ strip_carriage_return line ∷ lines rest
lines_first text line rest h e f =
    ap lines_of_parts (slice_split_first (λ b. b == 10) text 0 h)
    ∙ lines_of_more _ (slice_split (λ b. b == 10) (after_first (λ b. b == 10) text)) (omega (arith, length-slice_split (λ b. b == 10) (after_first (λ b. b == 10) text)))
    ∙ rw (e, f) refl

-- a nonempty text without a line feed is one line
lines_last : (text : List ℕ) → 0 < length text → ((i : ℕ) → i < length text → get_or text i 0 ≢ 10) → lines text ≡ text ∷ []
lines_last text some none =
    let parts = slice_split_none (λ b. b == 10) text (All-from_get_or (λ b. (b == 10) ≡ false) text 0 (λ i h. let other : get_or text i 0 ≢ 10 = none i h in grind (arith, nat_tests))) in
    ap lines_of_parts parts ∙ some_line text some

pub returns-in-Some-clause-lines : goal.returns-in-Some-clause-lines
returns-in-Some-clause-lines c =
    let found = split_once_first 10 c.args.text.now c.split_once.result c.split_once.ensures.cases (omega arith) in
    let parts = rw c.in-Some.is at found in
    lines_first c.args.text.now c.in-Some.line.now c.in-Some.rest.now parts.0 parts.1 parts.2
    ∙ ap (λ line. line ∷ lines c.in-Some.rest.now) (sym c.without_return.ensures)

pub returns-in-None-clause-lines : goal.returns-in-None-clause-lines
returns-in-None-clause-lines c =
    lines_last c.args.text.now (grind (arith, nat_tests, c.if-is_empty.ensures)) (λ i h. NoCharPasses-char 10 c.args.text.now i c.in-None.ensures.cases (omega arith) h)
