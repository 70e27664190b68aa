-- Parsing `@` and the decimal digits of an instant gives the same instant.
use Rattle.std.proofs.Common.{◌≡◌, ℕ, ◌*◌, ◌≤◌, false, List, [], ◌∷◌, ℤ, pos, ◌+ℤ◌, ◌≤ℤ◌, Ok, refl, sym, ap, ◌∙◌, arith, append-nil, decimal, reverse}
use Rattle.std.specs.List.{AllByRecursion}
use Rattle.std.proofs.lemmas.Int.{ints}
use Rattle.jiff.proofs.SpanFacts.{signed_arith}
use Rattle.cal_span.proofs.SpanDigits.{AreDigits, are_digits-decimal}
use Rattle.cal_span.proofs.SpanReadBack.{span_of-decimal}
use Rattle.cal_bytes.proofs.General.{all_reverse}
use Rattle.cal_bytes.proofs.TrimLemmas.{trim_only}
use Rattle.cal_bytes.specs.rules.TrimRule.{IsTrimmed, StartsSolid}
use Rattle.cal_bytes.specs.rules.Separators.{is_blank}
use Rattle.cal_zone.specs.rules.Instant.{IsInstant, micros_of}
use Rattle.cal_zone.specs.rules.Setting.{Setting}
use Rattle.cal_stamp.specs.computed.Stamp.{after_second, in_moments, moment_in, moment_of_form}
use Rattle.cal_stamp.specs.rules.StampRule.{counted}
use Rattle.cal_stamp.specs.computed.StampForm.{form_of, form_of_solid}

-- ## The form of a text that is `@` and digits

solid_digits : (ds : List ℕ) → AreDigits ds → AllByRecursion (λ b. is_blank b ≡ false) ds
solid_digits [] h = tt
solid_digits (c ∷ cs) h = (h.0.blank, solid_digits cs h.1)

starts_solid : (text : List ℕ) → AllByRecursion (λ b. is_blank b ≡ false) text → StartsSolid is_blank text
starts_solid [] h = tt
starts_solid (b ∷ bs) h = h.0

solid_trimmed : (text : List ℕ) → AllByRecursion (λ b. is_blank b ≡ false) text → IsTrimmed is_blank text text
solid_trimmed text solid = record {
  front = [];
  back = [];
  blanks = tt;
  blanks_after = tt;
  whole = sym (append-nil text);
  solid_start = starts_solid text solid;
  solid_end = starts_solid (reverse text) (all_reverse (λ b. is_blank b ≡ false) text solid);
}

form_of-counted : (ds : List ℕ) → AreDigits ds → form_of (64 ∷ ds) ≡ counted ds
unfolding form_of
form_of-counted ds h =
    ap form_of_solid (sym (trim_only is_blank (64 ∷ ds) (64 ∷ ds) (solid_trimmed (64 ∷ ds) (refl, solid_digits ds h))))

-- ## The proof of `counted_seconds_read_back` in `cal_stamp::laws`

pub in_time : (micros : ℤ) → pos 0 ≤ℤ micros → micros ≤ℤ pos 7_258_211_998_000_000 → in_moments micros ≡ Ok micros
unfolding in_moments
in_time micros from to = grind (arith, ints)

pub counted_back : (now : ℤ) (at : Setting) (n : ℕ) → IsInstant (pos n) → moment_in now at (64 ∷ decimal n) ≡ Ok (micros_of (pos n))
unfolding moment_in
counted_back now at n h =
    let most : n ≤ 7_258_211_998 = omega (arith, signed_arith, h.1) in
    let same : micros_of (pos 0) +ℤ pos (n * 1_000_000) ≡ micros_of (pos n) = omega (arith, signed_arith) in
    ap (moment_of_form now at) (form_of-counted (decimal n) (are_digits-decimal n (omega arith)))
    ∙ ap (after_second (pos 0)) (span_of-decimal n (omega arith))
    ∙ ap in_moments same
    ∙ in_time (micros_of (pos n)) (omega (arith, signed_arith)) (omega (arith, signed_arith))
