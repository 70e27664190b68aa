-- `date_of` is the inverse of `epoch_day`: every day number in the range of `jiff`'s calendar has exactly one date.
use Rattle.std.specs.Prelude.{◌≡◌, ℕ, ℤ, pos, negsuc, ◌≤ℤ◌}
use Rattle.std.proofs.Common.{ap, arith, sym, ◌∙◌}
use Rattle.std.proofs.Props.{props}
use Rattle.std.specs.Int.{IsInRange}
use mathlib.Core.HLevel.{is_prop→PathP}
use Rattle.jiff_core.specs.declared.civil.date.Date.{Date}
use Rattle.jiff_core.specs.Calendar.{days_in_month, IsEpochDay, IsYear}
use Rattle.jiff_core.specs.Date.{epoch_day}
use Rattle.jiff_core.proofs.DateLemmas.{epoch_day_injective, epoch_day_range}
use Rattle.jiff_core.proofs.SignedLemmas.{signed_arith}
use Rattle.cal_civil.specs.rules.Days.{place_among, date_of}
use Rattle.cal_civil.specs.rules.LocalSecond.{civil_date}

place_among-within : (z : ℤ) → pos 0 ≤ℤ z → z ≤ℤ pos 7_304_483 → pos (place_among z) ≡ z
unfolding place_among
place_among-within (pos n) low high = grind (arith, signed_arith)
place_among-within (negsuc n) low high = absurd (omega (arith, signed_arith))

pub epoch_day-date_of : (day : ℤ) → IsEpochDay day → epoch_day (date_of day) ≡ day
unfolding date_of
epoch_day-date_of day h = grind (arith, signed_arith, place_among-within)

same_date : (a b : Date) → epoch_day a ≡ epoch_day b → a ≡ b
same_date a b e =
    let p = epoch_day_injective a b e in
    λ i. record {
      year = p.0 i;
      month = p.1 i;
      day = p.2 i;
      year_in = is_prop→PathP (λ j. IsYear (p.0 j)) (λ j. hlevel props) a.year_in b.year_in i;
      month_in = is_prop→PathP (λ j. IsInRange 1 12 (p.1 j)) (λ j. hlevel props) a.month_in b.month_in i;
      day_in = is_prop→PathP (λ j. IsInRange 1 (days_in_month (p.0 j) (p.1 j)) (p.2 j)) (λ j. hlevel props) a.day_in b.day_in i;
    }

pub date_of-epoch_day : (d : Date) → date_of (epoch_day d) ≡ d
date_of-epoch_day d = same_date (date_of (epoch_day d)) d (epoch_day-date_of (epoch_day d) (epoch_day_range d))

-- if the day number of a date is the natural number `day`, `civil_date` returns this date for `day`
pub date_numbered : (d : Date) (day : ℕ) → epoch_day d ≡ pos day → d ≡ civil_date day
unfolding civil_date
date_numbered d day number = sym (date_of-epoch_day d) ∙ ap date_of number

pub ruleset dates = (epoch_day-date_of, date_of-epoch_day)
