-- `weekday_name` returns the short name of the weekday with a given number.
use Rattle.std.proofs.Common.{◌≡◌, ℕ, ◌-◌, refl, ap, ◌∙◌}
use Rattle.std.specs.Prelude.{slice_index_or}
use Rattle.jiff.specs.Words.{monday_zero}
use Rattle.jiff_core.specs.declared.civil.weekday.Weekday.{Weekday}
use Rattle.jiff_core.specs.declared.civil.weekday.Weekday.TheVariants.{Monday, Tuesday, Wednesday, Thursday, Friday, Saturday, Sunday}
use Rattle.cal_zone.specs.rules.InstantText.{weekday_name}
use Rattle.cal_civil.specs.rules.Weekday.{week, short_name_of}

in_week : (day : Weekday) → day ≡ slice_index_or week (monday_zero day) Sunday
in_week Monday = refl
in_week Tuesday = refl
in_week Wednesday = refl
in_week Thursday = refl
in_week Friday = refl
in_week Saturday = refl
in_week Sunday = refl

-- if `n` is the number of `day`, where 1 is Monday, `weekday_name n` is the short name of `day`; `monday_zero`, the
-- number that `jiff` uses, is one less than `n`
pub numbered : (day : Weekday) (n : ℕ) → monday_zero day ≡ n - 1 → short_name_of day ≡ weekday_name n
unfolding weekday_name
numbered day n e = ap short_name_of (in_week day) ∙ ap (λ k. short_name_of (slice_index_or week k Sunday)) e
