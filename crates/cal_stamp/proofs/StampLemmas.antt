-- Lemmas on fractions of a second, on dates and times with too many pieces, and on moments.
use Rattle.std.proofs.Common.{ℕ, ◌+◌, ◌*◌, ◌^◌, ◌≤◌, ◌≡◌, true, List, [], ◌∷◌, length, refl, sym, ap, arith, None, Err, ℤ, ◌+ℤ◌, ◌<ℤ◌}
use Rattle.std.specs.Char.{is_ascii_digit, digit_value}
use Rattle.std.specs.List.{list_all, slice_split}
use Rattle.std.proofs.Math.Nat.{div-le_self, mul-le-mul_right}
use Rattle.std.proofs.lemmas.Bool.{and_parts}
use Rattle.std.proofs.lemmas.Int.{ints}
use Rattle.jiff.specs.Types.{TimeZone}
use Rattle.cal_zone.specs.declared.civil_fields.Civil.{Civil}
use Rattle.cal_zone.specs.rules.Instant.{last_moment}
use Rattle.cal_zone.specs.rules.Civil.{civil_of}
use Rattle.cal_bytes.specs.rules.Separators.{is_point, is_colon}
use Rattle.cal_span.specs.rules.PairValue.{fraction_worth}
use Rattle.cal_zone.specs.rules.Zone.{local_shown_at}
use Rattle.cal_bytes.proofs.General.{some_piece, digit_below}
use Rattle.cal_stamp.specs.computed.Stamp.{in_moments}
use Rattle.cal_stamp.specs.rules.StampDate.{is_hyphen, date_numbers}
use Rattle.cal_stamp.specs.rules.StampTime.{second_written, time_numbers}
use Rattle.cal_stamp.specs.declared.fault.StampFault.TheVariants.{OutOfRange}

-- ## Fractions of a second

-- in a unit of `size` microseconds, the digits `ds` after a decimal point add at most 9 * `size` microseconds each
pub fraction_bound : (size place : ℕ) (ds : List ℕ) → list_all is_ascii_digit ds ≡ true → fraction_worth size place ds ≤ length ds * (9 * size)
fraction_bound size place [] h = omega arith
fraction_bound size place (d ∷ ds) h =
    let parts = and_parts (is_ascii_digit d) (list_all is_ascii_digit ds) h in
    let below = digit_below d parts.0 in
    let rest = fraction_bound size (place + 1) ds parts.1 in
    let part = div-le_self (digit_value d * size) (10 ^ place) in
    let whole : digit_value d * size ≤ 9 * size = mul-le-mul_right size (omega arith) in
    omega (arith, rest, part, whole)

-- ## Dates and times with too many pieces

-- the next three lemmas: a date is invalid if hyphens split it into more than three pieces, a time if colons split it
-- into more than three, and seconds if points split them into more than two
pub no_date : (word year month day b1 b2 b3 : List ℕ) → slice_split is_hyphen word ≡ year ∷ slice_split is_hyphen b1 → slice_split is_hyphen b1 ≡ month ∷ slice_split is_hyphen b2 → slice_split is_hyphen b2 ≡ day ∷ slice_split is_hyphen b3 → None ≡ date_numbers word
unfolding date_numbers
no_date word year month day b1 b2 b3 first next last =
    let more = some_piece is_hyphen b3 in rw (first, next, last, more.2) refl

pub no_time : (word hour minute second b1 b2 b3 : List ℕ) → slice_split is_colon word ≡ hour ∷ slice_split is_colon b1 → slice_split is_colon b1 ≡ minute ∷ slice_split is_colon b2 → slice_split is_colon b2 ≡ second ∷ slice_split is_colon b3 → None ≡ time_numbers word
unfolding time_numbers
no_time word hour minute second b1 b2 b3 first next last =
    let more = some_piece is_colon b3 in rw (first, next, last, more.2) refl

pub no_second : (word whole digits b1 b2 : List ℕ) → slice_split is_point word ≡ whole ∷ slice_split is_point b1 → slice_split is_point b1 ≡ digits ∷ slice_split is_point b2 → None ≡ second_written word
unfolding second_written
no_second word whole digits b1 b2 first next =
    let more = some_piece is_point b2 in rw (first, next, more.2) refl

-- ## Moments

pub too_late : (micros : ℤ) → last_moment <ℤ micros → in_moments micros ≡ Err OutOfRange
unfolding in_moments
too_late micros late = grind (arith, ints)

-- the local second that a zone's clock shows at `second` is `second` plus the UTC offset that the clock shows
pub local_shown_at-civil : (zone : TimeZone) (second : ℤ) (shown : Civil) → shown ≡ civil_of zone second → local_shown_at zone second ≡ second +ℤ shown.offset
unfolding local_shown_at civil_of
local_shown_at-civil zone second shown e = ap (λ o. second +ℤ o) (sym (ap (λ (s : Civil). s.offset) e))
