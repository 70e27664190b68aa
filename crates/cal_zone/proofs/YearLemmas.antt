-- The day numbers of the years 1969 to 2200.
use Rattle.std.proofs.Common.{◌≡◌, ℕ, ◌/◌, ◌<◌, inl, pos, negsuc, ◌≤ℤ◌, ◌<ℤ◌, ◌+ℤ◌, ◌*ℤ◌, refl, rules, arith}
use Rattle.std.proofs.lemmas.Int.{by_lt_z}
use Rattle.jiff.specs.Types.{Date}
use Rattle.jiff.specs.Words.{epoch_day, IsBetween}
use Rattle.jiff.proofs.Family.{epoch_day-lt}
use Rattle.jiff.proofs.SpanFacts.{signed_arith}
use Rattle.jiff_core.specs.Calendar.{days_from_civil}
use Rattle.jiff_core.proofs.CalendarLemmas.{days_from_civil-day_count}
use Rattle.jiff_core.proofs.MarchLemmas.{day_count-early, day_count-late}
use Rattle.cal_civil.proofs.DayLemmas.{epoch_day-date_of}
use Rattle.cal_civil.specs.rules.LocalSecond.{civil_date, seconds_in_all, seconds_in_all-is}

pub days_from_civil-1970 : days_from_civil (pos 1970) 1 1 ≡ pos 0
days_from_civil-1970 =
    omega (arith, signed_arith, days_from_civil-day_count (pos 1970) 1 1, day_count-early (pos 1970) 11969 1 1 refl (omega arith) (omega arith) (omega arith))

days_from_civil-1969 : days_from_civil (pos 1969) 1 1 ≡ negsuc 364
days_from_civil-1969 =
    omega (arith, signed_arith, days_from_civil-day_count (pos 1969) 1 1, day_count-early (pos 1969) 11968 1 1 refl (omega arith) (omega arith) (omega arith))

days_from_civil-2199 : days_from_civil (pos 2199) 12 31 ≡ pos 84_005
days_from_civil-2199 =
    omega (arith, signed_arith, days_from_civil-day_count (pos 2199) 12 31, day_count-late (pos 2199) 12199 12 31 refl (omega arith) (omega arith) (omega arith))

days_from_civil-2200 : days_from_civil (pos 2200) 12 31 ≡ pos 84_370
days_from_civil-2200 =
    omega (arith, signed_arith, days_from_civil-day_count (pos 2200) 12 31, day_count-late (pos 2200) 12200 12 31 refl (omega arith) (omega arith) (omega arith))

first_of_1970 : Date
first_of_1970 = record { year = pos 1970; month = 1; day = 1; year_in = search rules; month_in = search rules; day_in = search rules }

first_of_1969 : Date
first_of_1969 = record { year = pos 1969; month = 1; day = 1; year_in = search rules; month_in = search rules; day_in = search rules }

last_of_2199 : Date
last_of_2199 = record { year = pos 2199; month = 12; day = 31; year_in = search rules; month_in = search rules; day_in = search rules }

last_of_2200 : Date
last_of_2200 = record { year = pos 2200; month = 12; day = 31; year_in = search rules; month_in = search rules; day_in = search rules }

-- a date whose day number is at least 0 is in 1970 or later
pub year-from_1970 : (d : Date) → pos 0 ≤ℤ epoch_day d → pos 1970 ≤ℤ d.year
unfolding first_of_1970
year-from_1970 d h =
    by_lt_z d.year (pos 1970) (λ lt. absurd (omega (arith, signed_arith, days_from_civil-1970, epoch_day-lt d first_of_1970 (inl lt)))) (λ ge. ge)

-- a date whose day number is at least -365 is in 1969 or later
pub year-from_1969 : (d : Date) → negsuc 364 ≤ℤ epoch_day d → pos 1969 ≤ℤ d.year
unfolding first_of_1969
year-from_1969 d h =
    by_lt_z d.year (pos 1969) (λ lt. absurd (omega (arith, signed_arith, days_from_civil-1969, epoch_day-lt d first_of_1969 (inl lt)))) (λ ge. ge)

-- a date whose day number is at most 84,005 is in 2199 or earlier
pub year-to_2199 : (d : Date) → epoch_day d ≤ℤ pos 84_005 → d.year ≤ℤ pos 2199
unfolding last_of_2199
year-to_2199 d h =
    by_lt_z (pos 2199) d.year (λ lt. absurd (omega (arith, signed_arith, days_from_civil-2199, epoch_day-lt last_of_2199 d (inl lt)))) (λ ge. ge)

pub year-to_2200 : (d : Date) → epoch_day d ≤ℤ pos 84_370 → d.year ≤ℤ pos 2200
unfolding last_of_2200
year-to_2200 d h =
    by_lt_z (pos 2200) d.year (λ lt. absurd (omega (arith, signed_arith, days_from_civil-2200, epoch_day-lt last_of_2200 d (inl lt)))) (λ ge. ge)

-- every local second that is at least 0 and below `seconds_in_all` is in the years 1970 to 2199
pub year_of_local : (local : ℕ) → local < seconds_in_all → IsBetween (pos 1970) (pos 2199) (civil_date (local / 86_400)).year
unfolding civil_date
year_of_local local h =
    let below = seconds_in_all-is in
    let day : epoch_day (civil_date (local / 86_400)) ≡ pos (local / 86_400) = epoch_day-date_of (pos (local / 86_400)) (omega (arith, signed_arith), omega (arith, signed_arith)) in
    (year-from_1970 (civil_date (local / 86_400)) (omega (arith, signed_arith)), year-to_2199 (civil_date (local / 86_400)) (omega (arith, signed_arith)))

days_from_civil-first_2200 : days_from_civil (pos 2200) 1 1 ≡ pos 84_006
days_from_civil-first_2200 =
    omega (arith, signed_arith, days_from_civil-day_count (pos 2200) 1 1, day_count-early (pos 2200) 12199 1 1 refl (omega arith) (omega arith) (omega arith))

days_from_civil-last_1969 : days_from_civil (pos 1969) 12 31 ≡ negsuc 0
days_from_civil-last_1969 =
    omega (arith, signed_arith, days_from_civil-day_count (pos 1969) 12 31, day_count-late (pos 1969) 11969 12 31 refl (omega arith) (omega arith) (omega arith))

first_of_2200 : Date
first_of_2200 = record { year = pos 2200; month = 1; day = 1; year_in = search rules; month_in = search rules; day_in = search rules }

last_of_1969 : Date
last_of_1969 = record { year = pos 1969; month = 12; day = 31; year_in = search rules; month_in = search rules; day_in = search rules }

-- the dates of the years 1970 to 2199 have the day numbers 0 to 84,005
pub day_of_year : (d : Date) → IsBetween (pos 1970) (pos 2199) d.year → IsBetween (pos 0) (pos 84_005) (epoch_day d)
unfolding first_of_2200 last_of_1969
day_of_year d (from, to) =
    (omega (arith, signed_arith, days_from_civil-last_1969, epoch_day-lt last_of_1969 d (inl (omega (arith, signed_arith)))), omega (arith, signed_arith, days_from_civil-first_2200, epoch_day-lt d first_of_2200 (inl (omega (arith, signed_arith)))))

-- every second of a date in the years 1970 to 2199 is a local second that is at least 0 and below `seconds_in_all`
pub local_of_year : (d : Date) (second : ℕ) → IsBetween (pos 1970) (pos 2199) d.year → second < 86_400 → (pos 0 ≤ℤ (epoch_day d *ℤ pos 86_400 +ℤ pos second)) × ((epoch_day d *ℤ pos 86_400 +ℤ pos second) <ℤ pos seconds_in_all)
local_of_year d second year h =
    let day = day_of_year d year in
    let count = seconds_in_all-is in
    (omega (arith, signed_arith), omega (arith, signed_arith))
