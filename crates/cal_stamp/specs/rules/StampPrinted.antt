-- Which printed instants are valid timestamps: systemd.time(7), Parsing Timestamps.
use Rattle.std.specs.Prelude.{◌≡◌, ◌%◌, pos, unsigned_abs}
use Rattle.jiff.specs.Words.{IsBetween}
use Rattle.cal_zone.specs.declared.civil_fields.Civil.{Civil}
use Rattle.cal_civil.specs.rules.LocalSecond.{first_year, last_year}

-- the year is from 1970 to 2199, as the year of a date in a timestamp must be
abbrev pub ShowsYear : Civil → Type 0
ShowsYear shown = IsBetween (pos first_year) (pos last_year) shown.year

-- the UTC offset is a whole number of minutes
abbrev pub ShowsMinutes : Civil → Type 0
ShowsMinutes shown = unsigned_abs shown.offset % 60 ≡ 0
