-- The zone that the value of an option names, with each string as the list of its bytes. For names of zones, see
-- systemd.time(7), Calendar Events; the other forms are this project's own.
use Rattle.std.specs.Prelude.{ℕ, ℤ, pos, List, Option, Some, codes, drop, nat_eq, if◌then◌else◌, option_map, string_bytes}
use Rattle.std.specs.List.{starts_with}
use Rattle.jiff.specs.Words.{IsOffsetSeconds}
use Rattle.cal_civil.specs.computed.ReadOffset.{offset_in}
use Rattle.cal_civil.specs.rules.ZoneName.{is_utc_name, is_zone_name}
use Rattle.cal_zone.specs.declared.zone_argument.ZoneArgument as declared
use Rattle.cal_zone.specs.declared.zone_argument.ZoneArgument.TheVariants.{Utc, Offset, Posix, Name}

-- UTC itself, a UTC offset in seconds, a POSIX rule, or the name of a zone
pub data ZoneArgument : Type 0 where
  in_utc : ZoneArgument
  at_offset : (seconds : ℤ) → ZoneArgument
  by_rule : (rule : List ℕ) → ZoneArgument
  of_name : (name : List ℕ) → ZoneArgument

-- the zone that a text names: `UTC` (ignoring case), `posix:` and a rule, a text that has the form of a zone's name, or
-- an offset; None for any other text
unfoldable pub zone_argument_in : List ℕ → Option ZoneArgument
zone_argument_in text =
    if is_utc_name text then Some in_utc
    else if starts_with nat_eq text (codes "posix:") then Some (by_rule (drop 6 text))
    else if is_zone_name text then Some (of_name text)
    else option_map at_offset (offset_in text)

abbrev pub shown_zone_argument : declared.ZoneArgument → ZoneArgument
shown_zone_argument Utc = in_utc
shown_zone_argument (Offset seconds) = at_offset seconds
shown_zone_argument (Posix rule) = by_rule (string_bytes rule)
shown_zone_argument (Name name) = of_name (string_bytes name)

-- the UTC offset of a zone that is given by its offset, and 0 for every other zone
abbrev pub seconds_ahead : declared.ZoneArgument → ℤ
seconds_ahead Utc = pos 0
seconds_ahead (Offset seconds) = seconds
seconds_ahead (Posix rule) = pos 0
seconds_ahead (Name name) = pos 0

-- if the zone is given by its UTC offset, the offset is in the range of `IsOffsetSeconds`
abbrev pub HasOffset : declared.ZoneArgument → Type 0
HasOffset zone = IsOffsetSeconds (seconds_ahead zone)
