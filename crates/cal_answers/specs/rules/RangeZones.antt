-- The zones that the start and the end of a range name: systemd.time(7), Parsing Timestamps.
use Rattle.std.specs.Prelude.{◌≡◌, ◌≢◌, ℕ, true, false, if◌then◌else◌, List, [], Result, Ok, Err, is_some, string_bytes}
use Rattle.std.specs.FinMap.{empty}
use Rattle.std.specs.List.{after_last, list_any}
use Rattle.cal_bytes.specs.rules.Separators.{is_blank}
use Rattle.cal_civil.specs.rules.ZoneName.{is_zone_name}
use Rattle.cal_machine.specs.rules.Machine.{Machine}
use Rattle.cal_timers_command.specs.declared.question.Question.{Question}
use Rattle.cal_timers_command.specs.declared.question.Question.TheVariants as questions
use Rattle.cal_zone.specs.rules.ZoneTable.{ZoneMap, zone_named}
use Rattle.cal_zone_files.specs.declared.fault.FileReason.{FileReason}
use Rattle.cal_zone_files.specs.declared.fault.ZonesFault.{ZonesFault}
use Rattle.cal_zone_files.specs.declared.fault.ZonesFault.TheVariants as faults
use Rattle.cal_zone_files.specs.rules.ZoneFiles.{HasZonesOf, IsReasonOn}
use Rattle.cal_answers.specs.declared.range_zones.RangeZones.{RangeZones}

-- what follows the last blank of a text; nothing if it has no blank, since a zone comes after a date or a time
abbrev pub last_part : List ℕ → List ℕ
last_part text = if list_any is_blank text then after_last is_blank text else []

-- Each zone of the table, except UTC, is the machine's zone of this name. If the last word of the text has the form of
-- a zone's name, the table lacks this zone only if its file can't be used.
pub record HasZoneAtEnd (machine : Machine) (text : List ℕ) (table : ZoneMap) : Type 0 where
  pub of_machine : HasZonesOf machine table
  pub lacks : is_zone_name (last_part text) ≡ true → is_some (zone_named table (last_part text)) ≡ false
      → (reason : FileReason) × IsReasonOn machine (last_part text) reason

-- the text of the range's start, which only `between` has; empty for other verbs
abbrev pub range_start : Question → List ℕ
range_start (questions.List given all crons) = []
range_start (questions.Show given most) = []
range_start (questions.Lint given all strict) = []
range_start (questions.Between start end given all crons) = string_bytes start
range_start (questions.Same a b) = []
range_start (questions.Next given most) = []
range_start (questions.Due given) = []
range_start (questions.Cron given) = []

-- the text of the range's end; empty for other verbs than `between`
abbrev pub range_end : Question → List ℕ
range_end (questions.List given all crons) = []
range_end (questions.Show given most) = []
range_end (questions.Lint given all strict) = []
range_end (questions.Between start end given all crons) = string_bytes end
range_end (questions.Same a b) = []
range_end (questions.Next given most) = []
range_end (questions.Due given) = []
range_end (questions.Cron given) = []

-- the zones that the start and the end of the range can name on this machine
pub record AreRangeZones (machine : Machine) (question : Question) (zones : RangeZones) : Type 0 where
  pub from : HasZoneAtEnd machine (range_start question) zones.from
  pub before : HasZoneAtEnd machine (range_end question) zones.before

-- ## Steps

-- the table that was loaded; if loading failed, a table with only UTC, unless memory ran out
abbrev pub IsTableOf : Result ZoneMap ZonesFault → ZoneMap → Type 0
IsTableOf (Ok loaded) table = table ≡ loaded
IsTableOf (Err fault) table = (fault ≢ faults.NoMemory) × (table ≡ empty)
