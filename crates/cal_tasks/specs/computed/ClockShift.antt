-- The gap or the fold of a change of a zone, as a range of local seconds.
use Rattle.std.specs.Prelude.{◌≡◌, ℤ, ◌≤ℤ◌}
use Rattle.jiff.specs.Types.{TimeZone}
use Rattle.cal_zone.specs.rules.Zone.{local_shown_at}
use Rattle.cal_tasks.specs.rules.ClockNotes.{shown_unchanged}
use Rattle.cal_tasks.specs.declared.clock_note.ClockChange.{ClockChange}
use Rattle.cal_tasks.specs.declared.clock_note.ClockChange.TheVariants.{Skipped, Repeated}
use Rattle.cal_tasks.specs.declared.clock_shift.ClockShift.{ClockShift}

-- the first local second of the gap or fold; `shift_to` is the local second after the last one of the gap or fold
abbrev pub shift_from : TimeZone → ℤ → ClockChange → ℤ
shift_from tz change Skipped = shown_unchanged tz change
shift_from tz change Repeated = local_shown_at tz change

abbrev pub shift_to : TimeZone → ℤ → ClockChange → ℤ
shift_to tz change Skipped = local_shown_at tz change
shift_to tz change Repeated = shown_unchanged tz change

-- the local seconds from `from` on and before `to` are those of the gap or of the fold
pub record IsShiftOf (tz : TimeZone) (change : ℤ) (shift : ClockShift) : Type 0 where
  pub first : shift.from ≡ shift_from tz change shift.kind
  pub end : shift.to ≡ shift_to tz change shift.kind
  pub order : shift.from ≤ℤ shift.to
