-- The notes cover each matching local time before `next` that the change skips or repeats.
use Rattle.std.proofs.Common.{◌≤ℤ◌, ◌<ℤ◌, ◌-ℤ◌, pos}
use Rattle.std.specs.Int.RustNames.{unsigned_abs}
use Rattle.cal_civil.specs.rules.LocalSecond.{seconds_in_all}
use Rattle.cal_tasks.specs.computed.KeptNotes.{KeepsAllBefore}
use Rattle.cal_elapse.specs.computed.Masks.{sets_in}
use Rattle.cal_zone.specs.rules.Zone.{zone_of}
use Rattle.cal_tasks.proofs.skipped.add_notes_of_change.Given as goal

abbrev pub invariant-loop-local : goal.invariant-loop-local
invariant-loop-local l = record {
  low : pos 0 ≤ℤ l.next;
  high : l.next ≤ℤ pos seconds_in_all;
  from : l.next <ℤ pos seconds_in_all → l.shift.from ≤ℤ l.next;
  kept : KeepsAllBefore (zone_of l.zone) (sets_in l.masks) l.change.secs l.zone_index l.next l.fn.notes.items l.notes.items;
}

abbrev pub decreases-loop-local : goal.decreases-loop-local
decreases-loop-local l = unsigned_abs (pos seconds_in_all -ℤ l.next)
