-- The UTC offset at `low` is the one at the start, and the UTC offset `width` seconds later is another one.
use Rattle.std.proofs.Common.{◌≡◌, ◌≢◌, ◌+ℤ◌, ◌≤ℤ◌, ◌<◌, pos}
use Rattle.cal_zone.specs.rules.Zone.{zone_of}
use Rattle.cal_tasks.specs.rules.ZoneChange.{utc_offset}
use Rattle.cal_tasks.proofs.zone_change.change_within.Given as goal

abbrev pub invariant-loop-width : goal.invariant-loop-width
invariant-loop-width l = record {
  from : l.fn.from.secs ≤ℤ l.low;
  until : (l.low +ℤ pos l.width) ≤ℤ (l.fn.from.secs +ℤ pos l.fn.seconds);
  some : 0 < l.width;
  same : utc_offset (zone_of l.zone) l.low ≡ l.offset;
  other : utc_offset (zone_of l.zone) (l.low +ℤ pos l.width) ≢ l.offset;
}

abbrev pub decreases-loop-width : goal.decreases-loop-width
decreases-loop-width l = l.width
