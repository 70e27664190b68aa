-- The UTC offset has been the same on each day so far, and `from` is as many days after `after` as the loop has made
-- iterations.
use Rattle.std.proofs.Common.{◌≡◌}
use Rattle.cal_zone.specs.rules.Zone.{zone_of}
use Rattle.cal_tasks.specs.rules.ZoneChange.{utc_offset}
use Rattle.cal_tasks.proofs.ZoneChangeLemmas.{IsSameUntil}
use Rattle.cal_tasks.proofs.zone_change.next_change.Given as goal

abbrev pub invariant-loop : goal.invariant-loop
invariant-loop l = record {
  offset : l.offset ≡ utc_offset (zone_of l.zone) l.fn.after.secs;
  same : IsSameUntil (zone_of l.zone) l.fn.after.secs l.from.secs l.counter;
}
