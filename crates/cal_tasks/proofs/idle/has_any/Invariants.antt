-- At least one of the instants is an elapse if and only if this is true of the instants at the loop's index and after
-- it. The source of the elapses is unchanged.
use Rattle.std.proofs.Common.{◌≡◌, drop, map}
use Rattle.std.specs.List.{list_any}
use Rattle.std.specs.Ordering.{int_eq}
use Rattle.std.specs.Set.{is_member}
use Rattle.cal_elapse.specs.computed.RemainingElapses.{remaining_elapses}
use Rattle.cal_tasks.proofs.idle.has_any.Given as goal

abbrev pub invariant-loop-instant : goal.invariant-loop-instant
invariant-loop-instant l = record {
  same : l.elapses ≡ l.fn.elapses;
  rest : list_any (is_member int_eq (remaining_elapses l.fn.elapses)) (map (λ instant. instant.secs) l.instants)
      ≡ list_any (is_member int_eq (remaining_elapses l.fn.elapses)) (map (λ instant. instant.secs) (drop l.instant-index l.instants));
}
