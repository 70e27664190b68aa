-- A lemma on elapses that are sorted.
use Rattle.std.proofs.Common.{◌≡◌, IsPermutation, List, map, subst}
use Rattle.std.proofs.lemmas.List.Sorted.{IsPermutation-map}
use Rattle.cal_tasks.specs.rules.SeveralTimers.{Elapse, elapse_seen}
use Rattle.cal_tasks.specs.declared.timer_elapse.TimerElapse.{TimerElapse}

-- elapses in another order are still the same elapses
pub same_elapses : (whole : List Elapse) (old new : List TimerElapse) → map elapse_seen old ≡ whole → IsPermutation old new → IsPermutation whole (map elapse_seen new)
same_elapses whole old new is same =
    subst (λ (elapses : List Elapse). IsPermutation elapses (map elapse_seen new)) is (IsPermutation-map elapse_seen old new same)
