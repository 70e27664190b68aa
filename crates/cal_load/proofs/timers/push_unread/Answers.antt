use Rattle.std.proofs.Common.{◌≡◌, ◌∙◌, ap, map, refl, sym}
use Rattle.std.proofs.lemmas.Iterator.Adapters.{YieldsList-from_vec}
use Rattle.std.proofs.lemmas.Iterator.Consumers.{YieldsList-end}
use Rattle.std.proofs.lemmas.List.{map-id}
use Rattle.cal_unit_index.specs.rules.Index.{shown_fault}
use Rattle.cal_load.specs.rules.AllTargets.Sought.{UnreadPath}
use Rattle.cal_load.proofs.UnitLemmas.{more_as, none_more, one_more}
use Rattle.cal_load.proofs.timers.push_unread.Goals as goal

pub loop-fault-init : goal.loop-fault-init
loop-fault-init c = (none_more _ c.args.loaded.now, refl)

pub loop-fault-preserved : goal.loop-fault-preserved
loop-fault-preserved c = (
  one_more _ _ UnreadPath shown_fault c.loop-fault.yielded c.in-Some.fault _ c.args.loaded.now c.loop-fault.loaded c.push_unread_path.new.loaded
      (λ machine search_path now. now) refl c.loop-fault.invariant.0 c.in_ok-push_unread_path.ensures.more,
  c.in_ok-push_unread_path.ensures.timers ∙ c.loop-fault.invariant.1,
)

pub returns-clause-more : goal.returns-clause-more
returns-clause-more c =
    let faults = c.args.unread.items in
    let gives = c.into_iter-fault-iterator.ensures.into_iter_gives in
    let done = YieldsList-end (YieldsList-from_vec faults gives.0 (gives.1 ∙ c.args.unread.ok.0)) c.loop-fault.yielded c.loop-fault.fault-iterator c.loop-fault.yielded_by _ c.next.new.self c.in-None.is c.next.ensures.steps in
    let all : map shown_fault c.loop-fault.yielded ≡ map shown_fault faults = ap (map shown_fault) (sym (map-id c.loop-fault.yielded) ∙ done.0) in
    more_as _ _ _ _ c.args.loaded.now c.loop-fault.loaded (λ machine search_path now. now) (λ machine search_path now. ap (map UnreadPath) all) c.loop-fault.invariant.0
