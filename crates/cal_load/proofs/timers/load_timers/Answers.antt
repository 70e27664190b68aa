use Rattle.std.proofs.Common.{[], ap, arith, get_or, map, refl}
use Rattle.std.proofs.lemmas.List.{take_all}
use Rattle.std.proofs.lemmas.List.Elements.{All-nil}
use Rattle.std.specs.List.{flat_map}
use Rattle.cal_load.specs.rules.AllTargets.{sought_by}
use Rattle.cal_load.specs.rules.Loaded.{IsTimerOn}
use Rattle.cal_load.proofs.UnitLemmas.{all_loaded, more_as, none_more, target_more}
use Rattle.cal_load.proofs.timers.load_timers.Goals as goal

pub loop-target-init : goal.loop-target-init
loop-target-init g c = (
  λ machine search_path shows is. rw c.new-loaded.ensures.timers (All-nil (IsTimerOn machine search_path)),
  λ machine shows. shows,
  none_more _ c.new-loaded.result,
)

pub loop-target-preserved : goal.loop-target-preserved
loop-target-preserved g c = (
  λ machine search_path shows is. c.in_ok-load_target.ensures.known machine search_path shows is (c.loop-target.invariant.0 machine search_path (c.load_target.ensures.grows machine shows) is),
  λ machine shows. c.loop-target.invariant.1 machine (c.load_target.ensures.grows machine shows),
  target_more _ _ c.args.targets.now c.loop-target.target-index (get_or c.args.targets.now c.loop-target.target-index (record { ref_ptr = (0, 0); now = [] })) (record { ref_ptr = (0, 0); now = [] }) c.new-loaded.result c.loop-target.loaded c.load_target.new.loaded
      (λ machine search_path now. (c.load_target.ensures.grows machine now.0, now.1)) (omega arith) refl c.loop-target.invariant.2 c.in_ok-load_target.ensures.more,
)

pub returns-clause-targets : goal.returns-clause-targets
returns-clause-targets g c some =
    all_loaded _ _ c.new-loaded.result c.loop-target.loaded c.new-loaded.ensures.timers c.new-loaded.ensures.masked
    (more_as _ _ _ _ c.new-loaded.result c.loop-target.loaded (λ machine search_path now. now)
    (λ machine search_path now. ap (λ targets. flat_map (sought_by machine) (map (λ target. target.now) targets)) (take_all c.loop-target.target-index c.args.targets.now (omega arith))) c.loop-target.invariant.2)
