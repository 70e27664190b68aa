use Rattle.std.proofs.Common.{◌∙◌, append-nil, subst}
use Rattle.std.proofs.lemmas.Result.{on_ok_weaker}
use Rattle.cal_unit_index.specs.rules.Index.{shown_fault}
use Rattle.cal_load.specs.rules.AllTargets.Sought.{UnreadPath}
use Rattle.cal_load.specs.rules.AllUnits.{IsPathFault}
use Rattle.cal_load.proofs.UnitLemmas.{pushed_more}
use Rattle.cal_load.proofs.timers.push_unread_path.Goals as goal

pub returns-clause-more : goal.returns-clause-more
returns-clause-more c =
    on_ok_weaker c.push.result (λ pushed.
    pushed_more _ (UnreadPath (shown_fault c.args.fault.now)) _ c.args.loaded.now c.push.new.self _ c.as_str-path.ensures.value pushed
    (λ machine search_path now. subst (λ path. IsPathFault path c.args.fault.now.reason c.at-unread.result) c.as_str-path.ensures.value c.at-unread.ensures)) c.push.ensures

pub returns-clause-timers : goal.returns-clause-timers
returns-clause-timers c = on_ok_weaker c.push.result (λ pushed. pushed.timers ∙ append-nil c.args.loaded.now.timers.items) c.push.ensures
