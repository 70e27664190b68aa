use Rattle.std.proofs.Common.{sym, ◌∙◌}
use Rattle.cal_plan.proofs.AddedLemmas.{merge_added}
use Rattle.cal_plan.proofs.PlanLemmas.{all_zoned, merge_instants}
use Rattle.cal_plan.specs.rules.TimerElapses.{IsMergeOf, lists_shown}
use Rattle.cal_zone.specs.rules.Setting.{setting_seen}
use Rattle.cal_plan.proofs.merge.merge_of.Goals as goal

pub add_expressions-requires-clause-zones : goal.add_expressions-requires-clause-zones
add_expressions-requires-clause-zones c = (all_zoned _ (lists_shown c.args.lines.now c.args.exceptions.now) (sym c.find_unzoned.ensures ∙ c.in_default.is)).0

pub add_exceptions-requires-clause-zones : goal.add_exceptions-requires-clause-zones
add_exceptions-requires-clause-zones c = (all_zoned _ (lists_shown c.args.lines.now c.args.exceptions.now) (sym c.find_unzoned.ensures ∙ c.in_default.is)).1

pub returns : goal.returns
returns c =
    let lists = lists_shown c.args.lines.now c.args.exceptions.now in
    let merge : IsMergeOf (setting_seen c.args.setting) c.args.base.secs lists c.add_exceptions.new.merge = record {
      found = sym c.find_unzoned.ensures ∙ c.in_default.is;
      is = merge_added _ _ lists c.new-merge.result c.add_expressions.new.merge c.add_exceptions.new.merge c.new-merge.ensures
          c.in_ok-add_expressions.ensures c.in_ok-add_exceptions.ensures;
    } in
    record { merge = merge; instants = merge_instants _ _ lists c.add_exceptions.new.merge merge c.args.base.in_range.0 }
