use Rattle.cal_load.proofs.IgnoredSettingLemmas.{ignored_more}
use Rattle.cal_load.proofs.ignored.ignored_among.Goals as goal

pub loop-assignment-preserved : goal.loop-assignment-preserved
loop-assignment-preserved c =
    ignored_more c.args.name.now c.args.counted c.loop-assignment.yielded _ c.loop-assignment.ignored.items _ c.loop-assignment.invariant c.in_ok-push_if_ignored.ensures
