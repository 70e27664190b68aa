use Rattle.cal_lint.proofs.InstanceLemmas.{around_percent-split}
use Rattle.cal_lint.proofs.instances.around_percent.Goals as goal

pub returns : goal.returns
returns c = around_percent-split c.args.value.now c.split_once.result c.split_once.ensures.cases
