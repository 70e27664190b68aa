use Rattle.std.proofs.Common.{refl}
use Rattle.cal_unit_index.specs.rules.DropIns.{by_name}
use Rattle.cal_unit_index.proofs.DropInLemmas.{file_more}
use Rattle.cal_unit_index.proofs.drop_in_files.enter_all.Goals as goal

pub loop-file-init : goal.loop-file-init
unfolding by_name
loop-file-init c = rw c.new-entered.ensures.empty refl

pub loop-file-preserved : goal.loop-file-preserved
loop-file-preserved c = file_more c.loop-file.entered.entries c.enter.new.by_name.entries c.loop-file.yielded c.in-Some.file c.loop-file.invariant c.in_ok-enter.ensures
