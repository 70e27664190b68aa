use Rattle.std.proofs.Common.{◌%◌, slice_index_or, false}
use Rattle.cal_elapse.proofs.MasksLemmas.{filled_none}
use Rattle.cal_elapse.proofs.masks_of.weeks.Goals as goal

pub loop-index-init : goal.loop-index-init
loop-index-init c = filled_none (λ i. slice_index_or c.args.weekdays.now (i % 7) false)
