-- Applying the assignments of the texts before `index` to two empty lists gives the lists so far.
use Rattle.std.proofs.Common.{◌≡◌, take, Ok}
use Rattle.cal_spec.specs.computed.Expr.{expr_in}
use Rattle.cal_read.specs.rules.TimerTexts.{assignments_of}
use Rattle.cal_timer.specs.computed.ResumedLists.{empty_lists, resumed}
use Rattle.cal_read.proofs.texts.read_texts.Given as goal

abbrev pub invariant-loop-index : goal.invariant-loop-index
invariant-loop-index l = resumed expr_in empty_lists (assignments_of (take l.index l.files)) ≡ Ok l.lists
