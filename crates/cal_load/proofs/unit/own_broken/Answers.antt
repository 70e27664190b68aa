use Rattle.std.proofs.Common.{◌∙◌, ap, sym}
use Rattle.std.specs.Prelude.{slice_get}
use Rattle.cal_load.proofs.TextLemmas.{first_broken, no_first_broken}
use Rattle.cal_load.proofs.unit.own_broken.Goals as goal

pub returns-in-Some : goal.returns-in-Some
returns-in-Some c files is = first_broken files c.in-Some.line.now (ap (λ all. slice_get all 0) (sym is) ∙ sym c.in-Some.ensures.value)

pub returns-in-None : goal.returns-in-None
returns-in-None c files is = no_first_broken files (ap (λ all. slice_get all 0) (sym is) ∙ sym c.in-None.ensures.value)
