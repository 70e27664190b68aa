use Rattle.std.proofs.Common.{◌∙◌, refl}
use Rattle.std.proofs.lemmas.Result.{IfOk-weaker}
use Rattle.cal_lint.proofs.FindingsLemmas.{faults_of_one}
use Rattle.cal_lint.proofs.problems.timer_faults.Goals as goal

pub returns : goal.returns
returns c = IfOk-weaker c.find_faults.result _ _ (λ found h. h ∙ faults_of_one _ refl) c.find_faults.ensures
