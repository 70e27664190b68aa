use Rattle.std.proofs.lemmas.Bool.{eqb-true}
use Rattle.cal_elapse.proofs.AmongLemmas.{has_all}
use Rattle.cal_elapse.proofs.covers.has_all.Goals as goal

pub returns : goal.returns
returns c = λ same. has_all c.args.mask c.args.others (eqb-true _ _ same)
