use Rattle.cal_stamp.proofs.StampMomentRuleLemmas.{resolves}
use Rattle.cal_stamp.proofs.laws.one_moment.Goals as goal

pub returns : goal.returns
returns c = resolves
