use Rattle.cal_answers.proofs.UnguardedLemmas.{stem_is}
use Rattle.cal_answers.proofs.unguarded.service_stem.Goals as goal

pub returns : goal.returns
returns c = stem_is c.args.unit.now c.strip_suffix.result c.strip_suffix.ensures.cases
