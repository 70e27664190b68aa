use Rattle.cal_load.proofs.PathLemmas.{trimmed_is}
use Rattle.cal_answers.proofs.compare.without_end_slashes.Goals as goal

pub returns : goal.returns
returns c = trimmed_is c.args.target.now c.trim_end_matches.result.now c.trim_end_matches.ensures.matches
