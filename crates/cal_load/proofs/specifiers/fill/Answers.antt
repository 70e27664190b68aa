use Rattle.cal_load.specs.rules.Specifiers.{filling_of}
use Rattle.cal_load.proofs.SpecifierLemmas.{joined_more}
use Rattle.cal_load.proofs.specifiers.fill.Goals as goal

pub loop-part-preserved : goal.loop-part-preserved
loop-part-preserved c = joined_more (filling_of c.args.name.now) _ _ _ _ _ _ c.in-Some.ensures.0 c.in_ok-push_part.ensures c.loop-part.invariant
