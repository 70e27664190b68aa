use Rattle.std.proofs.Common.{arith}
use Rattle.cal_tasks.proofs.LineLemmas.{one_zone, own_zone}
use Rattle.cal_tasks.proofs.skipped.first_in_zone.Goals as goal

pub returns-then-names_same_zone : goal.returns-then-names_same_zone
returns-then-names_same_zone c =
    one_zone c.args.lines.now c.loop-earlier.earlier c.args.index c.index-lines-earlier.result c.index-lines-index.result (omega arith) c.index-lines-earlier.is c.index-lines-index.is
    (c.names_same_zone.ensures c.if-names_same_zone.true)

pub returns : goal.returns
returns c = own_zone c.args.lines.now c.args.index
