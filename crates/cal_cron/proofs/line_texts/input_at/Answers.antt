use Rattle.std.proofs.Common.{arith}
use Rattle.std.proofs.lemmas.Str.{IsCharBoundary-after_ascii}
use Rattle.cal_cron.proofs.line_texts.input_at.Goals as goal

pub range_from-requires : goal.range_from-requires
range_from-requires c = λ _.
    let percent = c.requires.percent c.if-index-text.true in
    IsCharBoundary-after_ascii c.args.text.now c.args.index c.utf8.text c.if-index-text.true (omega (arith, percent))
