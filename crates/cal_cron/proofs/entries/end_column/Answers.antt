use Rattle.std.proofs.Common.{ap, arith, length}
use Rattle.cal_bytes.proofs.TrimLemmas.{trimmed_is_shorter}
use Rattle.cal_cron.proofs.entries.end_column.Goals as goal

pub overflow_cast-result : goal.overflow_cast-result
overflow_cast-result c =
    let short = trimmed_is_shorter c.args.line.now in
    let same = ap length c.trim_blanks_end.ensures in
    omega (arith, short, same)

pub overflow_add-result : goal.overflow_add-result
overflow_add-result c =
    let short = trimmed_is_shorter c.args.line.now in
    let same = ap length c.trim_blanks_end.ensures in
    omega (arith, short, same)
