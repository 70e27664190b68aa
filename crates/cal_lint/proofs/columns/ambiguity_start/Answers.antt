use Rattle.std.proofs.Common.{ap, arith, length}
use Rattle.cal_bytes.proofs.TrimLemmas.{trimmed_is_shorter}
use Rattle.cal_lint.proofs.columns.ambiguity_start.Goals as goal

pub returns-in-Abbreviation-clause-within : goal.returns-in-Abbreviation-clause-within
returns-in-Abbreviation-clause-within c =
    omega (arith, c.last_word_start.ensures.within, ap length c.trim_blanks_end.ensures, trimmed_is_shorter c.args.value.now)
