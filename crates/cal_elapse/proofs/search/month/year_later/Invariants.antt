use Rattle.std.proofs.Common.{◌*◌}
use Rattle.cal_elapse.specs.computed.Bits.{is_bit_in}
use Rattle.cal_elapse.specs.rules.Search.{NonePasses}
use Rattle.cal_elapse.proofs.search.month.year_later.Given as goal

abbrev pub invariant-loop-word : goal.invariant-loop-word
invariant-loop-word l = NonePasses (is_bit_in l.years) (l.fn.first * 64) (l.word * 64)
