use Rattle.std.proofs.Common.{to_z, of_z, w16, arith}
use Rattle.std.proofs.lemmas.Int.{to_z_pos}
use Rattle.jiff.proofs.SpanFacts.{signed_arith}
use Rattle.cal_elapse.specs.rules.Months.{length_of}
use Rattle.cal_elapse.proofs.MonthLemmas.{first_is}
use Rattle.cal_elapse.proofs.month.month_at.Goals as goal

pub first_of-requires-clause-later : goal.first_of-requires-clause-later
first_of-requires-clause-later c = grind (arith, to_z, w16, of_z, to_z_pos, first_is, signed_arith)

pub invariant_of-result : goal.invariant_of-result
unfolding length_of
invariant_of-result c = grind (arith, to_z, w16, of_z, to_z_pos, first_is, signed_arith)
