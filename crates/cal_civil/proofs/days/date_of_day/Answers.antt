use Rattle.std.proofs.Common.{arith}
use Rattle.std.proofs.lemmas.Int.{to_z_pos}
use Rattle.jiff_core.proofs.SignedLemmas.{signed_arith}
use Rattle.cal_civil.proofs.DayLemmas.{date_numbered}
use Rattle.cal_civil.proofs.days.date_of_day.Goals as goal

pub returns : goal.returns
returns c = grind (arith, signed_arith, to_z_pos, date_numbered, c.in-Ok.ensures.value)
