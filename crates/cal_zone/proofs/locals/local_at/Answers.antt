use Rattle.std.proofs.Common.{arith}
use Rattle.cal_civil.proofs.LocalLemmas.{local_arith}
use Rattle.cal_zone.proofs.LocalAtLemmas.{local_at-elsewhere, local_at-here, local_at-outside}
use Rattle.cal_zone.proofs.locals.local_at.Goals as goal

pub returns-then-local-lt0 : goal.returns-then-local-lt0
returns-then-local-lt0 c = local_at-outside _ _ _ c.local_shown_at-local.ensures (grind (arith, local_arith))

pub returns-in-Some : goal.returns-in-Some
returns-in-Some c = grind (arith, local_arith, local_at-here)

pub returns-in_default : goal.returns-in_default
returns-in_default c = local_at-elsewhere _ _ _ c.local_shown_at-local.ensures (grind (arith, local_arith))

pub returns-in_default-2 : goal.returns-in_default-2
returns-in_default-2 c = local_at-elsewhere _ _ _ c.local_shown_at-local.ensures (grind (arith, local_arith))
