-- The elapses of an expression in a zone are instants if the base time isn't negative.
use Rattle.std.proofs.Common.{[], ◌∷◌, ℤ, pos, ◌≤ℤ◌}
use Rattle.jiff.specs.Types.{TimeZone}
use Rattle.cal_elapse.specs.rules.ElapsesAfter.{elapses_after}
use Rattle.cal_elapse.specs.rules.Elapses.{timed}
use Rattle.cal_elapse.proofs.ElapsesLemmas.{elapses_except-none}
use Rattle.cal_elapse.proofs.InstantLemmas.{IsInstant-pairs}
use Rattle.cal_spec.specs.rules.Fields.{Fields}
use Rattle.cal_plan.specs.rules.Instants.{AreInstants}

pub elapses_are_instants : (fields : Fields) (tz : TimeZone) (base : ℤ) → pos 0 ≤ℤ base → AreInstants (elapses_after (timed fields tz ∷ []) base)
elapses_are_instants fields tz base low i there =
    IsInstant-pairs ((fields, tz) ∷ []) [] base i low (rw (elapses_except-none (timed fields tz ∷ []) base) there)
