-- The condition that all elapses in a list are instants.
use Rattle.std.specs.Prelude.{ℤ, List}
use Rattle.cal_zone.specs.rules.Instant.{IsInstant}
use Rattle.cal_rising.specs.rules.Elements.{Has}

-- every element of the list is an instant that the program supports
abbrev pub AreInstants : List ℤ → Type 0
AreInstants xs = (i : ℤ) → Has xs i → IsInstant i
