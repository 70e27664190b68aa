use Rattle.std.proofs.Common.{arith}
use Rattle.std.proofs.lemmas.Int.{ints}
use Rattle.cal_base.specs.CivilRules.LocalSecond.{seconds_in_all-is}
use Rattle.cal_library_tests.proofs.searches.found_from.Goals as goal

pub next_local-requires-clause-high : goal.next_local-requires-clause-high
next_local-requires-clause-high c = let count = seconds_in_all-is in omega (arith, ints)
