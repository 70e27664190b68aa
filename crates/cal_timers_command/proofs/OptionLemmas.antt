-- Lemmas about the parsing of option values, and about errors.
use Rattle.std.proofs.Common.{◌<◌, length, true, false, arith, Bool, ◌++◌, codes, lit<, length-append}
use Rattle.clap.specs.Words.{Text}
use Rattle.cal_timers_command.specs.rules.OptionValues.{hint, zone_clash}

long : (words rest : Text) → 0 < length words → 0 < length (words ++ rest)
long words rest some = omega (arith, length-append words rest, some)

pub zone_clash_some : (is_zone_first : Bool) → 0 < length (zone_clash is_zone_first)
zone_clash_some true = long (codes "error: the argument '--zone <ZONE>' cannot be used with '--utc'") hint (lit< tt)
zone_clash_some false = long (codes "error: the argument '--utc' cannot be used with '--zone <ZONE>'") hint (lit< tt)
