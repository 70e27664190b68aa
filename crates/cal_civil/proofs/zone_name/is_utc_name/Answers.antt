use Rattle.std.proofs.Common.{rules}
use Rattle.std.proofs.lemmas.Slice.Eq.{bytes_eq-Decides}
use Rattle.cal_civil.specs.rules.ZoneName.{is_utc_name}
use Rattle.cal_civil.proofs.zone_name.is_utc_name.Goals as goal

pub returns : goal.returns
unfolding is_utc_name
returns c = search (rules, bytes_eq-Decides)
