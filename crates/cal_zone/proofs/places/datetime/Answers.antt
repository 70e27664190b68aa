use Rattle.std.proofs.Common.{arith}
use Rattle.jiff.specs.Words.{IsEpochDay}
use Rattle.jiff.proofs.Family.{same_datetime}
use Rattle.jiff.proofs.SpanFacts.{signed_arith}
use Rattle.cal_civil.specs.rules.LocalSecond.{day_of}
use Rattle.cal_zone.proofs.PlaceLemmas.{civil_nanos-datetime_of}
use Rattle.cal_zone.specs.rules.Place.{datetime_of}
use Rattle.cal_zone.proofs.places.datetime.Goals as goal

pub returns : goal.returns
returns c =
    let day : IsEpochDay (day_of c.args.local) = (omega (arith, signed_arith), omega (arith, signed_arith)) in
    same_datetime _ (datetime_of c.args.local)
    (omega (arith, signed_arith, c.to_datetime.ensures, c.in-Ok.ensures.value, civil_nanos-datetime_of c.args.local day))
