use Rattle.std.proofs.Common.{◌≡◌, ◌∙◌, arith, pos}
use Rattle.std.proofs.lemmas.Int.{ints}
use Rattle.jiff.specs.Words.{IsBetween}
use Rattle.jiff.proofs.SpanFacts.{signed_arith}
use Rattle.cal_zone.proofs.YearLemmas.{day_of_year}
use Rattle.cal_stamp.proofs.date.day_of_date.Goals as goal

pub returns-in-Ok-clause-range : goal.returns-in-Ok-clause-range
returns-in-Ok-clause-range c =
    let is : c.in-Ok.date.year ≡ pos c.args.year = c.in-Ok.ensures.value.0 ∙ (omega (arith, ints)) in
    let year : IsBetween (pos 1970) (pos 2199) c.in-Ok.date.year = (omega (arith, signed_arith, is), omega (arith, signed_arith, is)) in
    let day = day_of_year c.in-Ok.date year in
    (omega (arith, signed_arith, day.0), omega (arith, signed_arith, day.1))
