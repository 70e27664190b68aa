use Rattle.std.proofs.Common.{◌≡◌, ◌∙◌, ap, arith, to_z-of_z}
use Rattle.jiff.proofs.SpanFacts.{signed_arith}
use Rattle.jiff.specs.Words.{epoch_day}
use Rattle.cal_zone.specs.rules.Place.{datetime_of}
use Rattle.cal_zone.proofs.RuleLemmas.{year_end-december}
use Rattle.cal_zone.proofs.local_offset_range.year_after.Goals as goal

pub returns-clause-value : goal.returns-clause-value
returns-clause-value c =
    let last = c.last_of_year-last.ensures in
    let shown : c.datetime.result ≡ datetime_of c.args.second = c.datetime.ensures ∙ ap datetime_of (to_z-of_z c.ranges.second) in
    let year : c.last_of_year-last.result.year ≡ (datetime_of c.args.second).date.year = last.0 ∙ ap (λ date. date.year) c.date.ensures ∙ ap (λ time. time.date.year) shown in
    let end = year_end-december c.last_of_year-last.result (datetime_of c.args.second).date.year year last.1 last.2 in
    let day = c.to_unix_epoch_day.ensures.value ∙ ap epoch_day c.to_plain.ensures in
    let bound = c.to_unix_epoch_day.ensures.bound in
    omega (arith, signed_arith, c.from.ensures)
