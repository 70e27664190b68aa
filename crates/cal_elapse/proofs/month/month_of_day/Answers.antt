use Rattle.std.proofs.Common.{◌≡◌, ◌+◌, ◌*◌, ap, sym, ◌∙◌, arith}
use Rattle.jiff.specs.Types.{Date}
use Rattle.cal_civil.specs.rules.LocalSecond.{civil_date}
use Rattle.cal_elapse.specs.rules.Months.{month_of}
use Rattle.cal_elapse.proofs.MonthLemmas.{index_by, length_by, located, year_word}
use Rattle.cal_elapse.proofs.month.month_of_day.Goals as goal

pub years_since-requires : goal.years_since-requires
years_since-requires c =
    let at = located c.args.day c.requires in
    rw (c.date_of_day-date.ensures, year_word (civil_date c.args.day).year at.year_low at.year_high) (at.year_low, at.year_high)

pub overflow_sub-result : goal.overflow_sub-result
overflow_sub-result c =
    let day : c.from-2.result ≡ (civil_date c.args.day).day = c.from-2.ensures ∙ ap (λ (d : Date). d.day) c.date_of_day-date.ensures in
    omega (arith, located c.args.day c.requires)

pub invariant_of-result : goal.invariant_of-result
invariant_of-result c =
    let at = located c.args.day c.requires in
    let same = c.date_of_day-date.ensures in
    let index : c.years_since.result * 12 + c.from.result ≡ month_of (civil_date c.args.day) =
    index_by c.date_of_day-date.result (civil_date c.args.day) c.years_since.result c.from.result same c.years_since.ensures c.from.ensures at.year_low at.year_high in
    let day : c.from-2.result ≡ (civil_date c.args.day).day = c.from-2.ensures ∙ ap (λ (d : Date). d.day) same in
    let length = length_by c.date_of_day-date.result (civil_date c.args.day) c.into.result same (c.into.ensures ∙ c.days_in_month.ensures.value) at.year_low at.year_high in
    record {
      index_in = omega arith;
      first_is = rw index (omega arith);
      length_is = rw index (length ∙ sym at.length);
    }

pub returns-clause-index : goal.returns-clause-index
returns-clause-index c = grind (arith, located, index_by)
