use Rattle.std.proofs.Common.{◌≡◌, false, arith}
use Rattle.cal_elapse.specs.computed.Masks.{sets_in}
use Rattle.cal_elapse.specs.rules.Months.{month_in}
use Rattle.cal_elapse.proofs.ExaminedMonthLemmas.{first_in_month, none_in_month, none_of_month}
use Rattle.cal_elapse.proofs.MonthLemmas.{length_bounds}
use Rattle.cal_elapse.proofs.search.day.next_in_month.Goals as goal

pub returns-then-not-has_month-clause-first : goal.returns-then-not-has_month-clause-first
returns-then-not-has_month-clause-first c =
    let month = c.args.month in
    let fails : month_in (sets_in c.args.masks.now) month.index ≡ false = cc in
    none_of_month (sets_in c.args.masks.now) month.index month.first month.length c.args.from month.index_in month.first_is month.length_is c.requires.low fails

pub returns-in-Some-clause-first : goal.returns-in-Some-clause-first
returns-in-Some-clause-first c =
    let month = c.args.month in
    first_in_month (sets_in c.args.masks.now) month.first month.length c.of.result.bits c.args.from c.in-Some.day
    (record { days = c.of.ensures.days; within = c.of.ensures.within }) c.requires.low (search (c.in-Some.ensures))

pub returns-in-None-clause-first : goal.returns-in-None-clause-first
returns-in-None-clause-first c =
    let month = c.args.month in
    let bounds = length_bounds month.index in
    none_in_month (sets_in c.args.masks.now) month.first month.length c.of.result.bits c.args.from
    (record { days = c.of.ensures.days; within = c.of.ensures.within }) c.requires.low (omega arith) c.in-None.ensures
