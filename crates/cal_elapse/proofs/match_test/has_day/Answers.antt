use Rattle.std.proofs.Common.{◌≡◌, ◌+◌, ◌-◌, ◌%◌, ◌&&◌, arith, false, sym, true}
use Rattle.cal_elapse.specs.computed.Bits.{is_bit}
use Rattle.cal_elapse.specs.computed.Masks.{sets_in}
use Rattle.cal_elapse.specs.rules.Months.{day_in, month_in}
use Rattle.cal_elapse.proofs.DayLemmas.{day_in-bits}
use Rattle.cal_elapse.proofs.ExaminedMonthLemmas.{none_of_month}
use Rattle.cal_elapse.proofs.match_test.has_day.Goals.{After-has_bit}
use Rattle.cal_elapse.proofs.match_test.has_day.Goals as goal

pub returns-then-not-has_month : goal.returns-then-not-has_month
returns-then-not-has_month c =
    let month = c.month_of_day-month.result in
    let day = c.args.day in
    let fails : month_in (sets_in c.args.masks.now) month.index ≡ false = cc in
    sym (none_of_month (sets_in c.args.masks.now) month.index month.first month.length day month.index_in month.first_is month.length_is c.month_of_day-month.ensures.low fails day (omega arith) c.month_of_day-month.ensures.high)

-- the day matches if and only if both bits are set
bits : (c : After-has_bit) → day_in (sets_in c.args.masks.now) c.args.day
    ≡ (is_bit c.args.masks.now.weekdays ((c.args.day + 3) % 7) && is_bit c.args.masks.now.days (c.first_day_bit.result + (c.args.day - c.month_of_day-month.result.first)))
bits c =
    let month = c.month_of_day-month.result in
    let member : month_in (sets_in c.args.masks.now) month.index ≡ true = cc in
    day_in-bits c.args.masks.now month.index month.first month.length _ c.args.day month.index_in month.first_is month.length_is c.first_day_bit.ensures c.month_of_day-month.ensures.low c.month_of_day-month.ensures.high member

pub returns-then-has_bit : goal.returns-then-has_bit
returns-then-has_bit c =
    let weekday : is_bit c.args.masks.now.weekdays ((c.args.day + 3) % 7) ≡ true = cc in
    rw (bits (goal.at.returns-then-has_bit c).After-has_bit, weekday) c.has_bit-then-has_bit.ensures

pub returns-else-has_bit : goal.returns-else-has_bit
returns-else-has_bit c =
    let weekday : is_bit c.args.masks.now.weekdays ((c.args.day + 3) % 7) ≡ false = cc in
    rw (bits (goal.at.returns-else-has_bit c).After-has_bit, weekday) c.if-has_bit.false
