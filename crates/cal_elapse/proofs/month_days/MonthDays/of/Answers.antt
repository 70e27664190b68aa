use Rattle.std.proofs.Common.{◌≡◌, nat_lt, true, ◌∙◌, arith}
use Rattle.std.proofs.lemmas.Bool.Decides.{nat_tests}
use Rattle.cal_elapse.proofs.DayLemmas.{days_are, days_end}
use Rattle.cal_elapse.proofs.month_days.MonthDays.of.Goals as goal

pub returns-clause-days : goal.returns-clause-days
returns-clause-days c = λ k small.
    let month = c.args.month in
    let yes : nat_lt k month.length ≡ true = grind (arith, nat_tests) in
    search
    (days_are c.args.masks.now month.index month.first month.length c.first_day_bit.result c.all_days.result k month.index_in month.first_is month.length_is
    c.first_day_bit.ensures c.requires.member small (c.all_days.ensures k ∙ yes))

pub returns-clause-within : goal.returns-clause-within
returns-clause-within c = λ k holds. days_end _ c.all_days.result c.args.month.length k c.all_days.ensures holds
