use Rattle.std.proofs.Common.{◌≡◌, ◌+◌, ℕ, suc, ap, ◌∙◌, subst, arith}
use Rattle.cal_elapse.specs.computed.Masks.{sets_in}
use Rattle.cal_elapse.specs.rules.Months.{day_in, first_day, first_day-suc}
use Rattle.cal_elapse.specs.rules.Search.{IsFirstPassing}
use Rattle.cal_elapse.proofs.CarryLemmas.{first_then, first_within}
use Rattle.cal_elapse.proofs.MonthLemmas.{first_day-end, first_day-rises}
use Rattle.cal_elapse.proofs.search.day.next_day.Goals as goal

pub returns-in-Some-clause-first : goal.returns-in-Some-clause-first
returns-in-Some-clause-first c =
    let month = c.args.month in
    let rises = first_day-rises (suc month.index) 2_760 (omega arith) in
    let all = first_day-end in
    let next = first_day-suc month.index in
    first_within (day_in (sets_in c.args.masks.now)) c.args.from (month.first + month.length) 84_006 c.in-Some.day (omega arith) c.in-Some.ensures.first

pub returns-in-None-clause-first : goal.returns-in-None-clause-first
returns-in-None-clause-first c =
    let month = c.args.month in
    let one : month.index + 1 ≡ suc month.index = omega arith in
    let next : first_day (month.index + 1) ≡ month.first + month.length = ap first_day one ∙ (first_day-suc month.index ∙ omega arith) in
    first_then (day_in (sets_in c.args.masks.now)) c.args.from (month.first + month.length) 84_006 c.next_from_month.result c.in-None.ensures.first c.requires.high
    (subst (λ (t : ℕ). IsFirstPassing (day_in (sets_in c.args.masks.now)) t 84_006 c.next_from_month.result) next c.next_from_month.ensures.first)
