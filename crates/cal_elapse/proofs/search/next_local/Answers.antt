use Rattle.std.proofs.lemmas.Int.{ints}
use Rattle.cal_civil.specs.rules.LocalSecond.{seconds_in_all-is}
use Rattle.std.proofs.Common.{◌≡◌, ◌+◌, ◌*◌, ◌/◌, ℕ, Some, arith, pos, subst, sym, unsigned_abs}
use Rattle.cal_civil.proofs.LocalLemmas.{local_arith}
use Rattle.cal_elapse.specs.computed.Masks.{sets_in}
use Rattle.cal_elapse.specs.rules.Months.{day_in}
use Rattle.cal_elapse.specs.rules.Search.{IsFirstPassing, NonePasses}
use Rattle.cal_elapse.proofs.ExaminedMonthLemmas.{examined_end}
use Rattle.cal_elapse.proofs.SearchLemmas.{first_found, none_found}
use Rattle.cal_elapse.proofs.search.next_local.Goals as goal

pub returns-then-from-eq-LOCAL_END-clause-first : goal.returns-then-from-eq-LOCAL_END-clause-first
returns-then-from-eq-LOCAL_END-clause-first c = λ t above below. absurd (omega (arith, ints, seconds_in_all-is))

pub returns-then-from-eq-LOCAL_END-clause-counted : goal.returns-then-from-eq-LOCAL_END-clause-counted
returns-then-from-eq-LOCAL_END-clause-counted c =
    let day : unsigned_abs c.args.from / 86_400 ≡ 84_006 = grind (arith, local_arith) in
    rw day (sym (examined_end (sets_in c.args.masks.now)))

pub returns-in-None-clause-first : goal.returns-in-None-clause-first
returns-in-None-clause-first c =
    let s = sets_in c.args.masks.now in
    let from : pos (c.day_of-day.result * 86_400 + c.second_of_day.result) ≡ c.args.from = grind (arith, local_arith) in
    none_found s c.day_of-day.result c.second_of_day.result c.args.from c.next_second-today.result from (omega (arith, ints, seconds_in_all-is)) (omega arith) c.next_second-today.ensures
    (subst (λ (d : ℕ). NonePasses (day_in s) d 84_006) c.day_to_start.ensures c.in-None.ensures.first)

pub returns-in-Some-clause-first : goal.returns-in-Some-clause-first
returns-in-Some-clause-first c =
    let s = sets_in c.args.masks.now in
    let from : pos (c.day_of-day.result * 86_400 + c.second_of_day.result) ≡ c.args.from = grind (arith, local_arith) in
    first_found s c.day_of-day.result c.second_of_day.result c.in-Some.found c.first_second.result c.args.from _ c.next_second-today.result from (omega (arith, ints, seconds_in_all-is)) (omega arith)
    c.next_second-today.ensures (subst (λ (d : ℕ). IsFirstPassing (day_in s) d 84_006 (Some c.in-Some.found)) c.day_to_start.ensures c.in-Some.ensures.first) c.first_second.ensures
    (grind (arith, local_arith))
