use Rattle.std.proofs.Common.{◌≡◌, ◌+◌, ◌-◌, ℕ, suc, Some, ap, sym, ◌∙◌, subst, refl, inl, inr, arith}
use Rattle.std.proofs.lemmas.Bool.{cases_lt}
use Rattle.cal_elapse.specs.rules.Search.{count_from, IsFirstPassing, NonePasses}
use Rattle.cal_elapse.specs.computed.Masks.{sets_in}
use Rattle.cal_elapse.specs.rules.Months.{day_in, first_day, first_day-suc, length_of, month_in}
use Rattle.cal_elapse.specs.computed.Bits.{is_bit}
use Rattle.cal_elapse.proofs.CarryLemmas.{first_then, first_within}
use Rattle.cal_elapse.proofs.CountLemmas.{count_from-on}
use Rattle.cal_elapse.proofs.ExaminedMonthLemmas.{count_step, first_in_month, examined_some, none_in_month}
use Rattle.cal_elapse.proofs.MonthLemmas.{first_day-end, first_day-rises, length_bounds, months_none}
use Rattle.cal_elapse.proofs.search.day.next_from_month.Goals as goal

pub returns-in-Some-next-clause-first : goal.returns-in-Some-next-clause-first
returns-in-Some-next-clause-first c =
    let month = c.month_at-month.result in
    let days = day_in (sets_in c.args.masks.now) in
    let index = c.loop-next.index in
    let inv = c.loop-next.invariant in
    let found = c.in-Some.ensures in
    let same = c.month_at-month.ensures in
    let begins : month.first ≡ first_day c.in-Some.next = month.first_is ∙ ap first_day same in
    let last = first_day-suc month.index in
    let within = month.index_in in
    let ends = first_day-rises (month.index + 1) 2_760 (omega arith) in
    let next : month.index + 1 ≡ suc month.index = omega arith in
    let all = first_day-end in
    let last_day : first_day (month.index + 1) ≡ month.first + month.length = ap first_day next ∙ (last ∙ omega (arith, month.first_is, month.length_is)) in
    let start : 0 ≡ month.first - month.first = omega arith in
    let here = first_in_month (sets_in c.args.masks.now) month.first month.length c.of.result.bits month.first c.in-Some-next.day
    (record { days = c.of.ensures.days; within = c.of.ensures.within }) (omega arith)
    (subst (λ (n : ℕ). IsFirstPassing (is_bit c.of.result.bits) n 64 (Some c.in-Some-next.day)) start (search (c.in-Some-next.ensures))) in
    let none = months_none (sets_in c.args.masks.now) index c.in-Some.next (omega (arith, found.1)) found.3 in
    let rises_from = first_day-rises c.args.from index inv.from_in in
    let rises = first_day-rises index c.in-Some.next found.0 in
    let before = subst (λ (t : ℕ). NonePasses days (first_day index) t) (sym begins) none in
    first_then days (first_day c.args.from) (first_day index) 84_006 (Some (month.first + c.in-Some-next.day)) inv.none rises_from
    (first_then days (first_day index) month.first 84_006 (Some (month.first + c.in-Some-next.day)) before (omega arith)
    (first_within days month.first (month.first + month.length) 84_006 (month.first + c.in-Some-next.day) (omega arith) here))

pub returns-in-Some-next-clause-counted : goal.returns-in-Some-next-clause-counted
returns-in-Some-next-clause-counted c =
    let month = c.month_at-month.result in
    let inv = c.loop-next.invariant in
    let found = c.in-Some.ensures in
    let same = c.month_at-month.ensures in
    let begins : month.first ≡ first_day c.in-Some.next = month.first_is ∙ ap first_day same in
    let long : month.length ≡ length_of c.in-Some.next = month.length_is ∙ ap length_of same in
    let inside = c.of.ensures.within c.in-Some-next.day c.in-Some-next.ensures.2 in
    let s = sets_in c.args.masks.now in
    let examined = examined_some s c.args.from c.loop-next.index c.in-Some.next c.in-Some-next.day
    (count_from (month_in s) c.args.from (c.loop-next.index - c.args.from)) 0 inv.from_in found.0 found.1 (omega arith) found.3 found.2 refl in
    rw (begins, examined) (omega (arith, c.of.ensures.counted, inv.counted))

pub loop-next-preserved : goal.loop-next-preserved
loop-next-preserved c =
    let month = c.month_at-month.result in
    let s = sets_in c.args.masks.now in
    let index = c.loop-next.index in
    let inv = c.loop-next.invariant in
    let from_in = inv.from_in in
    let found = c.in-Some.ensures in
    let same = c.month_at-month.ensures in
    let begins : month.first ≡ first_day c.in-Some.next = month.first_is ∙ ap first_day same in
    let long : month.length ≡ length_of c.in-Some.next = month.length_is ∙ ap length_of same in
    let bounds = length_bounds c.in-Some.next in
    let next : c.in-Some.next + 1 ≡ suc c.in-Some.next = omega arith in
    let last_day : first_day (c.in-Some.next + 1) ≡ month.first + month.length = ap first_day next ∙ (first_day-suc c.in-Some.next ∙ omega arith) in
    let none = months_none s index c.in-Some.next (omega arith) found.3 in
    let start : 0 ≡ month.first - month.first = omega arith in
    let here = none_in_month s month.first month.length c.of.result.bits month.first
    (record { days = c.of.ensures.days; within = c.of.ensures.within }) (omega arith) (omega arith)
    (subst (λ (n : ℕ). NonePasses (is_bit c.of.result.bits) n 64) start c.in_default-next.ensures) in
    let step = count_step (month_in s) c.args.from index c.in-Some.next inv.from_in found.0 found.3 found.2 in
    let ends : c.in-Some.next + 1 - c.args.from ≡ suc c.in-Some.next - c.args.from = omega arith in
    record {
      from_in = omega arith;
      index_in = omega arith;
      none = λ t above below.
          elim (cases_lt t (first_day index)) [
            | inl early ↦ inv.none t above early
            | inr late ↦ elim (cases_lt t (first_day c.in-Some.next)) [ inl between ↦ none t late between | inr within ↦ here t (omega arith) (omega arith) ]
          ];
      counted = rw (ends, step) (omega (arith, c.of.ensures.counted, inv.counted));
    }

pub returns-clause-first : goal.returns-clause-first
returns-clause-first c = grind (arith, months_none, first_day-end)

pub returns-clause-counted : goal.returns-clause-counted
returns-clause-counted c = grind (arith, count_from-on)
