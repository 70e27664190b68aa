use Rattle.std.proofs.Common.{◌≡◌, ◌&&◌, ◌+◌, ℕ, Bool, List, false, nat_le, get_or, length, ap, ◌∙◌, arith}
use Rattle.cal_elapse.specs.computed.Bits.{is_bit}
use Rattle.cal_elapse.specs.computed.Masks.{day_place, sets_in}
use Rattle.cal_spec.specs.rules.Members.{component_has, sets_of}
use Rattle.cal_spec.specs.rules.Slot.{day_slot}
use Rattle.cal_spec.specs.declared.slot.Slot.TheVariants.{Year, Month, Hour, Minute, Second}
use Rattle.cal_elapse.proofs.MasksLemmas.{component_both, component_some, day_both, days_are, filled_end, filled_some, members_are, numbers_are, weekdays_are, weeks_repeat, years_end, years_filled}
use Rattle.cal_elapse.proofs.masks.Masks.of.Goals as goal

pub invariant_of-result : goal.invariant_of-result
unfolding sets_of
invariant_of-result c =
    let f = c.args.expr.now in
    let valid = c.weekdays.ensures.expr.valid in
    let years = years_filled c.members.result c.members-2.result c.members-3.result c.members-4.result (component_has Year f.year)
    c.members.ensures c.members-2.ensures c.members-3.ensures c.members-4.ensures in
    let hours = members_are c.members-6.result 24 (component_has Hour f.hour) c.members-6.ensures
    (λ v h. let both = component_both Hour f.hour v valid.hour h in (both.0, omega (arith, both.1))) in
    let minutes = members_are c.members-7.result 60 (component_has Minute f.minute) c.members-7.ensures
    (λ v h. let both = component_both Minute f.minute v valid.minute h in (both.0, omega (arith, both.1))) in
    let seconds = members_are c.members-8.result 60 (component_has Second f.second) c.members-8.ensures
    (λ v h. let both = component_both Second f.second v valid.second h in (both.0, omega (arith, both.1))) in
    let hour = component_some Hour f.hour valid.hour in
    let minute = component_some Minute f.minute valid.minute in
    let second = component_some Second f.second valid.second in
    record {
      weeks = weeks_repeat c.weeks.result c.weekdays.result c.weeks.ensures;
      last_year = years_end _ (component_has Year f.year) years;
      last_month = filled_end c.members-5.result 12 (λ i. component_has Month f.month (1 + i)) c.members-5.ensures;
      last_hour = filled_end c.members-6.result 24 (λ i. component_has Hour f.hour (0 + i)) c.members-6.ensures;
      last_minute = filled_end c.members-7.result 60 (λ i. component_has Minute f.minute (0 + i)) c.members-7.ensures;
      last_second = filled_end c.members-8.result 60 (λ i. component_has Second f.second (0 + i)) c.members-8.ensures;
      some_hour = filled_some c.members-6.result hour.0 (hours hour.0 ∙ hour.1);
      some_minute = filled_some c.members-7.result minute.0 (minutes minute.0 ∙ minute.1);
      some_second = filled_some c.members-8.result second.0 (seconds second.0 ∙ second.1);
    }

pub returns : goal.returns
unfolding sets_in sets_of
returns c =
    let f = c.args.expr.now in
    let valid = c.weekdays.ensures.expr.valid in
    let filled = years_filled c.members.result c.members-2.result c.members-3.result c.members-4.result (component_has Year f.year)
    c.members.ensures c.members-2.ensures c.members-3.ensures c.members-4.ensures in
    let years = numbers_are _ 1_970 230 (component_has Year f.year) filled
    (λ v h. let both = component_both Year f.year v valid.year h in (both.0, omega (arith, both.1))) in
    let months = numbers_are (is_bit c.members-5.result) 1 12 (component_has Month f.month) c.members-5.ensures
    (λ v h. let both = component_both Month f.month v valid.month h in (both.0, omega (arith, both.1))) in
    let hours = members_are c.members-6.result 24 (component_has Hour f.hour) c.members-6.ensures
    (λ v h. let both = component_both Hour f.hour v valid.hour h in (both.0, omega (arith, both.1))) in
    let minutes = members_are c.members-7.result 60 (component_has Minute f.minute) c.members-7.ensures
    (λ v h. let both = component_both Minute f.minute v valid.minute h in (both.0, omega (arith, both.1))) in
    let seconds = members_are c.members-8.result 60 (component_has Second f.second) c.members-8.ensures
    (λ v h. let both = component_both Second f.second v valid.second h in (both.0, omega (arith, both.1))) in
    let days : (v : ℕ) → ((nat_le 1 v && nat_le v 31) && is_bit c.days.result (day_place c.from_end-from_end.result v)) ≡ component_has (day_slot f.from_end) f.day v =
    days_are c.days.result c.from_end-from_end.result (component_has (day_slot f.from_end) f.day) c.days.ensures (λ v. day_both f.from_end f.day v valid.day) in
    let chosen : length c.weekdays.result ≡ 7 = ap length c.weekdays.ensures.chosen ∙ valid.seven in
    let weekdays = weekdays_are c.weeks.result c.weekdays.result chosen c.weeks.ensures in
    λ i. record {
      weekday = λ v. (weekdays v ∙ ap (λ (days : List Bool). get_or days v false) c.weekdays.ensures.chosen) i;
      year = λ v. years v i;
      month = λ v. months v i;
      day = λ v. days v i;
      hour = λ v. hours v i;
      minute = λ v. minutes v i;
      second = λ v. seconds v i;
      from_end = c.from_end-from_end.ensures i;
    }
