-- The later matches in the minute of a match, and the later minutes with matches in its hour, as the bits of a word;
-- and how many months a search for one of these matches examines.
use Rattle.std.proofs.Common.{◌≡◌, ◌∙◌, ℕ, zero, suc, ◌+◌, ◌-◌, ◌*◌, ◌/◌, ◌%◌, ◌^◌, ◌<◌, ◌≤◌, Bool, true, false, ◌&&◌, Option, None, Some, pos, ap, inl, inr, sym, subst, refl, arith, ltb-true, max, nat_lt}
use Rattle.std.proofs.lemmas.Bool.{and_parts, cases_Bool, cases_lt, lt-ltb}
use Rattle.cal_civil.specs.rules.LocalSecond.{seconds_in_all, seconds_in_all-is}
use Rattle.cal_spec.specs.rules.Match.{Sets, matches, time_in}
use Rattle.cal_elapse.specs.computed.Bits.{is_bit}
use Rattle.cal_elapse.specs.computed.RemainingMatches.{AreRemaining, minute_matches}
use Rattle.cal_elapse.specs.rules.ExaminedMonths.{IsSearch, examined_months}
use Rattle.cal_elapse.specs.rules.MostMonths.{IsExamined, IsMostAfter}
use Rattle.cal_elapse.specs.computed.Masks.{sets_in}
use Rattle.cal_elapse.specs.rules.Months.{day_in, minute_in}
use Rattle.cal_elapse.specs.rules.Search.{IsFirstPassing}
use Rattle.cal_elapse.specs.declared.masks.Masks.{Masks}
use Rattle.cal_elapse.proofs.BitLemmas.{is_bit-none, is_bit-shifted}
use Rattle.cal_elapse.proofs.CarryLemmas.{Splits, first_then, split_at}
use Rattle.cal_elapse.proofs.FoundLemmas.{first_local}
use Rattle.cal_elapse.proofs.MostMonthsLemmas.{max_is}
use Rattle.cal_elapse.proofs.ExaminedMonthLemmas.{examined_today}
use Rattle.cal_elapse.proofs.SearchLemmas.{locals_split}
use Rattle.cal_elapse.proofs.TimeLemmas.{minutes_split, seconds_split}
use Rattle.cal_bytes.proofs.General.{and_regrouped, below_end}

-- a number that matches is a local second
pub match_inside : (sets : Sets) (t : ℕ) → matches sets t ≡ true → t < seconds_in_all
unfolding matches
match_inside sets t holds = ltb-true t seconds_in_all (and_parts _ _ holds).0

day_of_match : (sets : Sets) (t : ℕ) → matches sets t ≡ true → (day_in sets (t / 86_400) ≡ true) × (time_in sets (t % 86_400) ≡ true)
day_of_match sets t holds =
    let count = seconds_in_all-is in
    let within = match_inside sets t holds in
    let both = and_parts _ _ (sym (split_at (locals_split sets) (t / 86_400) t (omega arith) refl) ∙ holds) in
    (both.0, both.1)

-- ## Lemmas for both units of 60: local seconds in their minute, and minutes in their hour

-- whether an hour, counted from the start of 1970, is before the year 2200, and has a date and an hour of the day that
-- match
hour_matches : Masks → ℕ → Bool
hour_matches m hour = nat_lt hour 2_016_144 && (day_in (sets_in m) (hour / 24) && is_bit m.hours (hour % 24))

-- a minute passes `minute_matches` if and only if its hour passes `hour_matches` and its number within the hour matches
hours_split : (m : Masks) → Splits (minute_matches (sets_in m)) (hour_matches m) (is_bit m.minutes) 60 2_016_144
unfolding minute_matches hour_matches
hours_split m = record {
  positive = omega arith;
  split = λ a b low small.
      let day : (a * 60 + b) / 1_440 ≡ a / 24 = omega arith in
      let minute : (a * 60 + b) % 1_440 ≡ a % 24 * 60 + b = omega arith in
      let here = (minutes_split m).split (a % 24) b (omega arith) small in
      rw (lt-ltb (a * 60 + b) 120_968_640 (omega arith), lt-ltb a 2_016_144 low, day, minute, here) (sym (and_regrouped (day_in (sets_in m) (a / 24)) (is_bit m.hours (a % 24)) (is_bit m.minutes b)));
}

-- a local second matches if and only if its minute passes `minute_matches` and its second matches
pub minutes_of_all : (m : Masks) → Splits (matches (sets_in m)) (minute_matches (sets_in m)) (is_bit m.seconds) 60 120_968_640
unfolding minute_matches
minutes_of_all m = record {
  positive = omega arith;
  split = λ a b low small.
      let day : (a * 60 + b) / 86_400 ≡ a / 1_440 = omega arith in
      let time : (a * 60 + b) % 86_400 ≡ a % 1_440 * 60 + b = omega arith in
      let here = (seconds_split m).split (a % 1_440) b (omega arith) small in
      split_at (locals_split (sets_in m)) (a / 1_440) (a * 60 + b) (omega arith) day ∙ rw (lt-ltb a 120_968_640 low, time, here) (sym (and_regrouped (day_in (sets_in m) (a / 1_440)) (minute_in (sets_in m) (a % 1_440)) (is_bit m.seconds b)));
}

-- if `found` passes, a number `t` in the same unit of 60 passes if and only if `t` modulo 60 passes the test `low`
by_low : (passes high low : ℕ → Bool) (limit found t : ℕ) → Splits passes high low 60 limit → found / 60 < limit → passes found ≡ true → t / 60 ≡ found / 60 → passes t ≡ low (t % 60)
by_low passes high low limit found t s within holds same =
    let both = and_parts _ _ (sym (split_at s (found / 60) found within refl) ∙ holds) in
    let here : high (found / 60) ≡ true = both.0 in
    split_at s (found / 60) t within same ∙ rw here refl

-- if `found` passes, the bits of `mask` above bit `found` % 60 stand for the numbers after `found` that pass and are in
-- the same unit of 60
left_after : (passes high : ℕ → Bool) (mask limit found : ℕ) → Splits passes high (is_bit mask) 60 limit → ((i : ℕ) → 60 ≤ i → is_bit mask i ≡ false) → found / 60 < limit
    → passes found ≡ true → AreRemaining passes found (mask / 2 ^ (found % 60 + 1))
left_after passes high mask limit found s last within holds = record {
  unit = λ i set.
      let small = below_end (is_bit mask) 60 (found % 60 + 1 + i) last (sym (is_bit-shifted mask (found % 60 + 1) i) ∙ set) in
      omega arith;
  passing = λ t later same.
      let place : t % 60 ≡ found % 60 + 1 + (t - (found + 1)) = omega arith in
      by_low passes high (is_bit mask) limit found t s within holds same ∙ rw place (sym (is_bit-shifted mask (found % 60 + 1) (t - (found + 1))));
}

-- ## The remaining bits of a minute

pub seconds_after : (m : Masks) (local : ℕ) → matches (sets_in m) local ≡ true → AreRemaining (matches (sets_in m)) local (m.seconds / 2 ^ (local % 60 + 1))
seconds_after m local holds =
    let count = seconds_in_all-is in
    left_after _ _ m.seconds 120_968_640 local (minutes_of_all m) m.last_second (omega (arith, match_inside (sets_in m) local holds)) holds

-- ## The remaining bits of an hour

-- if a local second matches, its minute passes the test `minute_matches`
minute_of_match : (m : Masks) (local : ℕ) → matches (sets_in m) local ≡ true → minute_matches (sets_in m) (local / 60) ≡ true
minute_of_match m local holds =
    let count = seconds_in_all-is in
    let within = match_inside (sets_in m) local holds in
    (and_parts _ _ (sym (split_at (minutes_of_all m) (local / 60) local (omega arith) refl) ∙ holds)).0

pub minutes_after : (m : Masks) (local : ℕ) → matches (sets_in m) local ≡ true → AreRemaining (minute_matches (sets_in m)) (local / 60) (m.minutes / 2 ^ (local / 60 % 60 + 1))
minutes_after m local holds =
    let count = seconds_in_all-is in
    left_after _ _ m.minutes 2_016_144 (local / 60) (hours_split m) m.last_minute (omega (arith, match_inside (sets_in m) local holds)) (minute_of_match m local holds)

-- if no bits are set for the rest of the unit of 60 that contains `found`, no number after `found` in this unit passes
pub none_left : (passes : ℕ → Bool) (found t : ℕ) → AreRemaining passes found 0 → found < t → t / 60 ≡ found / 60 → passes t ≡ false
none_left passes found t h later same = h.passing t later same ∙ is_bit-none (t - (found + 1))

-- ## How many months a search examines if it finds a match on the day on which it starts

-- the first of the `n` numbers from `from` on that passes, or `None` if none of them passes
first_of : (passes : ℕ → Bool) (from n : ℕ) → (answer : Option ℕ) × IsFirstPassing passes from (from + n) answer
first_of passes from zero = (None, λ t low high. absurd (omega arith))
first_of passes from (suc n) = elim (cases_Bool (passes from)) [
  | inl here ↦ (Some from, (omega arith, omega arith, here, λ t low high. absurd (omega arith)))
  | inr fails ↦
      let rest = first_of passes (suc from) n in
      let ends : suc from + n ≡ from + suc n = omega arith in
      (rest.0, first_then passes from (suc from) (from + suc n) rest.0 (λ t low high. (let same : t ≡ from = omega arith in ap passes same ∙ fails)) (omega arith) (rw ends at rest.1))
]

-- if `last` is a match later on the day of `t`, a search after `t` examines one month
one_by : (sets : Sets) (t last months : ℕ) (answer : Option ℕ) → matches sets last ≡ true → t < last → t / 86_400 ≡ last / 86_400
    → IsFirstPassing (matches sets) (t + 1) seconds_in_all answer → months ≡ examined_months sets (t + 1) answer → months ≡ 1
one_by sets t last months None holds later day none is = absurd (let no = none last (omega arith) (match_inside sets last holds) in cc)
one_by sets t last months (Some next) holds later day first is =
    let count = seconds_in_all-is in
    let inside = match_inside sets last holds in
    let low = first.0 in
    let early : next ≤ last = elim (cases_lt last next) [ inl less ↦ absurd (let no = first.3 last (omega arith) less in cc) | inr most ↦ most ] in
    let place : t / 86_400 * 86_400 + next % 86_400 ≡ next = omega arith in
    let here : day_in sets (t / 86_400) ≡ true = subst (λ (d : ℕ). day_in sets d ≡ true) (sym day) (day_of_match sets last holds).0 in
    let examined = examined_today sets t (next % 86_400) (omega arith) here (omega arith) (omega arith) in
    is ∙ rw place at examined

-- a search after `t` that finds the match `next` on the same day examines one month
pub search_on : (sets : Sets) (t next : ℕ) → next / 86_400 ≡ t / 86_400 → IsFirstPassing (matches sets) (t + 1) seconds_in_all (Some next)
    → IsSearch sets (t + 1) (record { local = Some (pos next); months = 1 })
search_on sets t next day first = record {
  first = first_local (matches sets) (t + 1) next first;
  counted = sym (one_by sets t next _ (Some next) first.2 (omega (arith, first.0)) (sym day) first refl);
  few = omega arith;
}

-- if `last` is a match later on the day of the match `local`, each search after a match from `local` up to but not
-- including `last` examines one month
pub most_of_day : (sets : Sets) (local last before : ℕ) → matches sets local ≡ true → matches sets last ≡ true → local < last → last / 86_400 ≡ local / 86_400
    → IsMostAfter sets local last before (max before 1)
most_of_day sets local last before begins ends later day =
    let inside = match_inside sets local begins in
    let length : local + 1 + (seconds_in_all - (local + 1)) ≡ seconds_in_all = omega arith in
    let found = first_of (matches sets) (local + 1) (seconds_in_all - (local + 1)) in
    let first = rw length at found.1 in
    let examined : IsExamined sets (local + 1) 1
    = record { answer = found.0; first = first; examined = sym (one_by sets local last _ found.0 ends later (sym day) first refl) } in
    record {
      not_below = omega arith;
      all = λ months one.
          let low = one.low in
          let high = one.high in
          let few = one_by sets one.local last months one.examined.answer ends high (omega arith) one.examined.first one.examined.examined in
          omega arith;
      one = elim (max_is before 1) [
        | inl same ↦ inl same.0
        | inr more ↦ inr (record { local = local; low = omega arith; high = later; is_match = begins; examined = subst (IsExamined sets (local + 1)) (sym more.0) examined })
      ];
    }
