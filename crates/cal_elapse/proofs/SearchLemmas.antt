-- The search for a local second first finds the day, and then the time of day. These two steps find the first matching
-- local second.
use Rattle.std.proofs.Common.{◌≡◌, ℕ, ◌+◌, ◌*◌, ◌/◌, ◌%◌, ◌<◌, ◌≤◌, true, false, ◌&&◌, nat_lt, ◌==◌, Option, ap, ◌∙◌, subst, None, Some, ℤ, pos, refl, sym, inl, inr, arith}
use Rattle.std.proofs.lemmas.Bool.{and_parts, cases_lt}
use Rattle.std.proofs.lemmas.Bool.Decides.{nat_tests}
use Rattle.std.proofs.lemmas.Int.{ints}
use Rattle.cal_civil.specs.rules.LocalSecond.{civil_date, seconds_in_all, seconds_in_all-is}
use Rattle.cal_spec.specs.rules.Match.{Sets, date_in, time_in, matches}
use Rattle.cal_elapse.proofs.CarryLemmas.{Splits, first_here, first_later, first_then, first_within, none_by_high, none_by_low, none_later, split_at}
use Rattle.cal_elapse.proofs.FoundLemmas.{first_local}
use Rattle.cal_elapse.specs.rules.Months.{day_in}
use Rattle.cal_elapse.specs.computed.SearchSteps.{day_to_start, second_on}
use Rattle.cal_elapse.specs.rules.Search.{IsFirstLocal, IsFirstPassing, NonePasses}

pub inside : (t : ℕ) → t < 7_258_118_400 → nat_lt t seconds_in_all ≡ true
inside t h =
    let count = seconds_in_all-is in
    grind arith

-- a local second matches if and only if both its date and its time of day match
matches_on : (sets : Sets) (day t : ℕ) → day < 84_006 → day * 86_400 ≤ t → t < day * 86_400 + 86_400
    → matches sets t ≡ (date_in sets (civil_date day) && time_in sets (t % 86_400))
unfolding matches
matches_on sets day t h low high = grind (arith, nat_lt, inside)

-- the local second day * 86,400 + time of day matches if and only if both the day and the time of day match
pub locals_split : (sets : Sets) → Splits (matches sets) (day_in sets) (time_in sets) 86_400 84_006
unfolding day_in
locals_split sets = record {
  positive = omega arith;
  split = λ a b low small.
      let time : (a * 86_400 + b) % 86_400 ≡ b = omega arith in
      matches_on sets a (a * 86_400 + b) low (omega arith) (omega arith) ∙ ap (λ (n : ℕ). date_in sets (civil_date a) && time_in sets n) time;
}

pub locals_at : (sets : Sets) (t : ℕ) → t < seconds_in_all → matches sets t ≡ (day_in sets (t / 86_400) && time_in sets (t % 86_400))
locals_at sets t below = split_at (locals_split sets) (t / 86_400) t (let count = seconds_in_all-is in omega arith) refl

-- if no day at or after the result of `day_to_start` matches, no local second at or after `from` matches
pub none_of_all : (sets : Sets) (day r from : ℕ) (today : Option ℕ) → day * 86_400 + r ≡ from → day < 84_006 → r < 86_400 → IsFirstPassing (time_in sets) r 86_400 today
    → NonePasses (day_in sets) (day_to_start day today) 84_006 → NonePasses (matches sets) from (84_006 * 86_400)
none_of_all sets day r from None parts inside small none later =
    first_then (matches sets) from ((day + 1) * 86_400) (84_006 * 86_400) None
    (none_by_low (locals_split sets) day r from 86_400 parts inside (omega arith) none) (omega arith)
    (none_later (locals_split sets) (day + 1) 84_006 (omega arith) later)
none_of_all sets day r from (Some s) parts inside small found later =
    first_then (matches sets) from ((day + 1) * 86_400) (84_006 * 86_400) None
    (none_by_high (locals_split sets) day r from parts inside (later day (omega arith) inside)) (omega arith)
    (none_later (locals_split sets) (day + 1) 84_006 (omega arith) (λ t above below. later t (omega arith) below))

-- if `f` is the first matching day at or after the result of `day_to_start`, then the first matching local second at or
-- after `from` is on day `f`, at the time of day that `second_on` returns
pub first_of_all : (sets : Sets) (day r from f first : ℕ) (today : Option ℕ) → day * 86_400 + r ≡ from → day < 84_006 → r < 86_400 → IsFirstPassing (time_in sets) r 86_400 today
    → IsFirstPassing (day_in sets) (day_to_start day today) 84_006 (Some f) → IsFirstPassing (time_in sets) 0 86_400 (Some first)
    → IsFirstPassing (matches sets) from (84_006 * 86_400) (Some (f * 86_400 + second_on f day today first))
first_of_all sets day r from f first None parts inside small none found begins =
    first_then (matches sets) from ((day + 1) * 86_400) (84_006 * 86_400) (Some (f * 86_400 + first))
    (none_by_low (locals_split sets) day r from 86_400 parts inside (omega arith) none) (omega arith)
    (first_later (locals_split sets) (day + 1) 84_006 f 86_400 first found.1 begins.1 found begins)
first_of_all sets day r from f first (Some s) parts inside small today found begins =
    elim (cases_lt day f) [
      | inl later ↦
          (let other : (f == day) ≡ false = grind (arith, nat_tests) in
          rw other
          (first_then (matches sets) from ((day + 1) * 86_400) (84_006 * 86_400) (Some (f * 86_400 + first))
          (none_by_high (locals_split sets) day r from parts inside (found.3 day (omega arith) later)) (omega arith)
          (first_later (locals_split sets) (day + 1) 84_006 f 86_400 first found.1 begins.1
          (omega arith, found.1, found.2, λ t above below. found.3 t (omega arith) below) begins)))
      | inr here ↦
          (let same : f ≡ day = omega arith in
          let yes : (day == day) ≡ true = grind (arith, nat_tests) in
          let holds : day_in sets day ≡ true = (rw same at found.2) in
          rw (same, yes)
          (first_within (matches sets) from ((day + 1) * 86_400) (84_006 * 86_400) (day * 86_400 + s) (omega arith)
          (first_here (locals_split sets) day r from 86_400 s parts inside holds today.1 today)))
    ]

-- `none_of_all` for local seconds as integers instead of natural numbers
pub none_found : (sets : Sets) (day r : ℕ) (from : ℤ) (today : Option ℕ) → pos (day * 86_400 + r) ≡ from → day < 84_006 → r < 86_400 → IsFirstPassing (time_in sets) r 86_400 today
    → NonePasses (day_in sets) (day_to_start day today) 84_006 → IsFirstLocal (matches sets) from None
none_found sets day r from today parts inside small none later = λ t above below.
    let count = seconds_in_all-is in
    none_of_all sets day r (day * 86_400 + r) today refl inside small none later t (omega (arith, ints)) (omega arith)

-- `first_of_all` for local seconds as integers instead of natural numbers
pub first_found : (sets : Sets) (day r f first : ℕ) (from found : ℤ) (today : Option ℕ) → pos (day * 86_400 + r) ≡ from → day < 84_006 → r < 86_400
    → IsFirstPassing (time_in sets) r 86_400 today → IsFirstPassing (day_in sets) (day_to_start day today) 84_006 (Some f) → IsFirstPassing (time_in sets) 0 86_400 (Some first)
    → found ≡ pos (f * 86_400 + second_on f day today first) → IsFirstLocal (matches sets) from (Some found)
first_found sets day r f first from found today parts inside small none later begins is =
    let t : ℕ = f * 86_400 + second_on f day today first in
    let all : IsFirstPassing (matches sets) (day * 86_400 + r) (84_006 * 86_400) (Some t) = first_of_all sets day r (day * 86_400 + r) f first today refl inside small none later begins in
    let there = first_local (matches sets) (day * 86_400 + r) t (subst (λ (n : ℕ). IsFirstPassing (matches sets) (day * 86_400 + r) n (Some t)) (sym seconds_in_all-is) all) in
    subst (λ (z : ℤ). IsFirstLocal (matches sets) z (Some found)) parts (subst (λ (z : ℤ). IsFirstLocal (matches sets) (pos (day * 86_400 + r)) (Some z)) (sym is) there)

-- if `t` is a match, and `second` is the first matching time of day after the time of `t`, then the next match after
-- `t` is on the same day, at `second`
pub later_today : (sets : Sets) (t second : ℕ) → t < seconds_in_all → matches sets t ≡ true → IsFirstPassing (time_in sets) (t % 86_400 + 1) 86_400 (Some second)
    → IsFirstPassing (matches sets) (t + 1) seconds_in_all (Some (t / 86_400 * 86_400 + second))
later_today sets t second below holds found =
    let count = seconds_in_all-is in
    let day : t / 86_400 < 84_006 = omega arith in
    let both = sym (split_at (locals_split sets) (t / 86_400) t day refl) ∙ holds in
    first_within (matches sets) (t + 1) ((t / 86_400 + 1) * 86_400) seconds_in_all (t / 86_400 * 86_400 + second) (omega arith)
    (first_here (locals_split sets) (t / 86_400) (t % 86_400 + 1) (t + 1) 86_400 second (omega arith) day (and_parts _ _ both).0 found.1 found)
