-- Lemmas on whether one of the numbers below a bound passes, and on what a search for such a number finds.
use Rattle.std.proofs.Common.{◌≡◌, ◌∙◌, ◌*◌, ◌||◌, ◌<◌, ℕ, zero, suc, Bool, true, false, Option, None, Some, ap, arith, below_more, refl, sym, true≢false}
use Rattle.std.proofs.lemmas.Bool.Decides.{nat_tests}
use Rattle.std.proofs.lemmas.Int.{ints}
use Rattle.std.specs.Prelude.{ℤ, ◌≤ℤ◌, ◌<ℤ◌, is_some, pos, unsigned_abs}
use Rattle.cal_civil.specs.rules.LocalSecond.{seconds_in_all}
use Rattle.cal_elapse.specs.rules.Search.{IsFirstLocal}
use Rattle.cal_cron.specs.rules.CronLine.{Schedule}
use Rattle.cal_cron.specs.rules.CronMatch.{CronExprs, cron_matches, exprs_match}
use Rattle.cal_spec.specs.rules.Fields.{Fields}
use Rattle.cal_spec.specs.rules.Match.{Sets, matches}
use Rattle.cal_spec.specs.rules.Members.{sets_of}
use Rattle.cal_crontabs.specs.rules.Findings.{any_below, ever_matches, ever_runs, other_ever_matches}

or_true : (b : Bool) → b || true ≡ true
or_true true = refl
or_true false = refl

pub none_below : (passes : ℕ → Bool) (n : ℕ) → ((t : ℕ) → t < n → passes t ≡ false) → any_below passes n ≡ false
unfolding any_below
none_below passes zero none = refl
none_below passes (suc n) none = ap (λ b. b || passes n) (none_below passes n (λ t within. none t (omega arith))) ∙ none n (omega arith)

pub one_below : (passes : ℕ → Bool) (n s : ℕ) → s < n → passes s ≡ true → any_below passes n ≡ true
unfolding any_below
one_below passes zero s within = absurd (omega arith)
one_below passes (suc n) s within =
    below_more (λ k. passes k ≡ true → any_below passes n || passes n ≡ true) n
    (λ k below is. ap (λ b. b || passes n) (one_below passes n k below is))
    (λ is. ap (λ b. any_below passes n || b) is ∙ or_true (any_below passes n))
    s (omega arith)

crossed : (a b c d : Bool) → (a || b) || (c || d) ≡ (a || c) || (b || d)
crossed true b c d = refl
crossed false true c d = sym (or_true c)
crossed false false true d = refl
crossed false false false d = refl

-- one of the numbers passes one of two tests if and only if one of them passes the first test, or one the second test
pub either_below : (p q : ℕ → Bool) (n : ℕ) → any_below (λ t. p t || q t) n ≡ (any_below p n || any_below q n)
unfolding any_below
either_below p q zero = refl
either_below p q (suc n) =
    ap (λ b. b || (p n || q n)) (either_below p q n) ∙ crossed (any_below p n) (any_below q n) (p n) (q n)

-- a search from the first local second finds one if and only if a local second passes
pub found_is : (passes : ℕ → Bool) (found : Option ℤ) → IsFirstLocal passes (pos 0) found → is_some found ≡ any_below passes seconds_in_all
found_is passes None none = sym (none_below passes seconds_in_all (λ t within. none t (omega (arith, ints)) within))
found_is passes (Some s) first =
    let low : pos 0 ≤ℤ s = first.0 in
    let high : s <ℤ pos seconds_in_all = first.1 in
    sym (one_below passes seconds_in_all (unsigned_abs s) (omega (arith, ints)) first.2)

-- the search says whether the expression ever matches
pub search_is : (fields : Fields) (sets : Sets) (found : Option ℤ) → sets ≡ sets_of fields → IsFirstLocal (matches sets) (pos 0) found
    → is_some found ≡ ever_matches fields
search_is fields sets found same first =
    found_is (matches sets) found first ∙ ap (λ s. any_below (matches s) seconds_in_all) same

pub ever_is : (exprs : CronExprs) → ever_runs exprs ≡ (ever_matches exprs.first || other_ever_matches exprs.other)
unfolding ever_runs
ever_is exprs = by exprs.first exprs.other
  where
    by : (first : Fields) (other : Option Fields)
        → any_below (λ local. exprs_match first other local) seconds_in_all ≡ (ever_matches first || other_ever_matches other)
    by first None =
        either_below (matches (sets_of first)) (λ local. false) seconds_in_all
        ∙ ap (λ b. ever_matches first || b) (none_below (λ local. false) seconds_in_all (λ t within. refl))
    by first (Some other) = either_below (matches (sets_of first)) (matches (sets_of other)) seconds_in_all

last_or_below : (passes : ℕ → Bool) (n : ℕ) (below last : Bool) → passes n ≡ last → below || last ≡ true
    → (below ≡ true → (t : ℕ) × (t < n) × (passes t ≡ true)) → (t : ℕ) × (t < suc n) × (passes t ≡ true)
last_or_below passes n true last same is found = let one = found refl in (one.0, omega (arith, one.1), one.2)
last_or_below passes n false true same is found = (n, omega arith, same)
last_or_below passes n false false same is found = absurd (true≢false (sym is))

found_below : (passes : ℕ → Bool) (n : ℕ) → any_below passes n ≡ true → (t : ℕ) × (t < n) × (passes t ≡ true)
unfolding any_below
found_below passes zero is = absurd (true≢false (sym is))
found_below passes (suc n) is = last_or_below passes n (any_below passes n) (passes n) refl is (found_below passes n)

-- cron runs no line after the year 2199
runs_within : (schedule : Schedule) (local : ℕ) → cron_matches schedule local ≡ true → local < seconds_in_all
unfolding cron_matches
runs_within schedule local is = grind (arith, nat_tests)

-- an entry is found never to run if and only if cron runs it at no local second
pub never_from : (exprs : CronExprs) (schedule : Schedule) → ((local : ℕ) → exprs_match exprs.first exprs.other local ≡ cron_matches schedule local)
    → ever_runs exprs ≡ false → (local : ℕ) → cron_matches schedule local ≡ false
unfolding ever_runs
never_from exprs schedule same never local = by (cron_matches schedule local) refl
  where
    by : (b : Bool) → b ≡ cron_matches schedule local → b ≡ false
    by false is = refl
    by true is =
        absurd (true≢false (sym (one_below (λ t. exprs_match exprs.first exprs.other t) seconds_in_all local (runs_within schedule local (sym is)) (same local ∙ sym is)) ∙ never))

pub ever_from : (exprs : CronExprs) (schedule : Schedule) → ((local : ℕ) → exprs_match exprs.first exprs.other local ≡ cron_matches schedule local)
    → ever_runs exprs ≡ true → (local : ℕ) × (cron_matches schedule local ≡ true)
unfolding ever_runs
ever_from exprs schedule same ever =
    let one = found_below (λ t. exprs_match exprs.first exprs.other t) seconds_in_all ever in
    (one.0, sym (same one.0) ∙ one.2)
