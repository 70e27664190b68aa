-- `cut` cuts a text at its first separator, and returns None only if the text has no separator.
use Rattle.std.proofs.Common.{◌≡◌, ◌∙◌, ℕ, ◌+◌, ◌<◌, suc, cond, Bool, true, false, nat_eq, nat_lt, not, List, [], ◌∷◌, ◌++◌, take, drop, length, Option, None, Some, refl, ap, arith}
use Rattle.std.specs.List.{position, position_or_len}
use Rattle.std.specs.Option.{option_map}
use Rattle.std.specs.Prelude.{◌==◌}
use Rattle.std.proofs.lemmas.Bool.{eqb-true, ltb-true, ltb-false}
use Rattle.std.proofs.lemmas.Option.{cond_some}
use Rattle.cal_bytes.proofs.General.{IsClear, not_found}
use Rattle.cal_cron.specs.computed.Items.{Cut, cut, with_front}

abbrev is_it : ℕ → ℕ → Bool
is_it separator byte = byte == separator

cut_step : (separator x : ℕ) (xs : List ℕ) (test : Bool)
    → (position_or_len (is_it separator) xs < length xs → cut separator xs ≡ Some (record { front = take (position_or_len (is_it separator) xs) xs; back = drop (position_or_len (is_it separator) xs + 1) xs }))
    → cond (not test) (1 + position_or_len (is_it separator) xs) 0 < suc (length xs)
    → cond test (Some (record { front = []; back = xs })) (option_map (with_front x) (cut separator xs))
    ≡ Some (record { front = take (cond (not test) (1 + position_or_len (is_it separator) xs) 0) (x ∷ xs); back = drop (cond (not test) (1 + position_or_len (is_it separator) xs) 0 + 1) (x ∷ xs) })
cut_step separator x xs true rest within = refl
cut_step separator x xs false rest within =
    let n = position_or_len (is_it separator) xs in
    let one : 1 + n ≡ suc n = omega arith in
    let two : suc n + 1 ≡ suc (n + 1) = omega arith in
    rw (rest (omega arith), one, two) refl

cut_place : (separator : ℕ) (text : List ℕ) → position_or_len (is_it separator) text < length text → cut separator text ≡ Some (record { front = take (position_or_len (is_it separator) text) text; back = drop (position_or_len (is_it separator) text + 1) text })
cut_place separator [] within = absurd (omega arith)
cut_place separator (x ∷ xs) within = cut_step separator x xs (nat_eq x separator) (cut_place separator xs) within

pub cut_at : (separator : ℕ) (text : List ℕ) (n : ℕ) → position (λ byte. byte == separator) text ≡ Some n → cut separator text ≡ Some (record { front = take n text; back = drop (n + 1) text })
cut_at separator text n at =
    let found = cond_some (nat_lt (position_or_len (is_it separator) text) (length text)) (position_or_len (is_it separator) text) n at in
    cut_place separator text (ltb-true _ _ found.0) ∙ ap (λ k. Some (record { front = take k text; back = drop (k + 1) text })) found.1

cut_past : (separator : ℕ) (text : List ℕ) → (position_or_len (is_it separator) text < length text → ⊥) → cut separator text ≡ None
cut_past separator [] past = refl
cut_past separator (x ∷ xs) past = grind (arith, cut_past separator xs)

pub cut_none : (separator : ℕ) (text : List ℕ) → position (λ byte. byte == separator) text ≡ None → cut separator text ≡ None
cut_none separator text at =
    let past = ltb-false _ _ (not_found (nat_lt (position_or_len (is_it separator) text) (length text)) (position_or_len (is_it separator) text) at) in
    cut_past separator text (λ h. omega (arith, past, h))

-- if `front` doesn't contain the separator, `cut` cuts `front`, the separator and `back` into `front` and `back`
pub cut_joined : (separator : ℕ) (front back : List ℕ) → nat_eq separator separator ≡ true → IsClear (λ b. b == separator) front → cut separator (front ++ (separator ∷ back)) ≡ Some (record { front = front; back = back })
cut_joined separator [] back same clear = rw same refl
cut_joined separator (x ∷ xs) back same clear = grind (arith, cut_joined separator xs back same)

pub cut_clear : (separator : ℕ) (text : List ℕ) → IsClear (λ b. b == separator) text → cut separator text ≡ None
cut_clear separator [] clear = refl
cut_clear separator (x ∷ xs) clear = grind (arith, cut_clear separator xs)

whole_step : (separator x : ℕ) (xs : List ℕ) (test : Bool) (found : Cut) (rest : Option Cut) → nat_eq x separator ≡ test
    → ((c : Cut) → rest ≡ Some c → xs ≡ c.front ++ (separator ∷ c.back))
    → cond test (Some (record { front = []; back = xs })) (option_map (with_front x) rest) ≡ Some found
    → x ∷ xs ≡ found.front ++ (separator ∷ found.back)
whole_step separator x xs true found rest is whole at =
    let same : record { front = []; back = xs } ≡ found = cc in
    rw (← same, eqb-true x separator is) refl
whole_step separator x xs false found None is whole at = cc
whole_step separator x xs false found (Some c) is whole at =
    let same : with_front x c ≡ found = cc in
    rw (← same) (ap (λ t. x ∷ t) (whole c refl))

pub cut_whole : (separator : ℕ) (text : List ℕ) (found : Cut) → cut separator text ≡ Some found → text ≡ found.front ++ (separator ∷ found.back)
cut_whole separator [] found at = cc
cut_whole separator (x ∷ xs) found at =
    whole_step separator x xs (nat_eq x separator) found (cut separator xs) refl (cut_whole separator xs) at
