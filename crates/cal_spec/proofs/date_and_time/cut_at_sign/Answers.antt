use Rattle.std.proofs.Common.{◌∙◌, sym, ◌+◌, Bool, List, arith, cond, drop, false, length, refl, suc, true, ℕ, ◌<◌, ◌∷◌, ◌≡◌, get_or, [], ◌≤◌, Some, ap, take, None}
use Rattle.std.proofs.lemmas.List.{take_rest}
use Rattle.cal_spec.specs.rules.UnparsedTexts.{is_date_sign}
use Rattle.cal_spec.proofs.date_and_time.cut_at_sign.Goals as goal
use Rattle.std.specs.Prelude.{not, filter, nat_lt}
use Rattle.std.specs.List.{position_or_len, slice_split, position}
use Rattle.std.proofs.lemmas.Bool.{ltb-true, ltb-false}
use Rattle.std.proofs.lemmas.Option.{cond_some}
use Rattle.cal_bytes.proofs.General.{split_some, not_found, split_none}

-- the induction step of `filter_some`: if a text has a separator, the separators of the text are its first separator
-- and then those of the bytes after the first separator
filter_some_step : (p : ℕ → Bool) (x : ℕ) (xs : List ℕ) (test : Bool) → (position_or_len p xs < length xs → filter p xs ≡ get_or xs (position_or_len p xs) 0 ∷ filter p (drop (position_or_len p xs + 1) xs)) → cond (not test) (1 + position_or_len p xs) 0 < suc (length xs) → cond test (x ∷ filter p xs) (filter p xs) ≡ get_or (x ∷ xs) (cond (not test) (1 + position_or_len p xs) 0) 0 ∷ filter p (drop (cond (not test) (1 + position_or_len p xs) 0 + 1) (x ∷ xs))
filter_some_step p x xs true rest within = refl
filter_some_step p x xs false rest within =
    let n = position_or_len p xs in
    let one : 1 + n ≡ suc n = omega arith in
    let two : suc n + 1 ≡ suc (n + 1) = omega arith in
    rw (one, two) (rest (omega arith))

filter_some : (p : ℕ → Bool) (xs : List ℕ) → position_or_len p xs < length xs → filter p xs ≡ get_or xs (position_or_len p xs) 0 ∷ filter p (drop (position_or_len p xs + 1) xs)
filter_some p [] within = absurd (omega arith)
filter_some p (x ∷ xs) within = filter_some_step p x xs (p x) (filter_some p xs) within

filter_none : (p : ℕ → Bool) (xs : List ℕ) → length xs ≤ position_or_len p xs → filter p xs ≡ []
filter_none p [] past = refl
filter_none p (x ∷ xs) past = grind (arith, filter_none p xs)

-- Suppose that the first separator of a text is at index `n`. Then the first piece of the text is the first `n` bytes,
-- and the other pieces are those of the bytes after the separator. The separators of the text are this separator and
-- those of the bytes after it.
cut_some : (p : ℕ → Bool) (xs : List ℕ) (n : ℕ) → position p xs ≡ Some n → (slice_split p xs ≡ take n xs ∷ slice_split p (drop (n + 1) xs)) × (filter p xs ≡ get_or xs n 0 ∷ filter p (drop (n + 1) xs))
cut_some p xs n at =
    let found = cond_some (nat_lt (position_or_len p xs) (length xs)) (position_or_len p xs) n at in (
      split_some p xs n at,
      filter_some p xs (ltb-true _ _ found.0) ∙ ap (λ k. get_or xs k 0 ∷ filter p (drop (k + 1) xs)) found.1,
    )

cut_none : (p : ℕ → Bool) (xs : List ℕ) → position p xs ≡ None → (slice_split p xs ≡ xs ∷ []) × (filter p xs ≡ [])
cut_none p xs at =
    (split_none p xs at, filter_none p xs (ltb-false _ _ (not_found (nat_lt (position_or_len p xs) (length xs)) (position_or_len p xs) at)))

pub returns-in_err-index : goal.returns-in_err-index
returns-in_err-index c =
    rw c.from_residual.ensures (cut_none is_date_sign c.args.word.now (sym c.sign_index.ensures ∙ c.in_err-index.was))

pub returns : goal.returns
returns c =
    let word = c.args.word.now in
    let n = c.in_ok-index.index in
    rw (take_rest word (n + 1)) (cut_some is_date_sign word n (sym c.sign_index.ensures ∙ c.in_ok-index.was))
