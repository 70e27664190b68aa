-- General lemmas on definitions of the standard library, and on a few helpers that this file defines. All crates share
-- them; a lemma that only one proof needs stays next to that proof.
use Rattle.std.proofs.Common.{Bool, List, None, Option, Some, [], ap, arith, cond, drop, false, int_lt, length, nat_le, refl, slice_get, suc, sym, true, zero, ℕ, ℤ, ◌++◌, ◌+ℤ◌, ◌<ℤ◌, ◌<◌, ◌∙◌, ◌∷◌, ◌≡◌, ◌≤ℤ◌, add-one, drop-cons, get_or, leb, map, max, nat_eq, nat_lt, negsuc, not, of_z, pos, reverse, subst, take, to_z, unsigned_abs, w64, ◌&&◌, ◌||◌, ◌+◌, ◌-◌, ◌==◌, ◌^◌, ◌≤◌}
use Rattle.std.proofs.lemmas.Bool.{and_from, and_parts, leb-true, ltb-false, ltb-true, not-true}
use Rattle.std.proofs.lemmas.Int.{ints, to_z_pos}
use Rattle.std.proofs.lemmas.List.{length-append, drop-append-le, drop_all, flat_map_more, get_or-reverse, reverse-append, take_more}
use Rattle.std.proofs.lemmas.List.Folds.{flat_map-map, list_all-append}
use Rattle.std.specs.Char.{is_ascii_digit, digit_value}
use Rattle.std.specs.List.{join_with_byte, list_all, list_any, onto_first, slice_split, AllByRecursion, after_last, flat_map, position, position_or_len, prefix_len, suffix_len}
use Rattle.std.specs.Ordering.{int_cmp}
use Rattle.std.specs.declared.cmp.Ordering.TheVariants.{Less}
use Rattle.std.proofs.lemmas.Bool.Decides.{nat_tests}
use Rattle.std.specs.Int.{bit_at, int_min}
use Rattle.std.proofs.lemmas.Cmp.{int_ranked}
use Rattle.std.specs.Option.{is_some, option_or}
use Rattle.std.specs.Prelude.{is_some, nat_lt, not, reverse}
use Rattle.std.proofs.lemmas.Map.Keys.{sorted_tail}
use Rattle.std.specs.List.Sorted.{IsStrictlySortedBy}
use Rattle.std.proofs.lemmas.Option.{cond_some}
use Rattle.std.proofs.lemmas.List.Splits.{length-slice_split, slice_split_first, slice_split_none}
use Rattle.std.proofs.lemmas.List.Sums.{prefix_len-le-length, prefix_len_passes, suffix_len-le-length}
use Rattle.std.proofs.lemmas.Str.{IsCharBoundary-after_ascii, IsCharBoundary-before_ascii, IsCharBoundary-end, IsCharBoundary-start, digit_value_digit}
use Rattle.std.proofs.lemmas.List.Recursion.{and_at}
use Rattle.std.specs.Str.{IsCharBoundary, IsUtf8}

-- ## Booleans

pub and_true : (x : Bool) → (x && true) ≡ x
and_true x = grind arith

pub and_regrouped : (x y z : Bool) → ((x && y) && z) ≡ (x && (y && z))
and_regrouped x y z = grind arith

pub both_follow : (a b c d : Bool) → (a ≡ true → c ≡ true) → (b ≡ true → d ≡ true) → (a && b) ≡ true → (c && d) ≡ true
both_follow a b c d p q h = grind arith

-- whether `f` returns `true` for all lists of `n` Booleans
abbrev pub check_all : ℕ → (List Bool → Bool) → Bool
check_all zero f = f []
check_all (suc n) f = check_all n (λ bs. f (true ∷ bs)) && check_all n (λ bs. f (false ∷ bs))

pub each_checked : (n : ℕ) (f : List Bool → Bool) (bs : List Bool) → check_all n f ≡ true → length bs ≡ n → f bs ≡ true
each_checked zero f [] all long = all
each_checked zero f (b ∷ bs) all long = absurd (omega arith)
each_checked (suc n) f [] all long = absurd (omega arith)
each_checked (suc n) f (true ∷ bs) all long =
    each_checked n (λ cs. f (true ∷ cs)) bs (and_parts (check_all n (λ cs. f (true ∷ cs))) (check_all n (λ cs. f (false ∷ cs))) all).0 (omega arith)
each_checked (suc n) f (false ∷ bs) all long =
    each_checked n (λ cs. f (false ∷ cs)) bs (and_parts (check_all n (λ cs. f (true ∷ cs))) (check_all n (λ cs. f (false ∷ cs))) all).1 (omega arith)

-- whether `f` returns `true` for all numbers below `n`
abbrev pub all_below : ℕ → (ℕ → Bool) → Bool
all_below zero f = true
all_below (suc n) f = f n && all_below n f

pub below_all : (k : ℕ) (f : ℕ → Bool) (n : ℕ) → all_below k f ≡ true → n < k → f n ≡ true
below_all zero f n all small = absurd (omega arith)
below_all (suc k) f n all small = grind (arith, below_all k f n)

-- ## Numbers

pub int_lt_trans : (a b c : ℤ) → a <ℤ b → b <ℤ c → a <ℤ c
int_lt_trans a b c h k = omega (arith, ints)

pub lt_test : (a b : ℤ) → a <ℤ b → int_lt a b ≡ true
lt_test a b h = grind (arith, ints)

pub not_lt_test : (a b : ℤ) → b ≤ℤ a → int_lt a b ≡ false
not_lt_test a b h = grind (arith, ints)

pub none_between : (low high i : ℕ) → high ≤ low → (nat_le low i && nat_lt i high) ≡ false
none_between low high i none = grind (arith, nat_tests)

-- if no number from `n` upwards passes the test, every number that passes is below `n`
pub below_end : (passes : ℕ → Bool) (n s : ℕ) → ((i : ℕ) → n ≤ i → passes i ≡ false) → passes s ≡ true → s < n
below_end passes n s none holds = grind (arith, none s)

pub max_from_zero : (old months most : ℕ) → old ≡ 0 → most ≡ max old months → most ≡ months
max_from_zero old months most none is = omega arith

-- a lower bound of two numbers is a lower bound of their minimum
pub min_from : (a b low : ℤ) → low ≤ℤ a → low ≤ℤ b → low ≤ℤ int_min a b
min_from a b low p q = grind arith

pub lt_from_test : (last p : ℤ) → int_lt last p ≡ true → last <ℤ p
lt_from_test last p h = grind (arith, ints)

pub lt_from_pos : (at t : ℕ) (i : ℤ) → pos t ≡ i → pos at <ℤ i → at < t
lt_from_pos at t i is h = omega (arith, ints)

-- a number that isn't negative equals its absolute value
pub pos_unsigned_abs : (z : ℤ) (n : ℕ) → pos 0 ≤ℤ z → n ≡ unsigned_abs z → pos n ≡ z
pos_unsigned_abs (pos m) n low e = ap pos e
pos_unsigned_abs (negsuc m) n low e = absurd (omega (arith, ints))

-- if two natural numbers have a sum below 2 ^ 63, adding them as 64-bit integers gives that sum
pub sum_whole : (a b : ℤ) (n m : ℕ) → a ≡ pos n → b ≡ pos m → n + m < 2 ^ 63 → to_z w64 (of_z w64 (to_z w64 (of_z w64 a) +ℤ to_z w64 (of_z w64 b))) ≡ pos (n + m)
sum_whole a b n m is_n is_m small = rw (is_n, is_m, to_z_pos w64 n (omega arith), to_z_pos w64 m (omega arith)) (to_z_pos w64 (n + m) small)

pub lt_from_less : (a b : ℤ) → int_cmp a b ≡ Less → a <ℤ b
lt_from_less a b e = int_ranked a b Less (sym e)

-- ## Bits

-- bit k is the lowest bit of m that is set
pub record IsLowestBit (m k : ℕ) : Type 0 where
  pub one : bit_at m k ≡ 1
  pub none : (i : ℕ) → i < k → bit_at m i ≡ 0

-- ## Options and results

pub some_none : {A : Type 0} (x : A) → Some x ≡ None → ⊥
some_none x h = cc

pub not_some : {A : Type 0} (o : Option A) → is_some o ≡ false → o ≡ None
not_some o e = grind arith

-- `cond` returns `None` if the test `b` is `true`, and `Some x` otherwise; so if the result is `None`, `b` is `true`
pub none_chosen : {A : Type 0} (b : Bool) (x : A) → ◌≡◌ {A = Option A} (cond b None (Some x)) None → b ≡ true
none_chosen b x h = grind arith

pub option_or_none : {A : Type 0} (o p : Option A) → option_or o p ≡ None → (o ≡ None) × (p ≡ None)
option_or_none None p at = (refl, at)
option_or_none (Some e) p at = cc

pub option_or-none : {A : Type 0} (o : Option A) → option_or o None ≡ o
option_or-none None = refl
option_or-none (Some x) = refl

-- ## Lists

pub some_front : (xs ys : List ℕ) → 0 < length xs → 0 < length (xs ++ ys)
some_front xs ys h = omega (arith, length-append xs ys)

pub list_all-both : (q : ℕ → Bool) (xs ys : List ℕ) → list_all q xs ≡ true → list_all q ys ≡ true → list_all q (xs ++ ys) ≡ true
list_all-both q xs ys h k = list_all-append q xs ys ∙ and_from (list_all q xs) (list_all q ys) h k

pub list_any-map : {A B : Type 0} (p : B → Bool) (f : A → B) (xs : List A) → list_any p (map f xs) ≡ list_any (λ x. p (f x)) xs
list_any-map p f [] = refl
list_any-map p f (x ∷ xs) = ap (λ others. p (f x) || others) (list_any-map p f xs)

-- a list has an item that passes a test exactly if `position_or_len` finds one
pub list_any-position : (p : ℕ → Bool) (xs : List ℕ) → position_or_len p xs < length xs → list_any p xs ≡ true
list_any-position p [] within = absurd (omega arith)
list_any-position p (x ∷ xs) within = grind (arith, list_any-position p xs)

pub list_any-no_position : (p : ℕ → Bool) (xs : List ℕ) → length xs ≤ position_or_len p xs → list_any p xs ≡ false
list_any-no_position p [] past = refl
list_any-no_position p (x ∷ xs) past = grind (arith, list_any-no_position p xs)

pub slice_get-take : (n : ℕ) (xs : List ℤ) (k : ℕ) (x : ℤ) → slice_get (take n xs) k ≡ Some x → slice_get xs k ≡ Some x
slice_get-take zero xs k x h = absurd (cc)
slice_get-take (suc n) [] k x h = absurd (cc)
slice_get-take (suc n) (y ∷ ys) zero x h = h
slice_get-take (suc n) (y ∷ ys) (suc k) x h = slice_get-take n ys k x h

-- if the first item of a list is `x`, the list is `x` followed by the remaining items
pub list-first : (xs : List ℤ) (x : ℤ) → slice_get xs 0 ≡ Some x → xs ≡ x ∷ drop 1 xs
list-first [] x h = absurd (cc)
list-first (y ∷ ys) x h = let same : y ≡ x = cc in ap (λ (z : ℤ). z ∷ ys) same

pub list-no_first : (xs : List ℤ) → slice_get xs 0 ≡ None → xs ≡ []
list-no_first [] h = refl
list-no_first (y ∷ ys) h = absurd (cc)

-- if `y` is the item at index `i` mapped by `f`, then the mapped list from index `i` on is `y` followed by the mapped
-- list from index `i + 1` on
pub items_next : {A B : Type 0} (f : A → B) (xs : List A) (i : ℕ) (x : A) (y : B) → i < length xs → x ≡ get_or xs i x → y ≡ f x → map f (drop i xs) ≡ y ∷ map f (drop (i + 1) xs)
items_next f xs i x y h is e =
    rw (add-one, drop-cons xs i x h) (ap (λ z. f z ∷ map f (drop (suc i) xs)) (sym is) ∙ ap (λ t. t ∷ map f (drop (suc i) xs)) (sym e))

pub items_end : {A B : Type 0} (f : A → B) (xs : List A) (i : ℕ) → length xs ≤ i → map f (drop i xs) ≡ []
items_end f xs i h = ap (map f) (drop_all i xs h)

-- the texts of the items from index `i` on, joined, are the text of item `i` followed by the joined texts of the items
-- from index `i + 1` on
flat_map-drop : {A : Type 0} (f : A → List ℕ) (i : ℕ) (xs : List A) (d : A) → i < length xs → flat_map f (drop i xs) ≡ f (get_or xs i d) ++ flat_map f (drop (i + 1) xs)
flat_map-drop f i xs d h = rw (add-one, drop-cons xs i d h) refl

-- if `piece` is the text of item `i`, the joined texts of the items from index `i` on are `piece` followed by the
-- joined texts of the items from index `i + 1` on
pub item_first : {A : Type 0} (f : A → List ℕ) (i : ℕ) (xs : List A) (d : A) {piece : List ℕ} → i < length xs → piece ≡ f (get_or xs i d) → flat_map f (drop i xs) ≡ piece ++ flat_map f (drop (i + 1) xs)
item_first f i xs d h is = flat_map-drop f i xs d h ∙ ap (λ first. first ++ flat_map f (drop (i + 1) xs)) (sym is)

-- one step of a loop: if what `f` returns for the first `i` items was appended, and then what it returns for the next
-- item, then what it returns for the first `i + 1` was appended
pub flat_more : {X A : Type 0} (f : X → List A) (xs : List X) (i : ℕ) (x : X) (old now new : List A) → i < length xs → x ≡ get_or xs i x
    → now ≡ old ++ flat_map f (take i xs) → new ≡ now ++ f x → new ≡ old ++ flat_map f (take (i + 1) xs)
flat_more f xs i x old now new within is was more =
    let all : take i xs ++ x ∷ [] ≡ take (i + 1) xs = ap (λ y. take i xs ++ y ∷ []) is ∙ sym (take_more xs i x within) in
    more ∙ ap (λ ys. ys ++ f x) was ∙ flat_map_more f old (take i xs) x ∙ ap (λ ys. old ++ flat_map f ys) all

-- `flat_more` for items seen through `view`
pub flat_more_by : {X Y A : Type 0} (f : Y → List A) (view : X → Y) (xs : List X) (i : ℕ) (x : X) (old now new : List A) → i < length xs → x ≡ get_or xs i x
    → now ≡ old ++ flat_map f (map view (take i xs)) → new ≡ now ++ f (view x) → new ≡ old ++ flat_map f (map view (take (i + 1) xs))
flat_more_by f view xs i x old now new within is was more =
    flat_more (λ y. f (view y)) xs i x old now new within is (was ∙ ap (λ ys. old ++ ys) (flat_map-map f view (take i xs))) more
    ∙ ap (λ ys. old ++ ys) (sym (flat_map-map f view (take (i + 1) xs)))

pub drop_none : (members : List ℤ) → None ≡ slice_get members 0 → members ≡ drop 1 members
drop_none [] h = refl
drop_none (x ∷ xs) h = absurd (cc)

-- every suffix of a strictly increasing list is strictly increasing
pub rises-drop : (xs : List ℤ) (k : ℕ) → IsStrictlySortedBy int_cmp xs → IsStrictlySortedBy int_cmp (drop k xs)
rises-drop xs zero h = h
rises-drop [] (suc k) h = h
rises-drop (x ∷ xs) (suc k) h = rises-drop xs k (sorted_tail int_cmp x xs h)

rises-next : (xs : List ℤ) (k : ℕ) → IsStrictlySortedBy int_cmp (drop k xs) → IsStrictlySortedBy int_cmp (drop (suc k) xs)
rises-next xs zero h = rises-drop xs 1 h
rises-next [] (suc k) h = h
rises-next (x ∷ xs) (suc k) h = rises-next xs k h

pub rises_after : (xs : List ℤ) (k : ℕ) → IsStrictlySortedBy int_cmp (drop k xs) → IsStrictlySortedBy int_cmp (drop (k + 1) xs)
rises_after xs k h = rw (add-one k) (rises-next xs k h)

-- if an item that passes the test `p` is appended, the longest suffix of items that pass grows by one
suffix_more : {X : Type 0} (p : X → Bool) (xs : List X) (x : X) → p x ≡ true → suffix_len p (xs ++ x ∷ []) ≡ 1 + suffix_len p xs
suffix_more p xs x e = ap (prefix_len p) (reverse-append xs (x ∷ [])) ∙ rw e refl

suffix_none : {X : Type 0} (p : X → Bool) (xs : List X) (x : X) → p x ≡ false → suffix_len p (xs ++ x ∷ []) ≡ 0
suffix_none p xs x e = ap (prefix_len p) (reverse-append xs (x ∷ [])) ∙ rw e refl

pub after_last_here : {X : Type 0} (p : X → Bool) (xs : List X) (x : X) → p x ≡ true → after_last p (xs ++ x ∷ []) ≡ []
after_last_here p xs x e =
    let none : suffix_len (λ y. not (p y)) (xs ++ x ∷ []) ≡ 0 = suffix_none (λ y. not (p y)) xs x (ap not e) in
    drop_all _ (xs ++ x ∷ []) (omega (arith, none))

pub after_last_more : {X : Type 0} (p : X → Bool) (xs : List X) (x : X) → p x ≡ false → after_last p (xs ++ x ∷ []) ≡ after_last p xs ++ x ∷ []
after_last_more p xs x e =
    let more : suffix_len (λ y. not (p y)) (xs ++ x ∷ []) ≡ 1 + suffix_len (λ y. not (p y)) xs = suffix_more (λ y. not (p y)) xs x (ap not e) in
    let same : length (xs ++ x ∷ []) - suffix_len (λ y. not (p y)) (xs ++ x ∷ []) ≡ length xs - suffix_len (λ y. not (p y)) xs = omega (arith, more, length-append xs (x ∷ [])) in
    ap (λ n. drop n (xs ++ x ∷ [])) same ∙ drop-append-le (length xs - suffix_len (λ y. not (p y)) xs) xs (x ∷ []) (omega arith)

-- no byte of the text passes the test `p`
abbrev pub IsClear : (ℕ → Bool) → List ℕ → Type 0
IsClear p text = list_any p text ≡ false

-- no byte passes both of the tests `q` and `p`
abbrev pub Apart : (ℕ → Bool) → (ℕ → Bool) → Type 0
Apart q p = (b : ℕ) → q b ≡ true → p b ≡ false

-- if all bytes of a text pass `q`, and no byte passes both `q` and `p`, then no byte of the text passes `p`
pub clear_of : (q p : ℕ → Bool) (text : List ℕ) → Apart q p → list_all q text ≡ true → IsClear p text
clear_of q p [] apart all = refl
clear_of q p (b ∷ bs) apart all = grind (arith, apart b, clear_of q p bs apart)

pub list_all-wider : (q p : ℕ → Bool) (text : List ℕ) → ((b : ℕ) → q b ≡ true → p b ≡ true) → list_all q text ≡ true → list_all p text ≡ true
list_all-wider q p [] holds all = refl
list_all-wider q p (b ∷ bs) holds all = grind (arith, holds b, list_all-wider q p bs holds)

-- if a property holds for all items of two lists, it holds for all items of their concatenation
pub all_append : (P : ℕ → Type 0) (xs ys : List ℕ) → AllByRecursion P xs → AllByRecursion P ys → AllByRecursion P (xs ++ ys)
all_append P [] ys h k = k
all_append P (x ∷ xs) ys h k = (h.0, all_append P xs ys h.1 k)

pub all_reverse : (P : ℕ → Type 0) (xs : List ℕ) → AllByRecursion P xs → AllByRecursion P (reverse xs)
all_reverse P [] h = tt
all_reverse P (x ∷ xs) h = subst (AllByRecursion P) (sym (reverse-append (x ∷ []) xs)) (all_append P (reverse xs) (x ∷ []) (all_reverse P xs h.1) (h.0, tt))

-- ## Splitting a text at separators

-- `onto_first` makes `x` the first byte of the first piece, or a piece of its own if there are no pieces. So it always
-- returns at least one piece, and so does `slice_split` (`some_piece`).
some_onto : (x : ℕ) (pieces : List (List ℕ)) → (first : List ℕ) × (more : List (List ℕ)) × (onto_first x pieces ≡ first ∷ more)
some_onto x [] = (x ∷ [], [], refl)
some_onto x (t ∷ ts) = (x ∷ t, ts, refl)

pub some_piece : (p : ℕ → Bool) (xs : List ℕ) → (first : List ℕ) × (more : List (List ℕ)) × (slice_split p xs ≡ first ∷ more)
some_piece p [] = ([], [], refl)
some_piece p (x ∷ xs) =
    elim (p x) as (λ test. (first : List ℕ) × (more : List (List ℕ)) × (cond test ([] ∷ slice_split p xs) (onto_first x (slice_split p xs)) ≡ first ∷ more)) [
      | true ↦ ([], slice_split p xs, refl)
      | false ↦ some_onto x (slice_split p xs)
    ]

-- a text without separators is a single piece
pub split_alone : (p : ℕ → Bool) (xs : List ℕ) → IsClear p xs → slice_split p xs ≡ xs ∷ []
split_alone p [] clear = refl
split_alone p (x ∷ xs) clear = grind (arith, split_alone p xs)

-- if `front` has no separator and `c` is a separator, splitting `front ++ (c ∷ rest)` gives `front` and then the pieces
-- of `rest`
pub split_at : (p : ℕ → Bool) (front : List ℕ) (c : ℕ) (rest : List ℕ) → IsClear p front → p c ≡ true → slice_split p (front ++ (c ∷ rest)) ≡ front ∷ slice_split p rest
split_at p [] c rest clear sign = rw sign refl
split_at p (x ∷ xs) c rest clear sign = grind (arith, split_at p xs c rest)

-- splitting undoes joining with the separator `c` if none of the joined texts contains `c`
pub split_join_with_byte : (c : ℕ) (t : List ℕ) (ts : List (List ℕ)) → nat_eq c c ≡ true → AllByRecursion (IsClear (λ b. b == c)) (t ∷ ts) → slice_split (λ b. b == c) (join_with_byte c (t ∷ ts)) ≡ t ∷ ts
split_join_with_byte c t [] same clear = split_alone (λ b. b == c) t clear.0
split_join_with_byte c t (u ∷ ts) same clear =
    split_at (λ b. b == c) t c (join_with_byte c (u ∷ ts)) clear.0 same ∙ ap (λ more. t ∷ more) (split_join_with_byte c u ts same clear.1)

pub some_pieces : (p : ℕ → Bool) (xs : List ℕ) → 0 < length (slice_split p xs)
some_pieces p xs = omega (arith, length-slice_split p xs)

pub not_found : (test : Bool) (m : ℕ) → cond test (Some m) None ≡ None → test ≡ false
not_found test m at = grind arith

-- if the first separator is at index `n`, splitting gives the bytes before it and then the pieces of the bytes after it
pub split_some : (p : ℕ → Bool) (xs : List ℕ) (n : ℕ) → position p xs ≡ Some n → slice_split p xs ≡ take n xs ∷ slice_split p (drop (n + 1) xs)
split_some p xs n at =
    let found = cond_some (nat_lt (position_or_len p xs) (length xs)) (position_or_len p xs) n at in
    slice_split_first p xs 0 (ltb-true _ _ found.0) ∙ ap (λ k. take k xs ∷ slice_split p (drop (k + 1) xs)) found.1

pub split_none : (p : ℕ → Bool) (xs : List ℕ) → position p xs ≡ None → slice_split p xs ≡ xs ∷ []
split_none p xs at =
    let none = ltb-false _ _ (not_found (nat_lt (position_or_len p xs) (length xs)) (position_or_len p xs) at) in
    slice_split_none p xs (λ k d within. not-true _ (prefix_len_passes (λ x. not (p x)) xs k d (omega (arith, none))))

-- ## Digits and letters

pub digit_below : (b : ℕ) → is_ascii_digit b ≡ true → digit_value b < 10
digit_below b h = grind (arith, nat_tests)

-- each byte of a list of digits is from 48 to 57, and the value of the digit is 48 less
pub digit_value_at : (digits : List ℕ) (i : ℕ) → i < length digits → list_all is_ascii_digit digits ≡ true → (48 ≤ get_or digits i 0) × (get_or digits i 0 ≤ 57) × (digit_value (get_or digits i 0) + 48 ≡ get_or digits i 0)
digit_value_at digits i within all =
    let is = and_at (list_all is_ascii_digit) is_ascii_digit refl (λ _ _. refl) digits i 0 within all in
    let range = and_parts (leb 48 (get_or digits i 0)) (leb (get_or digits i 0) 57) is in
    let low = leb-true 48 (get_or digits i 0) range.0 in
    let high = leb-true (get_or digits i 0) 57 range.1 in
    (low, high, digit_value_digit (get_or digits i 0) (low, high))

-- ## Positions at which a text may be split

pub boundary_at : (text : List ℕ) (m n : ℕ) → m ≡ n → IsCharBoundary text m → IsCharBoundary text n
boundary_at text m n e h = let P : ℕ → Type 0 = λ k. IsCharBoundary text k in subst P e h

pub in_suffix : (p : ℕ → Bool) (text : List ℕ) (k d : ℕ) → length text - suffix_len p text ≤ k → k < length text → p (get_or text k d) ≡ true
in_suffix p text k d from within =
    let back = length text - 1 - k in
    let there : back < suffix_len p text = omega arith in
    let here : length text - 1 - back ≡ k = omega arith in
    let seen = prefix_len_passes p (reverse text) back d there in
    let reversed = get_or-reverse text back d (omega arith) in
    rw (reversed, here) at seen

-- if only ASCII bytes pass `p`, a text may be split after the leading bytes that pass
front_boundary_at : (p : ℕ → Bool) (bs : List ℕ) (n : ℕ) → ((b : ℕ) → p b ≡ true → b < 128) → IsUtf8 bs → prefix_len p bs ≡ n → IsCharBoundary bs n
front_boundary_at p bs zero ascii utf8 e = IsCharBoundary-start bs utf8
front_boundary_at p bs (suc n) ascii utf8 e =
    let passes = prefix_len_passes p bs n 0 (omega (arith, e)) in
    subst (IsCharBoundary bs) (omega arith) (IsCharBoundary-after_ascii bs n utf8 (omega (arith, e, prefix_len-le-length p bs)) (ascii (get_or bs n 0) passes))

pub front_boundary : (p : ℕ → Bool) (bs : List ℕ) → ((b : ℕ) → p b ≡ true → b < 128) → IsUtf8 bs → IsCharBoundary bs (prefix_len p bs)
front_boundary p bs ascii utf8 = front_boundary_at p bs (prefix_len p bs) ascii utf8 refl

-- if only ASCII bytes pass `p`, a text may be split before the trailing bytes that pass
end_boundary_at : (p : ℕ → Bool) (bs : List ℕ) (n : ℕ) → ((b : ℕ) → p b ≡ true → b < 128) → suffix_len p bs ≡ n → IsCharBoundary bs (length bs - n)
end_boundary_at p bs zero ascii e = subst (IsCharBoundary bs) (omega arith) (IsCharBoundary-end bs)
end_boundary_at p bs (suc n) ascii e =
    let fits : suc n ≤ length bs = omega (arith, e, suffix_len-le-length p bs) in
    let passes = prefix_len_passes p (reverse bs) n 0 (omega (arith, e)) in
    let there : get_or (reverse bs) n 0 ≡ get_or bs (length bs - suc n) 0 = get_or-reverse bs n 0 (omega arith) ∙ ap (λ k. get_or bs k 0) (omega arith) in
    IsCharBoundary-before_ascii bs (length bs - suc n) (omega arith) (ascii (get_or bs (length bs - suc n) 0) (rw there at passes))

pub end_boundary : (p : ℕ → Bool) (bs : List ℕ) → ((b : ℕ) → p b ≡ true → b < 128) → IsCharBoundary bs (length bs - suffix_len p bs)
end_boundary p bs ascii = end_boundary_at p bs (suffix_len p bs) ascii refl
