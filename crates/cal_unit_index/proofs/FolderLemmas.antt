-- Lemmas on the prefixes of a stem that end with a dash: how examining one more byte changes the list of these
-- prefixes. Dashes and `@` are ASCII, so a stem may be cut after them.
use Rattle.std.proofs.Common.{◌≡◌, ◌+◌, ◌<◌, ◌≤◌, ◌==◌, ℕ, true, List, [], ◌∷◌, ◌++◌, All, refl, sym, ap, ◌∙◌, arith, append_assoc, append-nil, get_or, length, map, reverse, take, take-suc, add-one}
use Rattle.std.specs.Prelude.{if◌then◌else◌}
use Rattle.std.specs.List.{flat_map, position_or_len}
use Rattle.std.proofs.lemmas.List.{get_or-map, length-map, length-take, map-append, reverse-append}
use Rattle.std.proofs.lemmas.Grind.{flat_map-append}
use Rattle.std.proofs.lemmas.List.Elements.{All-append, All-cons, All-get_or, All-head, All-nil, All-tail}
use Rattle.std.proofs.lemmas.List.Sums.{passes_at_first}
use Rattle.std.proofs.lemmas.Bool.Decides.{nat_tests}
use Rattle.cal_unit_index.specs.rules.Folders.{is_dash_within, prefixes_within}
use Rattle.cal_unit_index.specs.rules.UnitName.{is_at_sign, stem_base}

pub prefixes_none : (base : List ℕ) → prefixes_within base 0 ≡ []
unfolding prefixes_within
prefixes_none base = refl

prefixes_more : (base : List ℕ) (i : ℕ) → prefixes_within base (i + 1) ≡ prefixes_within base i ++ (if is_dash_within base i then take (i + 1) base ∷ [] else [])
unfolding prefixes_within
prefixes_more base i = ap (prefixes_within base) (add-one i)

pub prefixes_step : (front before now : List (List ℕ)) (base : List ℕ) (i : ℕ) → before ≡ front ++ prefixes_within base i
    → now ≡ before ++ (if is_dash_within base i then take (i + 1) base ∷ [] else []) → now ≡ front ++ prefixes_within base (i + 1)
prefixes_step front before now base i h e =
    e
    ∙ ap (λ before. before ++ (if is_dash_within base i then take (i + 1) base ∷ [] else [])) h
    ∙ append_assoc front (prefixes_within base i) (if is_dash_within base i then take (i + 1) base ∷ [] else [])
    ∙ ap (λ last. front ++ last) (sym (prefixes_more base i))

-- if a stem is longer than its base, the byte after the base, which is `@`, is ASCII
pub at_sign_is_ascii : (stem : List ℕ) → length (stem_base stem) < length stem → get_or stem (length (stem_base stem)) 0 < 128
at_sign_is_ascii stem h =
    let cut = length-take (position_or_len is_at_sign stem) stem in
    let short : position_or_len is_at_sign stem < length stem = omega arith in
    let same : length (stem_base stem) ≡ position_or_len is_at_sign stem = omega arith in
    let passes : (get_or stem (position_or_len is_at_sign stem) 0 == 64) ≡ true = passes_at_first is_at_sign stem 0 short in
    let byte : get_or stem (position_or_len is_at_sign stem) 0 ≡ 64 = grind (arith, nat_tests) in
    rw (same, byte) (omega arith)

pub dash_is_ascii : (base : List ℕ) (i : ℕ) → is_dash_within base i ≡ true → get_or base i 0 < 128
dash_is_ascii base i h = grind (arith, nat_tests)

pub map_reverse : {A B : Type 0} (f : A → B) (xs : List A) → map f (reverse xs) ≡ reverse (map f xs)
map_reverse f [] = refl
map_reverse f (x ∷ xs) =
    ap (map f) (reverse-append (x ∷ []) xs)
    ∙ map-append f (reverse xs) (x ∷ [])
    ∙ ap (λ ys. ys ++ f x ∷ []) (map_reverse f xs)
    ∙ sym (reverse-append (f x ∷ []) (map f xs))

-- a stem may be cut after its base, because `@` is ASCII
pub base_is_boundary : (stem : List ℕ) → length (stem_base stem) < length stem → 128 ≤ get_or stem (length (stem_base stem)) 0
    → 192 ≤ get_or stem (length (stem_base stem)) 0
base_is_boundary stem short high = let low = at_sign_is_ascii stem short in omega arith

pub base_fits : (stem : List ℕ) → length (stem_base stem) ≤ length stem
base_fits stem = let cut = length-take (position_or_len is_at_sign stem) stem in omega arith

-- Suppose that a loop appends what `F` returns for each element, and has done so for the first `i`. After it has done
-- so for the next element, it has done so for the first `i + 1`.
pub step_flat : {A B C : Type 0} (F : B → List C) (view : A → B) (front before now : List C) (xs : List A) (i : ℕ) (x : A)
    → i < length xs → x ≡ get_or xs i x → before ≡ front ++ flat_map F (map view (take i xs)) → now ≡ before ++ F (view x)
    → now ≡ front ++ flat_map F (map view (take (i + 1) xs))
step_flat F view front before now xs i x short is h e =
    let last : take (i + 1) xs ≡ take i xs ++ x ∷ [] = ap (λ j. take j xs) (add-one i) ∙ take-suc xs i x short ∙ ap (λ y. take i xs ++ y ∷ []) (sym is) in
    let mapped : map view (take (i + 1) xs) ≡ map view (take i xs) ++ view x ∷ [] = ap (map view) last ∙ map-append view (take i xs) (x ∷ []) in
    let flat : flat_map F (map view (take (i + 1) xs)) ≡ flat_map F (map view (take i xs)) ++ F (view x) =
    ap (flat_map F) mapped ∙ flat_map-append F (map view (take i xs)) (view x ∷ []) ∙ ap (λ ys. flat_map F (map view (take i xs)) ++ ys) (append-nil (F (view x))) in
    e ∙ ap (λ ys. ys ++ F (view x)) h ∙ append_assoc front (flat_map F (map view (take i xs))) (F (view x)) ∙ ap (λ ys. front ++ ys) (sym flat)

pub All_reverse : {A : Type 0} (P : A → Type 0) (xs : List A) → All P xs → All P (reverse xs)
All_reverse P [] all = All-nil P
All_reverse P (x ∷ xs) all = rw (reverse-append (x ∷ []) xs) (All-append P (reverse xs) (x ∷ []) (All_reverse P xs (All-tail P x xs all)) (All-cons P x [] (All-head P x xs all) (All-nil P)))

-- if `P` holds for all elements, seen through `view`, it holds for the element at index `i`
pub All_item : {A B : Type 0} (P : B → Type 0) (view : A → B) (xs : List A) (i : ℕ) (x : A) → i < length xs → x ≡ get_or xs i x
    → All P (map view xs) → P (view x)
All_item P view xs i x short is all =
    let shown : get_or (map view xs) i (view x) ≡ view x = get_or-map view xs i x (view x) short ∙ ap view (sym is) in
    rw (← shown) (All-get_or P (map view xs) i (view x) (rw (length-map xs view) short) all)
