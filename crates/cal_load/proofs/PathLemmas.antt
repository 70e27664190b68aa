-- Lemmas on paths without the slashes at their ends.
use Rattle.std.proofs.Common.{◌≡◌, ◌≢◌, ◌∙◌, ◌+◌, ◌-◌, ◌==◌, ◌<◌, ℕ, true, false, List, [], ◌∷◌, ◌++◌, Some, None, ap, arith, get_or, length, lit<, refl, sym, take}
use Rattle.std.proofs.lemmas.List.{length-append, length-take-le, reverse-append, take-append-le, take_all, take_more}
use Rattle.std.proofs.lemmas.Bool.{eqb-true, false_from_ne_true}
use Rattle.std.proofs.lemmas.List.Sums.{suffix_len_is}
use Rattle.std.proofs.lemmas.Str.Pattern.{strip_suffix_char}
use Rattle.std.specs.List.{prefix_len, suffix_len}
use Rattle.std.specs.Str.Pattern.{CutsSuffixes, FindsCharSuffix, IsFullyTrimmed, IsTrimEndMatches}
use Rattle.cal_bytes.specs.rules.Trim.{trim_end_matches}
use Rattle.cal_machine.specs.rules.Places.{is_slash}
use Rattle.cal_load.specs.rules.AllTargets.{root, unless_empty}

abbrev trimmed : List ℕ → List ℕ
trimmed path = trim_end_matches is_slash path

-- one more slash at the end of a path makes no difference once the trailing slashes are removed
one_slash : (front : List ℕ) → trimmed (front ++ 47 ∷ []) ≡ trimmed front
unfolding trim_end_matches
one_slash front =
    let back : suffix_len is_slash (front ++ 47 ∷ []) ≡ suffix_len is_slash front + 1 = ap (prefix_len is_slash) (reverse-append front (47 ∷ [])) ∙ omega arith in
    let long : length (front ++ 47 ∷ []) ≡ length front + 1 = length-append front (47 ∷ []) in
    let fewer : length (front ++ 47 ∷ []) - suffix_len is_slash (front ++ 47 ∷ []) ≡ length front - suffix_len is_slash front = omega arith in
    ap (λ n. take n (front ++ 47 ∷ [])) fewer ∙ take-append-le (length front - suffix_len is_slash front) front (47 ∷ []) (omega arith)

-- if cutting a slash off the end of `m` leaves `r`, then `m` is `r` followed by a slash
cut_slash : (m r : List ℕ) (n : ℕ) → FindsCharSuffix 47 m (Some n) → r ≡ take (length m - n) m → m ≡ r ++ 47 ∷ []
cut_slash m r n h e =
    let fits : length m ≡ (length m - n) + 1 = h.1.ends in
    let width : n ≡ 1 = h.0 in
    let long : length (take (length m - n) m) ≡ length m - n = length-take-le (length m - n) m (omega arith) in
    strip_suffix_char 47 m (Some (record { ref_ptr = (0, 0); now = take (length m - n) m })) (n, h, refl, omega arith) (lit< tt) ∙ ap (λ xs. xs ++ 47 ∷ []) (sym e)

cuts : (s : List ℕ) (ns : List ℕ) (r : List ℕ) → CutsSuffixes (FindsCharSuffix 47) s ns r → trimmed s ≡ trimmed r
cuts s [] r h = ap trimmed (sym h)
cuts s (n ∷ ns) r h = cuts s ns h.0 h.1 ∙ ap trimmed (cut_slash h.0 r n h.2 h.3) ∙ one_slash r

last_differs : (r : List ℕ) → ((front : List ℕ) → r ≢ front ++ 47 ∷ []) → 0 < length r → is_slash (get_or r (length r - 1) 0) ≡ false
last_differs r lacks some =
    let front : List ℕ = take (length r - 1) r in
    let split : r ≡ front ++ get_or r (length r - 1) 0 ∷ [] = sym (take_all ((length r - 1) + 1) r (omega arith)) ∙ take_more r (length r - 1) 0 (omega arith) in
    false_from_ne_true (is_slash (get_or r (length r - 1) 0)) (λ is. lacks front (split ∙ ap (λ byte. front ++ byte ∷ []) (eqb-true (get_or r (length r - 1) 0) 47 is)))

none_left : (r : List ℕ) → ((front : List ℕ) → r ≢ front ++ 47 ∷ []) → suffix_len is_slash r ≡ 0
none_left r lacks =
    suffix_len_is is_slash r (length r) 0 (omega arith) (λ k from within. absurd (omega arith)) (last_differs r lacks) ∙ omega arith

whole : (r : List ℕ) → FindsCharSuffix 47 r None → trimmed r ≡ r
unfolding trim_end_matches
whole r h =
    let lacks : (front : List ℕ) → r ≢ front ++ 47 ∷ [] = strip_suffix_char 47 r None h (lit< tt) in
    let zero_left : suffix_len is_slash r ≡ 0 = none_left r lacks in
    rw zero_left (take_all (length r - 0) r (omega arith))

fully : (r : List ℕ) → IsFullyTrimmed (FindsCharSuffix 47) r → trimmed r ≡ r
fully r (None, h, z) = whole r h
fully r (Some n, h, z) = absurd (let width : n ≡ 1 = h.0 in omega (arith, z))

pub trimmed_is : (s r : List ℕ) → IsTrimEndMatches (FindsCharSuffix 47) s r → r ≡ trim_end_matches is_slash s
trimmed_is s r h = sym (cuts s h.0.0 r h.0.1 ∙ fully r h.1)

pub root_if : (path : List ℕ) → true ≡ (length path == 0) → root ≡ unless_empty path
root_if path e = rw (← e) refl

pub same_if : (path : List ℕ) → false ≡ (length path == 0) → path ≡ unless_empty path
same_if path e = rw (← e) refl
