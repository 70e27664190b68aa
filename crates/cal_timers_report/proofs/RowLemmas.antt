-- Rows that are made from the elements of a list, one after the other.
use Rattle.std.proofs.Common.{◌≡◌, ℕ, ◌+◌, ◌<◌, List, [], ◌∷◌, ◌++◌, length, map, take, get_or, sym, subst}
use Rattle.std.proofs.lemmas.List.{map-append, map_more, take_more}
use Rattle.std.specs.List.{AllZip}

-- if `AllZip` holds for two lists, it still holds after two elements that `R` relates are appended
pub all_zip_push : {A B : Type 0} (R : A → B → Type 0) (xs : List A) (ys : List B) (x : A) (y : B)
    → AllZip R xs ys → R x y → AllZip R (xs ++ x ∷ []) (ys ++ y ∷ [])
all_zip_push R [] [] x y h r = (r, tt)
all_zip_push R [] (b ∷ ys) x y h r = absurd h
all_zip_push R (a ∷ xs) [] x y h r = absurd h
all_zip_push R (a ∷ xs) (b ∷ ys) x y h r = (h.0, all_zip_push R xs ys x y h.1 r)

-- one step of a loop: if `rows` has the rows of the first `i` elements, and `more` is `rows` with the row of the next
-- element appended, then `more` has the rows of the first `i + 1`
pub rows_pushed : {X Y A B : Type 0} (R : A → B → Type 0) (view : X → A) (seen : Y → B) (xs : List X) (i : ℕ) (x : X) (rows more : List Y) (row : Y)
    → i < length xs → x ≡ get_or xs i x → AllZip R (map view (take i xs)) (map seen rows) → R (view x) (seen row) → more ≡ rows ++ row ∷ []
    → AllZip R (map view (take (i + 1) xs)) (map seen more)
rows_pushed R view seen xs i x rows more row within is before last pushed =
    subst (λ ys. AllZip R (map view (take (i + 1) xs)) (map seen ys)) (sym pushed)
    (subst (λ ys. AllZip R (map view (take (i + 1) xs)) ys) (sym (map-append seen rows (row ∷ [])))
    (subst (λ ys. AllZip R ys (map seen rows ++ seen row ∷ [])) (sym (map_more view xs i x within))
    (all_zip_push R (map view (take i xs)) (map seen rows) (view (get_or xs i x)) (seen row) before
    (subst (λ y. R (view y) (seen row)) is last))))

-- `rows_pushed`, for elements that aren't seen through a view
pub rows_put : {X Y B : Type 0} (R : X → B → Type 0) (seen : Y → B) (xs : List X) (i : ℕ) (x : X) (rows more : List Y) (row : Y)
    → i < length xs → x ≡ get_or xs i x → AllZip R (take i xs) (map seen rows) → R x (seen row) → more ≡ rows ++ row ∷ []
    → AllZip R (take (i + 1) xs) (map seen more)
rows_put R seen xs i x rows more row within is before last pushed =
    subst (λ ys. AllZip R (take (i + 1) xs) (map seen ys)) (sym pushed)
    (subst (λ ys. AllZip R (take (i + 1) xs) ys) (sym (map-append seen rows (row ∷ [])))
    (subst (λ ys. AllZip R ys (map seen rows ++ seen row ∷ [])) (sym (take_more xs i x within))
    (all_zip_push R (take i xs) (map seen rows) (get_or xs i x) (seen row) before
    (subst (λ y. R y (seen row)) is last))))
