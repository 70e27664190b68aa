-- Lemmas on joining what the parts of a value stand for, and on checking the joined text.
use Rattle.std.proofs.Common.{◌≡◌, ℕ, Bool, true, false, List, ◌∷◌, map, refl, ap, ◌∙◌, append_assoc}
use Rattle.std.proofs.lemmas.Str.{IsUtf8-from_is_utf8, is_utf8-from_IsUtf8}
use Rattle.std.specs.Str.{IsUtf8, is_utf8}
use Rattle.cal_load.specs.rules.Specifiers.{Filling, all_joined, checked, joined}
use Rattle.cal_load.specs.rules.Specifiers.Filling.{Text, Unclear, Invalid}

pub joined_assoc : (a b c : Filling) → joined (joined a b) c ≡ joined a (joined b c)
joined_assoc Invalid b c = refl
joined_assoc Unclear Invalid c = refl
joined_assoc Unclear Unclear Invalid = refl
joined_assoc Unclear Unclear Unclear = refl
joined_assoc Unclear Unclear (Text z) = refl
joined_assoc Unclear (Text y) Invalid = refl
joined_assoc Unclear (Text y) Unclear = refl
joined_assoc Unclear (Text y) (Text z) = refl
joined_assoc (Text x) Invalid c = refl
joined_assoc (Text x) Unclear Invalid = refl
joined_assoc (Text x) Unclear Unclear = refl
joined_assoc (Text x) Unclear (Text z) = refl
joined_assoc (Text x) (Text y) Invalid = refl
joined_assoc (Text x) (Text y) Unclear = refl
joined_assoc (Text x) (Text y) (Text z) = ap Text (append_assoc x y z)

-- if the parts so far, joined with the remaining parts, give `total`, they still do after the next part, `x`, has been
-- joined to the parts so far
pub joined_more : {X : Type 0} (f : X → Filling) (before after total : Filling) (x : X) (xs ys : List X) → ys ≡ x ∷ xs → after ≡ joined before (f x) → joined before (all_joined (map f ys)) ≡ total → joined after (all_joined (map f xs)) ≡ total
joined_more f before after total x xs ys next more h =
    rw more (joined_assoc before (f x) (all_joined (map f xs)) ∙ (rw next at h))

-- ## Checking the text

pub is_text : (bytes text : List ℕ) → text ≡ bytes → IsUtf8 text → Text text ≡ checked (Text bytes)
is_text bytes text same good = rw (← same) (rw (is_utf8-from_IsUtf8 text good) refl)

unchecked : (bytes : List ℕ) (b : Bool) → is_utf8 bytes ≡ b → (IsUtf8 bytes → ⊥) → Invalid ≡ checked (Text bytes)
unchecked bytes true e bad = absurd (bad (IsUtf8-from_is_utf8 bytes e))
unchecked bytes false e bad = rw e refl

pub not_text : (bytes : List ℕ) → (IsUtf8 bytes → ⊥) → Invalid ≡ checked (Text bytes)
not_text bytes bad = unchecked bytes (is_utf8 bytes) refl bad
