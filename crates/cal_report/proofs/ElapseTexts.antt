-- Lemmas on the text of several elapses: it begins with the text of the first one.
use Rattle.std.proofs.Common.{◌≡◌, ℕ, zero, suc, ◌+◌, List, [], ◌∷◌, ◌++◌, take, Option, None, Some, refl, codes, slice_get, drop}
use Rattle.std.specs.Prelude.{ℤ}
use Rattle.cal_zone.specs.declared.zone.Zone.{Zone}
use Rattle.cal_report.specs.rules.ElapseLines.{elapse_text, elapse_texts, elapses_text}

some_is : (x e : ℤ) → ◌≡◌ {A = Option ℤ} (Some e) (Some x) → x ≡ e
some_is x e h = cc

-- if at least one elapse is shown (`count` isn't 0, and `xs` isn't empty), the text begins with the lines of the first
-- elapse, and the lines of the later elapses follow
pub texts_first : (local : Zone) (now : ℤ) (number count e : ℕ) (elapse : ℤ) (xs : List ℤ) → count ≡ suc e → Some elapse ≡ slice_get xs 0 → elapse_texts local now number (take count xs) ≡ elapse_text local now number elapse ++ elapse_texts local now (number + 1) (take e (drop 1 xs))
texts_first local now number count e elapse [] h is = absurd (cc)
texts_first local now number count e elapse (x ∷ xs) h is = rw (h, some_is x elapse is) refl

-- if at least one elapse is shown, the lines of the first one come first, with the label for number 1, and the lines of
-- the later ones follow, with labels that count from 2
pub shown_first : (local : Zone) (now : ℤ) (count e : ℕ) (elapse : ℤ) (xs : List ℤ) → count ≡ suc e → Some elapse ≡ slice_get xs 0 → elapses_text local now (take count xs) ≡ elapse_text local now 1 elapse ++ elapse_texts local now 2 (take e (drop 1 xs))
shown_first local now count e elapse [] h is = absurd (cc)
shown_first local now count e elapse (x ∷ xs) h is = rw (h, some_is x elapse is) refl

-- if there are no elapses, `never` is shown
pub shown_none : (local : Zone) (now : ℤ) (count : ℕ) (xs : List ℤ) → None ≡ slice_get xs 0 → elapses_text local now (take count xs) ≡ codes "    Next elapse: never\n"
shown_none local now zero [] is = refl
shown_none local now (suc count) [] is = refl
shown_none local now count (x ∷ xs) is = absurd (cc)
