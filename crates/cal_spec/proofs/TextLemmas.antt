-- Lemmas for the loop that prints the parts of a component.
use Rattle.std.proofs.Common.{◌≡◌, ℕ, List, [], ◌∷◌, ◌++◌, length, codes, refl, ap}
use Rattle.std.proofs.lemmas.List.{nil_from_length}
use Rattle.std.specs.List.{flat_map}
use Rattle.cal_spec.specs.rules.ExprText.{part_text, parts_text, number_text}
use Rattle.cal_spec.specs.declared.field.Part.{Part}

pub parts_text-none : (width : ℕ) (ps : List Part) → length ps ≡ 0 → parts_text width ps ≡ []
unfolding parts_text
parts_text-none width ps h = ap (parts_text width) (nil_from_length ps h)

pub parts_text-first : (width : ℕ) (p : Part) (ps : List Part) → parts_text width (p ∷ ps) ≡ part_text [] width p ++ flat_map (λ q. codes "," ++ part_text [] width q) ps
unfolding parts_text
parts_text-first width p ps = refl

-- the code writes a comma as the `lead` of a part, which gives the same text as a comma and then the part
pub part_text-comma : (width : ℕ) (p : Part) → part_text (codes ",") width p ≡ codes "," ++ part_text [] width p
unfolding part_text number_text
part_text-comma width p = refl
