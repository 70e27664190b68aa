-- `strip_suffix` removes the suffix of a name as `without_suffix` says.
use Rattle.std.proofs.Common.{◌≡◌, ◌-◌, ◌≤◌, ℕ, true, false, List, None, refl, sym, ap, ◌∙◌, arith, length, take}
use Rattle.std.specs.List.{ends_with}
use Rattle.std.specs.Prelude.{nat_eq}
use Rattle.std.specs.Str.{IsCharBoundary}
use Rattle.std.specs.Str.Pattern.{FindsTextSuffix, StripsSuffix}
use Rattle.std.proofs.lemmas.Str.Pattern.{ends_text}
use Rattle.cal_unit_index.specs.rules.UnitName.{suffix, without_suffix}

pub stripped : (name stem : List ℕ) → StripsSuffix (FindsTextSuffix suffix) name stem → stem ≡ without_suffix name
unfolding without_suffix
stripped name stem h =
    let fits : h.0 ≤ length name = omega (arith, h.3) in
    let cut : IsCharBoundary name (length name - h.0) = rw (h.1.0) h.1.2 in
    let ends : true ≡ ends_with nat_eq name suffix = ends_text true suffix name (h.0, h.1, fits, cut) in
    rw (sym ends) (h.2 ∙ ap (λ k. take (length name - k) name) h.1.0)

pub not_stripped : (name : List ℕ) → FindsTextSuffix suffix name None → name ≡ without_suffix name
unfolding without_suffix
not_stripped name h =
    let ends : false ≡ ends_with nat_eq name suffix = ends_text false suffix name h in
    rw (sym ends) refl
