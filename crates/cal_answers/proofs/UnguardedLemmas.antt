-- Lemmas on the timers with exceptions that systemd ignores.
use Rattle.std.proofs.Common.{◌≡◌, ◌+◌, ◌-◌, ◌<◌, ◌≤◌, ◌∙◌, ℕ, Bool, Bor, false, true, List, [], ◌∷◌, ◌++◌, Option, None, Some, add-one, ap, arith, get_or, length, refl, string_bytes, sym, take, take-suc}
use Rattle.std.specs.Prelude.{MatchOption, codes, if◌then◌else◌, nat_eq, slice_get}
use Rattle.std.specs.List.{ends_with, filter_map}
use Rattle.std.specs.Option.{option_map, option_to_list}
use Rattle.std.specs.Str.{IsCharBoundary}
use Rattle.std.specs.Str.Pattern.{FindsTextSuffix, StripsSuffix}
use Rattle.std.proofs.lemmas.Str.Pattern.{ends_text}
use Rattle.std.proofs.lemmas.List.Elements.{filter_map-append}
use Rattle.cal_machine.specs.rules.Machine.{Machine}
use Rattle.cal_unit_index.specs.declared.files.UnitText.{UnitText}
use Rattle.cal_load.specs.declared.loaded.LoadedTimer.{LoadedTimer}
use Rattle.cal_tasks.specs.declared.unguarded.GuardFlaw.{GuardFlaw}
use Rattle.cal_tasks.specs.rules.Unguarded.{UnguardedView, has_exceptions}
use Rattle.cal_answers.specs.rules.LintUnits.{is_in_folders}
use Rattle.cal_answers.specs.rules.Unguarded.{flaw_of, own_elsewhere, service_stem, started_flaw}

pub elsewhere_in_path : (search_path : List (List ℕ)) (files : List UnitText) → is_in_folders search_path files ≡ true → None ≡ own_elsewhere search_path files
elsewhere_in_path search_path [] h = refl
elsewhere_in_path search_path (own ∷ rest) h = rw h refl

pub elsewhere_first : (search_path : List (List ℕ)) (files : List UnitText) (own : UnitText) → is_in_folders search_path files ≡ false → slice_get files 0 ≡ Some own
    → Some (string_bytes own.path) ≡ own_elsewhere search_path files
elsewhere_first search_path [] own h is = absurd (cc)
elsewhere_first search_path (first ∷ rest) own h is =
    let same : first ≡ own = cc in
    ap (λ (own : UnitText). Some (string_bytes own.path)) (sym same) ∙ rw h refl

pub elsewhere_none : (search_path : List (List ℕ)) (files : List UnitText) → slice_get files 0 ≡ None → None ≡ own_elsewhere search_path files
elsewhere_none search_path [] is = refl
elsewhere_none search_path (own ∷ rest) is = absurd (cc)

-- what `strip_suffix` returns for the name of a unit is the stem of a service
pub stem_is : (unit : List ℕ) (result : Option (Bor (List ℕ)))
    → MatchOption result (FindsTextSuffix (codes ".service") unit None) (λ stem. StripsSuffix (FindsTextSuffix (codes ".service")) unit stem.now)
    → option_map (λ stem. stem.now) result ≡ service_stem unit
stem_is unit None h =
    let ends : false ≡ ends_with nat_eq unit (codes ".service") = ends_text false (codes ".service") unit h in
    rw (sym ends) refl
stem_is unit (Some stem) h =
    let fits : h.0 ≤ length unit = omega (arith, h.3) in
    let cut : IsCharBoundary unit (length unit - h.0) = rw (h.1.0) h.1.2 in
    let ends : true ≡ ends_with nat_eq unit (codes ".service") = ends_text true (codes ".service") unit (h.0, h.1, fits, cut) in
    rw (sym ends) (ap Some (h.2 ∙ ap (λ k. take (length unit - k) unit) h.1.0))

-- a timer without exceptions has no flaw
pub no_flaw : (machine : Machine) (search_path : List (List ℕ)) (is_user : Bool) (timer : LoadedTimer)
    → false ≡ has_exceptions timer → None ≡ flaw_of machine search_path is_user timer
unfolding flaw_of
no_flaw machine search_path is_user timer none = ap (λ has. if has then started_flaw machine search_path is_user timer else None) none

-- a timer with exceptions has the flaw of the service that it starts
pub flaw_if : (machine : Machine) (search_path : List (List ℕ)) (is_user : Bool) (timer : LoadedTimer) (flaw : Option GuardFlaw)
    → true ≡ has_exceptions timer → flaw ≡ started_flaw machine search_path is_user timer → flaw ≡ flaw_of machine search_path is_user timer
unfolding flaw_of
flaw_if machine search_path is_user timer flaw some e = e ∙ ap (λ has. if has then started_flaw machine search_path is_user timer else None) some

found_one : {X Y : Type 0} (f : X → Option Y) (x : X) (found : Option Y) → f x ≡ found → filter_map f (x ∷ []) ≡ option_to_list found
found_one f x None e = rw e refl
found_one f x (Some y) e = rw e refl

-- one step of a loop: if `before` has what `f` returns for the first `i` timers, and what it returns for the next timer
-- is appended, then `now` has what it returns for the first `i + 1`
pub entries_step : (f : LoadedTimer → Option UnguardedView) (timers : List LoadedTimer) (i : ℕ) (timer : LoadedTimer) (before now : List UnguardedView)
    → i < length timers → timer ≡ get_or timers i timer → before ≡ filter_map f (take i timers)
    → now ≡ before ++ option_to_list (f timer) → now ≡ filter_map f (take (i + 1) timers)
entries_step f timers i timer before now short is h e =
    let last : take (i + 1) timers ≡ take i timers ++ timer ∷ [] =
    ap (λ j. take j timers) (add-one i) ∙ take-suc timers i timer short ∙ ap (λ y. take i timers ++ y ∷ []) (sym is) in
    let found : filter_map f (take (i + 1) timers) ≡ filter_map f (take i timers) ++ option_to_list (f timer) =
    ap (filter_map f) last ∙ filter_map-append f (take i timers) (timer ∷ [])
    ∙ ap (λ more. filter_map f (take i timers) ++ more) (found_one f timer (f timer) refl) in
    e ∙ ap (λ before. before ++ option_to_list (f timer)) h ∙ sym found
