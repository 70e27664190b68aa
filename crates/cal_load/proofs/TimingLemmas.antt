-- Lemmas on the settings that decide how late a run can be: what one more assignment changes.
use Rattle.std.proofs.Common.{◌≡◌, ◌+◌, ◌<◌, ℕ, Bool, true, false, List, [], ◌∷◌, ◌++◌, Option, Some, None, refl, sym, ap, ◌∙◌, append-nil, codes, filter, get_or, length, map, take, take-suc, add-one}
use Rattle.std.specs.Prelude.{if◌then◌else◌, ◌||◌, string_bytes}
use Rattle.std.specs.List.{last_or}
use Rattle.std.proofs.lemmas.List.{map-append}
use Rattle.std.proofs.lemmas.List.Elements.{filter-append}
use Rattle.cal_timer.specs.rules.Assignments.{Assignment}
use Rattle.cal_read.specs.declared.section_assignments.OwnedAssignment.{OwnedAssignment}
use Rattle.cal_read.specs.rules.SectionAssignments.{shown_owned_assignment}
use Rattle.cal_load.specs.declared.loaded.LoadedTimer.{LoadedTimer}
use Rattle.cal_load.specs.declared.timing.RunTiming.{RunTiming}
use Rattle.cal_load.specs.rules.Loaded.{unclear_of_files}
use Rattle.cal_load.specs.rules.Notes.{default_accuracy, starts_unit}
use Rattle.cal_load.specs.rules.Timing.{assignments_of, files_of, has_unevaluated, is_persistent_in, is_set, last_value, length_of_key, reach_in, reach_of, timing_of, whole_seconds}

pub last_none : (key : List ℕ) (is_valid : List ℕ → Bool) → last_value key is_valid [] ≡ None
unfolding last_value
last_none key is_valid = refl

last_or_more : (o : Option (List ℕ)) (xs : List (List ℕ)) (x : List ℕ) → last_or o (xs ++ x ∷ []) ≡ Some x
last_or_more o [] x = refl
last_or_more o (y ∷ ys) x = last_or_more (Some y) ys x

set_with : (key : List ℕ) (is_valid : List ℕ → Bool) (before : List Assignment) (a : Assignment) (is : Bool) → is_set key is_valid a ≡ is
    → filter (is_set key is_valid) (before ++ a ∷ []) ≡ filter (is_set key is_valid) before ++ (if is then a ∷ [] else [])
set_with key is_valid before a true e = filter-append (is_set key is_valid) before (a ∷ []) ∙ rw e refl
set_with key is_valid before a false e = filter-append (is_set key is_valid) before (a ∷ []) ∙ rw e refl

set_more : (key : List ℕ) (is_valid : List ℕ → Bool) (before : List Assignment) (a : Assignment) (is : Bool) → is_set key is_valid a ≡ is
    → last_value key is_valid (before ++ a ∷ []) ≡ (if is then Some a.value else last_value key is_valid before)
unfolding last_value
set_more key is_valid before a true e =
    ap (λ found. last_or None (map (λ a. a.value) found)) (set_with key is_valid before a true e)
    ∙ ap (last_or None) (map-append (λ a. a.value) (filter (is_set key is_valid) before) (a ∷ []))
    ∙ last_or_more None (map (λ a. a.value) (filter (is_set key is_valid) before)) a.value
set_more key is_valid before a false e =
    ap (λ found. last_or None (map (λ a. a.value) found))
    (set_with key is_valid before a false e ∙ append-nil (filter (is_set key is_valid) before))

mapped_more : (xs : List OwnedAssignment) (i : ℕ) (x : OwnedAssignment) → i < length xs → x ≡ get_or xs i x
    → map shown_owned_assignment (take (i + 1) xs) ≡ map shown_owned_assignment (take i xs) ++ shown_owned_assignment x ∷ []
mapped_more xs i x short is =
    ap (map shown_owned_assignment) (ap (λ j. take j xs) (add-one i) ∙ take-suc xs i x short ∙ ap (λ y. take i xs ++ y ∷ []) (sym is))
    ∙ map-append shown_owned_assignment (take i xs) (x ∷ [])

-- the last valid value among the first `i + 1` assignments, if that among the first `i` is `before`
pub last_step : (key : List ℕ) (is_valid : List ℕ → Bool) (xs : List OwnedAssignment) (i : ℕ) (x : OwnedAssignment) (is : Bool) (before : Option (List ℕ))
    → i < length xs → x ≡ get_or xs i x → is ≡ is_set key is_valid (shown_owned_assignment x) → before ≡ last_value key is_valid (map shown_owned_assignment (take i xs))
    → (if is then Some (shown_owned_assignment x).value else before) ≡ last_value key is_valid (map shown_owned_assignment (take (i + 1) xs))
last_step key is_valid xs i x is before short same set h =
    ap (λ (b : Option (List ℕ)). if is then Some (shown_owned_assignment x).value else b) h
    ∙ sym (set_more key is_valid (map shown_owned_assignment (take i xs)) (shown_owned_assignment x) is (sym set))
    ∙ ap (last_value key is_valid) (sym (mapped_more xs i x short same))

-- the three lengths make up how late a run can be
pub reach_is : (xs : List Assignment) (delay accuracy offset seconds : ℕ)
    → Some delay ≡ length_of_key (codes "RandomizedDelaySec") 0 xs → Some accuracy ≡ length_of_key (codes "AccuracySec") default_accuracy xs
    → Some offset ≡ length_of_key (codes "RandomizedOffsetSec") 0 xs → seconds ≡ whole_seconds (delay + accuracy + offset) → Some seconds ≡ reach_in xs
reach_is xs delay accuracy offset seconds d a o s = ap Some s ∙ (λ j. reach_of (d j) (a j) (o j))

pub timing_is : (timer : LoadedTimer) (xs unclear : List Assignment) (reach : Option ℕ) (others persistent : Bool)
    → xs ≡ assignments_of timer → unclear ≡ unclear_of_files (string_bytes timer.name) (files_of timer)
    → reach ≡ reach_in xs → others ≡ (starts_unit xs || has_unevaluated unclear timer.files) → persistent ≡ is_persistent_in xs
    → ◌≡◌ {A = RunTiming} (record { reach = reach; has_other_triggers = others; is_persistent = persistent }) (timing_of timer)
unfolding timing_of
timing_is timer xs unclear reach others persistent same these r o p =
    λ j. record {
      reach = (r ∙ ap reach_in same) j;
      has_other_triggers = (o ∙ (λ k. starts_unit (same k) || has_unevaluated (these k) timer.files)) j;
      is_persistent = (p ∙ ap is_persistent_in same) j;
    }

pub or_true : (a b : Bool) → a ≡ true → true ≡ (a || b)
or_true a b e = rw e refl

pub or_second : (a b : Bool) → a ≡ false → b ≡ (a || b)
or_second a b e = rw e refl
