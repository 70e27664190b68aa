-- Lemmas on guards: the values of a setting that count, and the law of a service that asks.
use Rattle.std.proofs.Common.{◌≡◌, ◌+◌, ◌<◌, ℕ, Bool, true, false, List, [], ◌∷◌, ◌++◌, refl, sym, ap, ◌∙◌, append-nil, filter, get_or, length, map, take, take-suc, add-one}
use Rattle.std.specs.Prelude.{◌&&◌, if◌then◌else◌, not}
use Rattle.std.specs.List.{Contains, after_last, list_any}
use Rattle.std.specs.Str.{bytes_eq}
use Rattle.std.proofs.lemmas.List.{map-append}
use Rattle.std.proofs.lemmas.List.Elements.{filter-append}
use Rattle.std.proofs.lemmas.List.Folds.{Any-from_list_any}
use Rattle.cal_bytes.proofs.General.{after_last_here, after_last_more}
use Rattle.cal_bytes.specs.rules.Separators.{words}
use Rattle.cal_timer.specs.rules.Assignments.{Assignment}
use Rattle.cal_timer.specs.rules.TimerText.{has_no_value}
use Rattle.cal_read.specs.declared.section_assignments.OwnedAssignment.{OwnedAssignment}
use Rattle.cal_read.specs.rules.SectionAssignments.{shown_owned_assignment}
use Rattle.cal_load.specs.declared.guard.Guard.TheVariants.{Asks}
use Rattle.cal_load.specs.rules.Condition.{are_words_of_guard, arguments_in, ignores_failure, is_guard, is_ours, is_rewritten, runs_due}
use Rattle.cal_load.specs.rules.Guard.{HasSkippingGuard, Skips, accepts_failure, after_assignment, conditions, counted_values, guard_if, guard_in, reaction}

-- ## Values that count

pub counted_none : (key : List ℕ) → [] ≡ counted_values key []
unfolding counted_values
counted_none key = refl

abbrev has_key : List ℕ → Assignment → Bool
has_key key a = bytes_eq a.key key

abbrev values_in : List Assignment → List (List ℕ)
values_in = map (λ a. a.value)

-- the assignments with this key, after one more assignment
keyed_with : (key : List ℕ) (before : List Assignment) (a : Assignment) (is : Bool) → has_key key a ≡ is
    → filter (has_key key) (before ++ a ∷ []) ≡ filter (has_key key) before ++ (if is then a ∷ [] else [])
keyed_with key before a true e = filter-append (has_key key) before (a ∷ []) ∙ rw e refl
keyed_with key before a false e = filter-append (has_key key) before (a ∷ []) ∙ rw e refl

more_by : (key : List ℕ) (before : List Assignment) (a : Assignment) (is empty : Bool) → has_key key a ≡ is → has_no_value a ≡ empty
    → counted_values key (before ++ a ∷ []) ≡ after_assignment key (counted_values key before) a
unfolding counted_values
more_by key before a false empty e f =
    ap (λ all. values_in (after_last has_no_value all)) (keyed_with key before a false e ∙ append-nil (filter (has_key key) before)) ∙ rw e refl
more_by key before a true true e f =
    ap (λ all. values_in (after_last has_no_value all)) (keyed_with key before a true e)
    ∙ ap values_in (after_last_here has_no_value (filter (has_key key) before) a f) ∙ rw (e, f) refl
more_by key before a true false e f =
    ap (λ all. values_in (after_last has_no_value all)) (keyed_with key before a true e)
    ∙ ap values_in (after_last_more has_no_value (filter (has_key key) before) a f)
    ∙ map-append (λ a. a.value) (after_last has_no_value (filter (has_key key) before)) (a ∷ [])
    ∙ rw (e, f) refl

pub counted_more : (key : List ℕ) (before : List Assignment) (a : Assignment) → counted_values key (before ++ a ∷ []) ≡ after_assignment key (counted_values key before) a
counted_more key before a = more_by key before a (has_key key a) (has_no_value a) refl refl

-- if `before` has the values that count of the first `i` assignments, then `now` has those of the first `i + 1`
pub counted_step : (key : List ℕ) (xs : List OwnedAssignment) (i : ℕ) (x : OwnedAssignment) (before now : List (List ℕ))
    → i < length xs → x ≡ get_or xs i x → before ≡ counted_values key (map shown_owned_assignment (take i xs)) → now ≡ after_assignment key before (shown_owned_assignment x)
    → now ≡ counted_values key (map shown_owned_assignment (take (i + 1) xs))
counted_step key xs i x before now short is h e =
    let last : take (i + 1) xs ≡ take i xs ++ x ∷ [] = ap (λ j. take j xs) (add-one i) ∙ take-suc xs i x short ∙ ap (λ y. take i xs ++ y ∷ []) (sym is) in
    let mapped : map shown_owned_assignment (take (i + 1) xs) ≡ map shown_owned_assignment (take i xs) ++ shown_owned_assignment x ∷ [] =
    ap (map shown_owned_assignment) last ∙ map-append shown_owned_assignment (take i xs) (x ∷ []) in
    e ∙ ap (λ before. after_assignment key before (shown_owned_assignment x)) h
    ∙ sym (counted_more key (map shown_owned_assignment (take i xs)) (shown_owned_assignment x)) ∙ ap (counted_values key) (sym mapped)

-- ## A service that asks

asks_only : (is may accepts : Bool) → guard_if is may accepts ≡ Asks → (is ≡ true) × (accepts ≡ false)
asks_only true may false e = (refl, refl)
asks_only true may true e = absurd (cc)
asks_only false true accepts e = absurd (cc)
asks_only false false accepts e = absurd (cc)

all_four : (ignores ours rewritten due : Bool) → ((not ignores && ours) && (not rewritten && due)) ≡ true
    → (ignores ≡ false) × (ours ≡ true) × (rewritten ≡ false) × (due ≡ true)
all_four false true false true e = (refl, refl, refl, refl)
all_four false true false false e = absurd (cc)
all_four false true true due e = absurd (cc)
all_four false false rewritten due e = absurd (cc)
all_four true ours rewritten due e = absurd (cc)

skips_if : (ignores accepts : Bool) → ignores ≡ false → accepts ≡ false → reaction ignores accepts 1 ≡ Skips
skips_if ignores accepts e f = rw (e, f) refl

skipping : (is_user : Bool) (stem : List ℕ) (assignments : List Assignment) (command : List ℕ) (ws : List (List ℕ)) → Contains (conditions assignments) command
    → accepts_failure assignments ≡ false → words command ≡ ws → are_words_of_guard is_user stem ws ≡ true → HasSkippingGuard is_user stem assignments
skipping is_user stem assignments command [] counts accepts divided is = absurd (cc)
skipping is_user stem assignments command (first ∷ rest) counts accepts divided is =
    let each = all_four (ignores_failure first) (is_ours first) (is_rewritten first rest) (runs_due is_user stem (arguments_in first rest)) is in (
      command,
      first,
      rest,
      record {
        counts = counts;
        divided = divided;
        ours = each.1;
        verbatim = each.2;
        due = each.3;
        skips = skips_if (ignores_failure first) (accepts_failure assignments) each.0 accepts;
      },
    )

guarding : (is_user : Bool) (stem command : List ℕ) → is_guard is_user stem command ≡ true → are_words_of_guard is_user stem (words command) ≡ true
unfolding is_guard
guarding is_user stem command is = is

pub asking_skips : (is_user : Bool) (stem : List ℕ) (assignments : List Assignment) → guard_in is_user stem assignments ≡ Asks → HasSkippingGuard is_user stem assignments
asking_skips is_user stem assignments asks =
    let only = asks_only (list_any (is_guard is_user stem) (conditions assignments)) _ (accepts_failure assignments) asks in
    let any = Any-from_list_any (is_guard is_user stem) (conditions assignments) only.0 in
    skipping is_user stem assignments any.1 (words any.1) (any.0, any.2, any.3) only.1 refl (guarding is_user stem any.1 any.4)
