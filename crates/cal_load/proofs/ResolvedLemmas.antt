-- Lemmas on filling in the specifiers of assignments.
use Rattle.std.proofs.Common.{◌≡◌, ◌∙◌, ◌&&◌, ◌==◌, ℕ, nat_eq, Bool, true, false, List, [], ◌∷◌, ◌++◌, Option, None, Some, ap, append-nil, arith, filter, length, map, refl, sym}
use Rattle.std.proofs.lemmas.Bool.Decides.{nat_tests}
use Rattle.std.proofs.lemmas.List.{map-append}
use Rattle.std.proofs.lemmas.List.Elements.{filter_map-append}
use Rattle.std.specs.List.{after_last, cons_option, list_any}
use Rattle.std.specs.Option.{option_to_list}
use Rattle.std.specs.Prelude.{if◌then◌else◌}
use Rattle.cal_read.specs.declared.section_assignments.OwnedAssignment.{OwnedAssignment}
use Rattle.cal_read.specs.rules.SectionAssignments.{shown_owned_assignment}
use Rattle.cal_timer.proofs.ListedLemmas.{kept_more, kept_other, kept_reset}
use Rattle.cal_timer.specs.rules.Assignments.{Assignment}
use Rattle.cal_timer.specs.rules.TimerText.{is_expression, is_reset}
use Rattle.cal_unit_index.specs.rules.Destinations.{last_part}
use Rattle.cal_load.specs.rules.Resolved.{after_reset, is_unclear_expression, is_unclear_filling, may_have_specifiers, resolved, resolved_in, unclear_in, unclear_of, unclear_with, value_filled}
use Rattle.cal_load.specs.rules.Specifiers.{Filling}
use Rattle.cal_load.specs.rules.Specifiers.Filling.{Unclear}

one_resolved : (a : Option Assignment) → cons_option a [] ≡ option_to_list a
one_resolved None = refl
one_resolved (Some a) = refl

-- ## One more assignment

pub resolved_more : (name own : List ℕ) (before : List OwnedAssignment) (a : OwnedAssignment) (old new : List Assignment) → own ≡ last_part name
    → old ≡ resolved_in name (map shown_owned_assignment before) → new ≡ old ++ option_to_list (resolved own (shown_owned_assignment a))
    → new ≡ resolved_in name (map shown_owned_assignment (before ++ a ∷ []))
resolved_more name own before a old new is so_far pushed =
    pushed
    ∙ ap (λ list. list ++ option_to_list (resolved own (shown_owned_assignment a))) so_far
    ∙ ap (λ own. resolved_in name (map shown_owned_assignment before) ++ option_to_list (resolved own (shown_owned_assignment a))) is
    ∙ ap (λ last. resolved_in name (map shown_owned_assignment before) ++ last) (sym (one_resolved (resolved (last_part name) (shown_owned_assignment a))))
    ∙ sym (filter_map-append (resolved (last_part name)) (map shown_owned_assignment before) (shown_owned_assignment a ∷ []))
    ∙ ap (resolved_in name) (sym (map-append shown_owned_assignment before (a ∷ [])))

unclear_by : (own : List ℕ) (before : List Assignment) (a : Assignment) (r u : Bool) → is_reset a ≡ r → is_unclear_expression own a ≡ u
    → filter (is_unclear_expression own) (after_last is_reset (before ++ a ∷ [])) ≡ unclear_with own (filter (is_unclear_expression own) (after_last is_reset before)) a
unclear_by own before a true u e f = rw e (kept_reset (is_unclear_expression own) is_reset before a e)
unclear_by own before a false true e f = rw (e, f) (kept_more (is_unclear_expression own) is_reset before a e f)
unclear_by own before a false false e f = rw (e, f) (kept_other (is_unclear_expression own) is_reset before a e f)

pub unclear_more : (name own : List ℕ) (before : List OwnedAssignment) (a : OwnedAssignment) (old new : List Assignment) → own ≡ last_part name
    → old ≡ unclear_in name (map shown_owned_assignment before) → new ≡ unclear_with own old (shown_owned_assignment a)
    → new ≡ unclear_in name (map shown_owned_assignment (before ++ a ∷ []))
unfolding unclear_in
unclear_more name own before a old new is so_far after =
    after
    ∙ ap (λ old. unclear_with own old (shown_owned_assignment a)) so_far
    ∙ ap (λ own. unclear_with own (unclear_in name (map shown_owned_assignment before)) (shown_owned_assignment a)) is
    ∙ sym (unclear_by (last_part name) (map shown_owned_assignment before) (shown_owned_assignment a) _ _ refl refl)
    ∙ ap (unclear_in name) (sym (map-append shown_owned_assignment before (a ∷ [])))

pub nothing_unclear : (name : List ℕ) → unclear_in name [] ≡ []
unfolding unclear_in
nothing_unclear name = refl

-- ## One assignment, by what it becomes

and_false : (b : Bool) → (b && false) ≡ false
and_false true = refl
and_false false = refl

not_empty : (b : ℕ) (value : List ℕ) → (length (b ∷ value) == 0) ≡ false
not_empty b value = grind (arith, nat_tests)

some_value : (value : List ℕ) (key none : Bool) → (list_any (nat_eq 37) value && key) ≡ true → ((length value == 0) && none) ≡ false
some_value [] key none e = absurd (cc)
some_value (b ∷ value) key none e = rw (not_empty b value) refl

-- an assignment whose value may have specifiers clears nothing, since it has a value
specified_clears_nothing : (a : Assignment) → may_have_specifiers a ≡ true → is_reset a ≡ false
unfolding is_reset
specified_clears_nothing a e = some_value a.value _ _ e

-- an assignment without specifiers isn't an unclear expression
pub plain_unclear : (own : List ℕ) (unclear : List Assignment) (a : Assignment) → may_have_specifiers a ≡ false
    → after_reset unclear a ≡ unclear_with own unclear a
unfolding is_unclear_expression
plain_unclear own unclear a e = rw (e, and_false (is_expression a)) refl

-- an assignment whose specifiers are filled in, or are invalid, isn't unclear
pub clear_unclear : (own : List ℕ) (unclear : List Assignment) (a : Assignment) (filling : Filling) → may_have_specifiers a ≡ true
    → filling ≡ value_filled own a → is_unclear_filling filling ≡ false → unclear ≡ unclear_with own unclear a
unfolding is_unclear_expression
clear_unclear own unclear a filling e is clear = rw (specified_clears_nothing a e, e, ← is, clear, and_false (is_expression a)) refl

unclear_if : (c : Bool) (unclear : List Assignment) (a : Assignment)
    → unclear ++ (if c then (a ∷ []) else []) ≡ (if c && true then (unclear ++ a ∷ []) else unclear)
unclear_if true unclear a = refl
unclear_if false unclear a = append-nil unclear

-- an expression that depends on more than the timer's name is unclear
pub system_unclear : (own : List ℕ) (unclear : List Assignment) (a : Assignment) → may_have_specifiers a ≡ true → Unclear ≡ value_filled own a
    → unclear ++ unclear_of a ≡ unclear_with own unclear a
unfolding is_unclear_expression
system_unclear own unclear a e is = rw (specified_clears_nothing a e, e, ← is) (unclear_if (is_expression a) unclear a)
