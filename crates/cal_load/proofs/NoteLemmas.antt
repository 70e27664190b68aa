-- Lemmas on the assignments that are noted for a timer.
use Rattle.std.proofs.Common.{Option, Some, None, true≢false, ◌≡◌, ◌∙◌, ◌||◌, ◌&&◌, ℕ, Bool, true, false, List, [], ◌∷◌, ◌++◌, ap, cond, map, not, refl, sym}
use Rattle.std.proofs.lemmas.List.{map-append}
use Rattle.std.proofs.lemmas.List.Folds.{list_any-append}
use Rattle.std.specs.List.{list_any}
use Rattle.std.specs.Prelude.{filter, if◌then◌else◌}
use Rattle.cal_read.specs.declared.section_assignments.OwnedAssignment.{OwnedAssignment}
use Rattle.cal_read.specs.rules.SectionAssignments.{shown_owned_assignment}
use Rattle.cal_timer.specs.rules.Assignments.{Assignment}
use Rattle.cal_timer.specs.rules.TimerText.{is_reset}
use Rattle.cal_timer.specs.declared.keys.KeyKind.{KeyKind}
use Rattle.cal_timer.specs.declared.keys.KeyKind.TheVariants.{SpanTrigger, ChangeTrigger, CalendarTrigger, Exception, TimingBoolean, OtherBoolean, Delay, Accuracy, StartedUnit}
use Rattle.cal_timer.specs.rules.Keys.{kind_of}
use Rattle.cal_load.specs.rules.Notes.{is_noted, is_noted_as, is_taken, kept_in, kept_with, noted_of, replaces, service_of, starts, starts_as, undoes, unit_line}

kept_first : (s : Bool) (a : Assignment) → (if s && true then (a ∷ []) else []) ≡ (if s then (a ∷ []) else [])
kept_first true a = refl
kept_first false a = refl

kept_step : (s u v : Bool) (b : Assignment) (keep : Assignment → Bool) (rest more last : List Assignment) → keep b ≡ not v → more ≡ filter keep rest ++ last
    → (if s && not (u || (v || false)) then (b ∷ more) else more) ≡ filter keep (if s && not u then (b ∷ rest) else rest) ++ last
kept_step false u v b keep rest more last k e = e
kept_step true true v b keep rest more last k e = e
kept_step true false true b keep rest more last k e = rw k e
kept_step true false false b keep rest more last k e = rw k (ap (λ all. b ∷ all) e)

kept_more : (a : Assignment) (before : List Assignment) → kept_in (before ++ a ∷ []) ≡ kept_with (kept_in before) a
unfolding kept_in
kept_more a [] = kept_first (is_taken a) a
kept_more a (b ∷ before) =
    rw (list_any-append (λ later. undoes later b) before (a ∷ []))
    (kept_step (is_taken b) (list_any (λ later. undoes later b) before) (undoes a b) b (λ note. not (undoes a note)) (kept_in before) (kept_in (before ++ a ∷ []))
    (if is_taken a then (a ∷ []) else []) refl (kept_more a before))

-- without assignments, nothing is kept
pub nothing_kept : kept_in [] ≡ []
unfolding kept_in
nothing_kept = refl

-- if `old` has what is kept of the assignments in `before`, then `kept_with` returns what is kept of `before` and one
-- more assignment
pub assignment_kept : (before : List OwnedAssignment) (a : OwnedAssignment) (old new : List Assignment)
    → old ≡ kept_in (map shown_owned_assignment before) → new ≡ kept_with old (shown_owned_assignment a)
    → new ≡ kept_in (map shown_owned_assignment (before ++ a ∷ []))
assignment_kept before a old new is after =
    after
    ∙ ap (λ kept. kept_with kept (shown_owned_assignment a)) is
    ∙ sym (kept_more (shown_owned_assignment a) (map shown_owned_assignment before))
    ∙ ap kept_in (sym (map-append shown_owned_assignment before (a ∷ [])))

filtered_step : (k : Bool) (note : OwnedAssignment) (kept : List OwnedAssignment) (all : List Assignment) → map shown_owned_assignment kept ≡ all
    → map shown_owned_assignment (cond k (note ∷ kept) kept) ≡ cond k (shown_owned_assignment note ∷ all) all
filtered_step true note kept all e = ap (λ rest. shown_owned_assignment note ∷ rest) e
filtered_step false note kept all e = e

filtered_map : (keep : Assignment → Bool) (notes : List OwnedAssignment)
    → map shown_owned_assignment (filter (λ note. keep (shown_owned_assignment note)) notes) ≡ filter keep (map shown_owned_assignment notes)
filtered_map keep [] = refl
filtered_map keep (note ∷ notes) = filtered_step (keep (shown_owned_assignment note)) note _ _ (filtered_map keep notes)

-- if the notes that `later` undoes are removed from a list, the remaining notes show the assignments that `later`
-- doesn't undo
pub undone : (later : Assignment) (old new : List OwnedAssignment) → new ≡ filter (λ note. not (undoes later (shown_owned_assignment note))) old
    → map shown_owned_assignment new ≡ filter (λ note. not (undoes later note)) (map shown_owned_assignment old)
undone later old new e = ap (map shown_owned_assignment) e ∙ filtered_map (λ note. not (undoes later note)) old

undoes_none : (later note : Assignment) → is_reset later ≡ false → replaces later ≡ false → not (undoes later note) ≡ true
unfolding undoes
undoes_none later note e f = rw (e, f) refl

-- an assignment that neither clears the timers nor replaces others undoes nothing
pub nothing_undone : (later : Assignment) (notes : List Assignment) → is_reset later ≡ false → replaces later ≡ false
    → notes ≡ filter (λ note. not (undoes later note)) notes
nothing_undone later [] e f = refl
nothing_undone later (note ∷ notes) e f =
    rw (undoes_none later note e f) (ap (λ rest. note ∷ rest) (nothing_undone later notes e f))

-- ## Notes

-- filtering the kept assignments by `is_noted` leaves the ones that `noted_of` returns
pub only_noted : (own service : List ℕ) (unit : Option ℕ) (old new : List OwnedAssignment) → service ≡ service_of own
    → unit ≡ unit_line own (map shown_owned_assignment old) → new ≡ filter (λ note. is_noted service unit (shown_owned_assignment note)) old
    → map shown_owned_assignment new ≡ noted_of own (map shown_owned_assignment old)
unfolding noted_of
only_noted own service unit old new same line e =
    let kept = map shown_owned_assignment old in
    ap (map shown_owned_assignment) e
    ∙ filtered_map (is_noted service unit) old
    ∙ ap (λ name. filter (is_noted name unit) kept) same
    ∙ ap (λ at. filter (is_noted (service_of own) at) kept) line

-- an assignment that starts the unit is noted
starting_as : (kind : Option KeyKind) (service : List ℕ) (unit : Option ℕ) (a : Assignment) → starts_as kind a.value ≡ true
    → is_noted_as kind service unit a ≡ true
starting_as None service unit a e = absurd (cc)
starting_as (Some SpanTrigger) service unit a e = refl
starting_as (Some ChangeTrigger) service unit a e = e
starting_as (Some CalendarTrigger) service unit a e = absurd (cc)
starting_as (Some Exception) service unit a e = absurd (cc)
starting_as (Some TimingBoolean) service unit a e = absurd (cc)
starting_as (Some Delay) service unit a e = absurd (cc)
starting_as (Some Accuracy) service unit a e = absurd (cc)
starting_as (Some StartedUnit) service unit a e = absurd (cc)
starting_as (Some OtherBoolean) service unit a e = absurd (cc)

starting : (service : List ℕ) (unit : Option ℕ) (a : Assignment) → starts a ≡ true → is_noted service unit a ≡ true
unfolding starts is_noted
starting service unit a e = starting_as (kind_of a.key) service unit a e

any_step : (s k : Bool) (test : Assignment → Bool) (a : Assignment) (rest kept : List Assignment) → test a ≡ s → (s ≡ true → k ≡ true)
    → list_any test kept ≡ list_any test rest → list_any test (cond k (a ∷ kept) kept) ≡ (test a || list_any test rest)
any_step true true test a rest kept e h same = rw e refl
any_step true false test a rest kept e h same = absurd (true≢false (sym (h refl)))
any_step false true test a rest kept e h same = rw e same
any_step false false test a rest kept e h same = rw e same

any_filtered : (test keep : Assignment → Bool) → ((a : Assignment) → test a ≡ true → keep a ≡ true) → (all : List Assignment)
    → list_any test (filter keep all) ≡ list_any test all
any_filtered test keep h [] = refl
any_filtered test keep h (a ∷ rest) = any_step (test a) (keep a) test a rest (filter keep rest) refl (h a) (any_filtered test keep h rest)

-- one of the notes starts the unit if and only if one of the kept assignments does
pub noted_start : (own : List ℕ) (kept : List Assignment) → list_any starts (noted_of own kept) ≡ list_any starts kept
unfolding noted_of
noted_start own kept = any_filtered starts (is_noted (service_of own) (unit_line own kept)) (starting (service_of own) (unit_line own kept)) kept
