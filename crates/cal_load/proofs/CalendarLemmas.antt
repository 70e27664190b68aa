-- Lemmas on reading the expressions and exceptions of a timer, one assignment at a time.
use Rattle.std.proofs.Common.{◌≡◌, ◌∙◌, ◌+◌, ◌<◌, ◌||◌, ℕ, Bool, true, false, List, [], ◌∷◌, ◌++◌, Option, None, Some, ap, append-nil, append_assoc, filter, get_or, length, map, refl, subst, sym, take}
use Rattle.std.proofs.lemmas.List.{map-append, take_more}
use Rattle.std.proofs.lemmas.List.Elements.{filter-append, filter_map-append}
use Rattle.std.specs.List.{cons_option, filter_map}
use Rattle.std.specs.Option.{option_to_list}
use Rattle.cal_read.specs.declared.section_assignments.OwnedAssignment.{OwnedAssignment}
use Rattle.cal_read.specs.rules.SectionAssignments.{shown_owned_assignment}
use Rattle.cal_spec.specs.computed.Expr.{expr_in}
use Rattle.cal_timer.proofs.ListedLemmas.{Kept, exception_is_no_exception_reset, expression_is_no_exception, expression_is_no_reset, kept_more, kept_other, kept_reset}
use Rattle.cal_timer.specs.rules.Assignments.{Assignment}
use Rattle.cal_timer.specs.rules.TimerEntries.{entries_of, entry_of}
use Rattle.cal_timer.specs.rules.TimerText.{excepted, is_exception, is_exception_reset, is_expression, is_reset, listed}
use Rattle.cal_timer.specs.rules.TimerView.{shown}
use Rattle.cal_load.specs.declared.calendar.CalendarLines.{CalendarLines}
use Rattle.cal_load.specs.declared.calendar.IgnoredLine.{IgnoredLine}
use Rattle.cal_load.specs.rules.Loaded.{AreReadFrom, entries_after, ignored_in, ignored_line, ignored_more}

-- after one more assignment, the entries of a list are those that `entries_after` returns
list_by : (adds resets : Assignment → Bool) (before : List Assignment) (a : Assignment) (c d : Bool) → adds a ≡ c → resets a ≡ d → (c ≡ true → d ≡ false)
    → entries_of expr_in (Kept adds resets (before ++ a ∷ [])) ≡ entries_after c d (entries_of expr_in (Kept adds resets before)) a
list_by adds resets before a true true e f apart = let no = apart refl in absurd (cc)
list_by adds resets before a true false e f apart =
    ap (entries_of expr_in) (kept_more adds resets before a f e)
    ∙ filter_map-append (λ a. entry_of a (expr_in a.value)) (Kept adds resets before) (a ∷ [])
list_by adds resets before a false true e f apart = ap (entries_of expr_in) (kept_reset adds resets before a f)
list_by adds resets before a false false e f apart = ap (entries_of expr_in) (kept_other adds resets before a f e)

listed_more : (before : List Assignment) (a : Assignment)
    → entries_of expr_in (listed (before ++ a ∷ [])) ≡ entries_after (is_expression a) (is_reset a) (entries_of expr_in (listed before)) a
unfolding listed
listed_more before a = list_by is_expression is_reset before a _ _ refl refl (expression_is_no_reset a)

excepted_more : (before : List Assignment) (a : Assignment)
    → entries_of expr_in (excepted (before ++ a ∷ [])) ≡ entries_after (is_exception a) (is_exception_reset a) (entries_of expr_in (excepted before)) a
unfolding excepted
excepted_more before a = list_by is_exception is_exception_reset before a _ _ refl refl (exception_is_no_exception_reset a)

one_line : (line : Option IgnoredLine) → cons_option line [] ≡ option_to_list line
one_line None = refl
one_line (Some line) = refl

ignored_by : (a : Assignment) (c d : Bool) → is_expression a ≡ c → is_exception a ≡ d → (c ≡ true → d ≡ false)
    → filter_map (λ a. ignored_line a (expr_in a.value)) (filter (λ a. is_expression a || is_exception a) (a ∷ [])) ≡ ignored_more c a ++ ignored_more d a
ignored_by a true true e f apart = let no = apart refl in absurd (cc)
ignored_by a true false e f apart = rw e (one_line (ignored_line a (expr_in a.value)) ∙ sym (append-nil _))
ignored_by a false true e f apart = rw (e, f) (one_line (ignored_line a (expr_in a.value)))
ignored_by a false false e f apart = rw (e, f) refl

-- the lines that are ignored after one more assignment are the earlier ones and, if the assignment is an invalid
-- expression or exception, its line
ignored_with : (before : List Assignment) (a : Assignment)
    → ignored_in expr_in (before ++ a ∷ []) ≡ (ignored_in expr_in before ++ ignored_more (is_expression a) a) ++ ignored_more (is_exception a) a
unfolding ignored_in
ignored_with before a =
    ap (filter_map (λ a. ignored_line a (expr_in a.value))) (filter-append (λ a. is_expression a || is_exception a) before (a ∷ []))
    ∙ filter_map-append (λ a. ignored_line a (expr_in a.value)) (filter (λ a. is_expression a || is_exception a) before) _
    ∙ ap (λ last. ignored_in expr_in before ++ last) (ignored_by a _ _ refl refl (expression_is_no_exception a))
    ∙ sym (append_assoc (ignored_in expr_in before) (ignored_more (is_expression a) a) (ignored_more (is_exception a) a))

-- `AreReadFrom` still holds after one more assignment; `adds` and `clears` say what the assignment does to the
-- expressions, `excepts` and `resets` what it does to the exceptions
pub read_more : (before : List Assignment) (a : Assignment) (old new : CalendarLines) (middle : List IgnoredLine) (adds clears excepts resets : Bool)
    → adds ≡ is_expression a → clears ≡ is_reset a → excepts ≡ is_exception a → resets ≡ is_exception_reset a
    → map shown new.calendar.lines.items ≡ entries_after adds clears (map shown old.calendar.lines.items) a
    → middle ≡ old.ignored.items ++ ignored_more adds a
    → map shown new.calendar.exceptions.items ≡ entries_after excepts resets (map shown old.calendar.exceptions.items) a
    → new.ignored.items ≡ middle ++ ignored_more excepts a
    → AreReadFrom before old → AreReadFrom (before ++ a ∷ []) new
read_more before a old new middle adds clears excepts resets is_adds is_clears is_excepts is_resets lines first exceptions second h = (
  (
    lines
        ∙ ap (λ b. entries_after b clears (map shown old.calendar.lines.items) a) is_adds
        ∙ ap (λ b. entries_after (is_expression a) b (map shown old.calendar.lines.items) a) is_clears
        ∙ ap (λ all. entries_after (is_expression a) (is_reset a) all a) h.0.0
        ∙ sym (listed_more before a),
    exceptions
        ∙ ap (λ b. entries_after b resets (map shown old.calendar.exceptions.items) a) is_excepts
        ∙ ap (λ b. entries_after (is_exception a) b (map shown old.calendar.exceptions.items) a) is_resets
        ∙ ap (λ all. entries_after (is_exception a) (is_exception_reset a) all a) h.0.1
        ∙ sym (excepted_more before a),
  ),
  second
      ∙ ap (λ all. all ++ ignored_more excepts a) (first ∙ ap (λ all. all ++ ignored_more adds a) h.1 ∙ ap (λ b. ignored_in expr_in before ++ ignored_more b a) is_adds)
      ∙ ap (λ b. (ignored_in expr_in before ++ ignored_more (is_expression a) a) ++ ignored_more b a) is_excepts
      ∙ sym (ignored_with before a),
)

-- if nothing has been read, `AreReadFrom` holds for an empty list of assignments
pub read_nothing : (read : CalendarLines) → map shown read.calendar.lines.items ≡ [] → map shown read.calendar.exceptions.items ≡ []
    → read.ignored.items ≡ [] → AreReadFrom [] read
unfolding listed excepted ignored_in
read_nothing read lines exceptions ignored = ((lines, exceptions), ignored)

-- if `old` was read from the first `i` assignments, and reading the next assignment made it `new`, then `new` was read
-- from the first `i + 1` assignments
pub assignment_read : (assignments : List OwnedAssignment) (i : ℕ) (a : OwnedAssignment) (old new : CalendarLines) → i < length assignments
    → a ≡ get_or assignments i a → AreReadFrom (map shown_owned_assignment (take i assignments)) old
    → ((before : List Assignment) → AreReadFrom before old → AreReadFrom (before ++ shown_owned_assignment a ∷ []) new)
    → AreReadFrom (map shown_owned_assignment (take (i + 1) assignments)) new
assignment_read assignments i a old new h is before step =
    let all : map shown_owned_assignment (take (i + 1) assignments) ≡ map shown_owned_assignment (take i assignments) ++ shown_owned_assignment a ∷ [] =
    ap (map shown_owned_assignment) (take_more assignments i a h ∙ ap (λ last. take i assignments ++ last ∷ []) (sym is))
    ∙ map-append shown_owned_assignment (take i assignments) (a ∷ []) in
    subst (λ all. AreReadFrom all new) (sym all) (step (map shown_owned_assignment (take i assignments)) before)
