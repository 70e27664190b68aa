-- Lemmas for the statements in `cal_timer::laws`: on the lines of the section `Timer`, on the lists of expressions and
-- exceptions, and on `JudgesTimer`, which holds for the result of `lists_of` and for no other.
use Rattle.std.proofs.Common.{◌≡◌, ◌<◌, ℕ, Bool, true, false, List, [], ◌∷◌, ◌++◌, codes, filter, length, refl, sym, subst, ap, ◌∙◌, arith, append_assoc, append-nil, Option, Some, None, Result, Ok, Err}
use Rattle.std.specs.List.{after_last, list_any}
use Rattle.std.specs.Option.{option_or}
use Rattle.std.specs.Prelude.{if◌then◌else◌}
use Rattle.std.specs.Str.{bytes_eq}
use Rattle.std.proofs.lemmas.Bool.{or_parts}
use Rattle.cal_spec.specs.declared.spec_fault.SpecFault.{SpecFault}
use Rattle.cal_timer.specs.rules.Assignments.{Assignment, is_header, section_of, timer_lines}
use Rattle.cal_timer.specs.rules.Lines.{Line}
use Rattle.cal_timer.specs.rules.TimerRule.{AreFine, IsFirstTimerFault, JudgesTimer}
use Rattle.cal_timer.specs.rules.TimerEntries.{TimerLine, Timer, entries, fault_following, first_fault, lists_of, some_entries, some_expressions, unless_fault}
use Rattle.cal_timer.specs.rules.TimerText.{excepted, is_exception, is_exception_reset, is_expression, is_reset, listed}
use Rattle.cal_timer.specs.declared.fault.TimerFault.{TimerFault}
use Rattle.cal_timer.specs.declared.fault.TimerFault.TheVariants.{NothingToDo}
use Rattle.cal_timer.proofs.TimerLemmas.{first_is_of_line, is_of_line}
use Rattle.cal_bytes.proofs.General.{after_last_here, after_last_more, option_or_none}

-- if none of the lines is a header, all of them are in the section `Timer` if `inside` is true, and none of them is if
-- `inside` is false
pub no_header : (inside : Bool) (lines : List Line) → list_any (λ line. is_header line.text) lines ≡ false → timer_lines inside lines ≡ (if inside then lines else [])
unfolding timer_lines
no_header true [] h = refl
no_header false [] h = refl
no_header true (line ∷ lines) h =
    let parts = or_parts (is_header line.text) (list_any (λ line. is_header line.text) lines) h in
    rw parts.0 (ap (λ ls. line ∷ ls) (no_header true lines parts.1))
no_header false (line ∷ lines) h =
    let parts = or_parts (is_header line.text) (list_any (λ line. is_header line.text) lines) h in
    rw parts.0 (no_header false lines parts.1)

-- the lines `rest` after a header if this header opens the section `Timer`, and otherwise no lines
abbrev opened : Line → List Line → List Line
opened header rest = if bytes_eq (section_of header.text) (codes "Timer") then rest else []

header_passed : (headed inside : Bool) (line : Line) (front rest : List Line) (header : Line) → is_header line.text ≡ headed → ((inside : Bool) → timer_lines inside (front ++ (header ∷ rest)) ≡ timer_lines inside front ++ opened header rest) → timer_lines inside ((line ∷ front) ++ (header ∷ rest)) ≡ timer_lines inside (line ∷ front) ++ opened header rest
unfolding timer_lines
header_passed true inside line front rest header e next = rw e (next (bytes_eq (section_of line.text) (codes "Timer")))
header_passed false true line front rest header e next = rw e (ap (λ ls. line ∷ ls) (next true))
header_passed false false line front rest header e next = rw e (next false)

pub last_header : (inside : Bool) (front rest : List Line) (header : Line) → is_header header.text ≡ true → list_any (λ line. is_header line.text) rest ≡ false → timer_lines inside (front ++ (header ∷ rest)) ≡ timer_lines inside front ++ opened header rest
unfolding timer_lines
last_header inside [] rest header e none = rw e (no_header (bytes_eq (section_of header.text) (codes "Timer")) rest none)
last_header inside (line ∷ front) rest header e none = header_passed (is_header line.text) inside line front rest header refl (λ inside. last_header inside front rest header e none)

-- if no element of `ys` passes the test `p`, then `after_last p` of `xs ++ ys` is `after_last p` of `xs`, followed by
-- `ys`
after_last_after : {X : Type 0} (p : X → Bool) (xs ys : List X) → list_any p ys ≡ false → after_last p (xs ++ ys) ≡ after_last p xs ++ ys
after_last_after p xs [] none = ap (after_last p) (append-nil xs) ∙ sym (append-nil (after_last p xs))
after_last_after p xs (y ∷ ys) none =
    let parts = or_parts (p y) (list_any p ys) none in
    ap (after_last p) (sym (append_assoc xs (y ∷ []) ys))
    ∙ after_last_after p (xs ++ y ∷ []) ys parts.1
    ∙ ap (λ front. front ++ ys) (after_last_more p xs y parts.0)
    ∙ append_assoc (after_last p xs) (y ∷ []) ys

-- Assignments that pass the test `adds` are added to a list, and assignments that pass `resets` clear it. The list has
-- what has been added since it was last cleared, or all that has been added if it was never cleared.
kept_after_reset : (adds resets : Assignment → Bool) (front rest : List Assignment) (reset : Assignment) → resets reset ≡ true → list_any resets rest ≡ false → filter adds (after_last resets (front ++ (reset ∷ rest))) ≡ filter adds rest
kept_after_reset adds resets front rest reset e none =
    ap (λ all. filter adds (after_last resets all)) (sym (append_assoc front (reset ∷ []) rest))
    ∙ ap (filter adds) (after_last_after resets (front ++ reset ∷ []) rest none ∙ ap (λ before. before ++ rest) (after_last_here resets front reset e))

kept_without_reset : (adds resets : Assignment → Bool) (all : List Assignment) → list_any resets all ≡ false → filter adds (after_last resets all) ≡ filter adds all
kept_without_reset adds resets all none = ap (filter adds) (after_last_after resets [] all none)

pub listed_after_reset : (front rest : List Assignment) (reset : Assignment) → is_reset reset ≡ true → list_any is_reset rest ≡ false → listed (front ++ (reset ∷ rest)) ≡ filter is_expression rest
unfolding listed
listed_after_reset = kept_after_reset is_expression is_reset

pub listed_without_reset : (all : List Assignment) → list_any is_reset all ≡ false → listed all ≡ filter is_expression all
unfolding listed
listed_without_reset = kept_without_reset is_expression is_reset

pub excepted_after_reset : (front rest : List Assignment) (reset : Assignment) → is_exception_reset reset ≡ true → list_any is_exception_reset rest ≡ false → excepted (front ++ (reset ∷ rest)) ≡ filter is_exception rest
unfolding excepted
excepted_after_reset = kept_after_reset is_exception is_exception_reset

pub excepted_without_reset : (all : List Assignment) → list_any is_exception_reset all ≡ false → excepted all ≡ filter is_exception all
unfolding excepted
excepted_without_reset = kept_without_reset is_exception is_exception_reset

-- none of the assignments in `all`, which come after those in `first`, has an error
abbrev AreFineBehind : {E : Type 0} → (List ℕ → Result E SpecFault) → List Assignment → List Assignment → Type 0
AreFineBehind read first all = (before : List Assignment) (a : Assignment) (after : List Assignment) → all ≡ before ++ (a ∷ after) → fault_following read (first ++ before) a ≡ None

pub no_split : (before : List Assignment) (a : Assignment) (after : List Assignment) → [] ≡ before ++ (a ∷ after) → ⊥
no_split [] a after e = cc
no_split (b ∷ before) a after e = cc

fine_more : {E : Type 0} (read : List ℕ → Result E SpecFault) (first : List Assignment) (x : Assignment) (xs : List Assignment) → fault_following read first x ≡ None → AreFineBehind read (first ++ x ∷ []) xs → AreFineBehind read first (x ∷ xs)
fine_more read first x xs here fine [] a after split =
    let same : x ≡ a = cc in
    rw (append-nil first, ← same) here
fine_more read first x xs here fine (b ∷ before) a after split =
    let same : x ≡ b = cc in
    let rest : xs ≡ before ++ (a ∷ after) = cc in
    rw (← same) (subst (λ (front : List Assignment). fault_following read front a ≡ None) (append_assoc first (x ∷ []) before) (fine before a after rest))

fine_from_none : {E : Type 0} (read : List ℕ → Result E SpecFault) (first all : List Assignment) → first_fault read first all ≡ None → AreFineBehind read first all
unfolding first_fault
fine_from_none read first [] h = λ before a after split. absurd (no_split before a after split)
fine_from_none read first (x ∷ xs) h =
    let parts = option_or_none (fault_following read first x) (first_fault read (first ++ x ∷ []) xs) h in
    fine_more read first x xs parts.0 (fine_from_none read (first ++ x ∷ []) xs parts.1)

none_from_fine : {E : Type 0} (read : List ℕ → Result E SpecFault) (first all : List Assignment) → AreFineBehind read first all → first_fault read first all ≡ None
unfolding first_fault
none_from_fine read first [] fine = refl
none_from_fine read first (x ∷ xs) fine =
    let here : fault_following read first x ≡ None = subst (λ (front : List Assignment). fault_following read front x ≡ None) (append-nil first) (fine [] x xs refl) in
    let rest : first_fault read (first ++ x ∷ []) xs ≡ None = none_from_fine read (first ++ x ∷ []) xs (λ before a after e. subst (λ (front : List Assignment). fault_following read front a ≡ None) (sym (append_assoc first (x ∷ []) before)) (fine (x ∷ before) a after (ap (λ ys. x ∷ ys) e))) in
    rw here rest

-- The assignments in `all` come after those in `first`. `at` is the first assignment in `all` that has an error, and
-- its error is `fault`.
record FirstFault {E : Type 0} (read : List ℕ → Result E SpecFault) (first all : List Assignment) (fault : TimerFault) : Type 0 where
  before : List Assignment
  at : Assignment
  after : List Assignment
  whole : all ≡ before ++ (at ∷ after)
  is_fault : fault_following read (first ++ before) at ≡ Some fault
  fine : AreFineBehind read first before

fault_at : {E : Type 0} (read : List ℕ → Result E SpecFault) (first : List Assignment) (x : Assignment) (xs : List Assignment) (fault : TimerFault) (o : Option TimerFault) → fault_following read first x ≡ o → option_or o (first_fault read (first ++ x ∷ []) xs) ≡ Some fault → (first_fault read (first ++ x ∷ []) xs ≡ Some fault → FirstFault read (first ++ x ∷ []) xs fault) → FirstFault read first (x ∷ xs) fault
fault_at read first x xs fault (Some found) e h next = record {
  before = [];
  at = x;
  after = xs;
  whole = refl;
  is_fault = rw (append-nil first, e) h;
  fine = λ before a after split. absurd (no_split before a after split);
}
fault_at read first x xs fault None e h next =
    let found = next h in
    record {
      before = x ∷ found.before;
      at = found.at;
      after = found.after;
      whole = ap (λ ys. x ∷ ys) found.whole;
      is_fault = subst (λ (front : List Assignment). fault_following read front found.at ≡ Some fault) (append_assoc first (x ∷ []) found.before) found.is_fault;
      fine = λ before a after split. fine_more read first x found.before e found.fine before a after split;
    }

fault_from_some : {E : Type 0} (read : List ℕ → Result E SpecFault) (first all : List Assignment) (fault : TimerFault) → first_fault read first all ≡ Some fault → FirstFault read first all fault
unfolding first_fault
fault_from_some read first [] fault h = cc
fault_from_some read first (x ∷ xs) fault h = fault_at read first x xs fault (fault_following read first x) refl h (fault_from_some read (first ++ x ∷ []) xs fault)

-- The assignments in `before` come after those in `first`, and `a` comes after those in `before`. If `a` has an error,
-- and none of the assignments in `before` has one, then the error of `a` is the first error after the assignments in
-- `first`.
some_from_fault : {E : Type 0} (read : List ℕ → Result E SpecFault) (first before : List Assignment) (a : Assignment) (after : List Assignment) (fault : TimerFault) → AreFineBehind read first before → fault_following read (first ++ before) a ≡ Some fault → first_fault read first (before ++ (a ∷ after)) ≡ Some fault
unfolding first_fault
some_from_fault read first [] a after fault fine e =
    let here : fault_following read first a ≡ Some fault = subst (λ (front : List Assignment). fault_following read front a ≡ Some fault) (append-nil first) e in
    rw here refl
some_from_fault read first (x ∷ before) a after fault fine e =
    let here : fault_following read first x ≡ None = subst (λ (front : List Assignment). fault_following read front x ≡ None) (append-nil first) (fine [] x before refl) in
    let fine_after : AreFineBehind read (first ++ x ∷ []) before = λ bs b cs split. subst (λ (front : List Assignment). fault_following read front b ≡ None) (sym (append_assoc first (x ∷ []) bs)) (fine (x ∷ bs) b cs (ap (λ ys. x ∷ ys) split)) in
    let there : fault_following read ((first ++ x ∷ []) ++ before) a ≡ Some fault = subst (λ (front : List Assignment). fault_following read front a ≡ Some fault) (sym (append_assoc first (x ∷ []) before)) e in
    rw here (some_from_fault read (first ++ x ∷ []) before a after fault fine_after there)

-- The remaining lemmas say that `JudgesTimer` holds for exactly one result. The first of them: if some assignment has
-- an error, `JudgesTimer` holds for the first error.
judged_fault : {E : Type 0} (read : List ℕ → Result E SpecFault) (all : List Assignment) (fault : TimerFault) → is_of_line fault ≡ true → IsFirstTimerFault read all fault → JudgesTimer read all (Err fault)
judged_fault read all NothingToDo e h = cc
judged_fault read all fault e h = h

judged_lists : {E : Type 0} (read : List ℕ → Result E SpecFault) (all : List Assignment) (es xs : List (TimerLine E)) → AreFine read all → entries read all ≡ record { expressions = es; exceptions = xs } → JudgesTimer read all (some_expressions es xs)
judged_lists {E} read all [] xs fine e = (fine, ap (λ (lists : Timer E). lists.expressions) e)
judged_lists read all (entry ∷ es) xs fine e = (fine, e, omega arith)

judged_as : {E : Type 0} (read : List ℕ → Result E SpecFault) (all : List Assignment) (o : Option TimerFault) → first_fault read [] all ≡ o → JudgesTimer read all (unless_fault o (some_entries (entries read all)))
judged_as read all None e = judged_lists read all (entries read all).expressions (entries read all).exceptions (fine_from_none read [] all e) refl
judged_as read all (Some fault) e =
    let found = fault_from_some read [] all fault e in
    judged_fault read all fault (first_is_of_line read [] all fault e) (record {
      before = found.before;
      at = found.at;
      after = found.after;
      whole = found.whole;
      is_fault = found.is_fault;
      fine = found.fine;
    })

pub judged : {E : Type 0} (read : List ℕ → Result E SpecFault) (all : List Assignment) → JudgesTimer read all (lists_of read all)
unfolding lists_of
judged read all = judged_as read all (first_fault read [] all) refl

faulted : {E : Type 0} (read : List ℕ → Result E SpecFault) (all : List Assignment) (fault : TimerFault) → IsFirstTimerFault read all fault → Err fault ≡ lists_of read all
unfolding lists_of
faulted read all fault h =
    let first : first_fault read [] all ≡ Some fault = rw h.whole (some_from_fault read [] h.before h.at h.after fault h.fine h.is_fault) in
    rw first refl

some_if_any : {E : Type 0} (es xs : List (TimerLine E)) → 0 < length es → some_expressions es xs ≡ Ok (record { expressions = es; exceptions = xs })
some_if_any [] xs h = absurd (omega arith)
some_if_any (e ∷ es) xs h = refl

pub only_judged : {E : Type 0} (read : List ℕ → Result E SpecFault) (all : List Assignment) (result : Result (Timer E) TimerFault) → JudgesTimer read all result → result ≡ lists_of read all
unfolding lists_of
only_judged read all (Ok lists) h = rw (none_from_fine read [] all h.0, h.1) (sym (some_if_any lists.expressions lists.exceptions h.2))
only_judged read all (Err NothingToDo) h = rw (none_from_fine read [] all h.0, h.1) refl
only_judged read all (Err fault) h = faulted read all fault h
