-- Lemmas on what each assignment and each logical line does to the lists of expressions and exceptions.
use Rattle.std.proofs.Common.{arith, ◌≡◌, ◌≤◌, ◌<◌, ℕ, Bool, true, false, List, [], ◌∷◌, ◌++◌, length, codes, refl, Some, None, Result, Ok, Err}
use Rattle.std.specs.Str.{bytes_eq}
use Rattle.std.specs.Prelude.{nat_le}
use Rattle.std.proofs.lemmas.Bool.Decides.{nat_tests}
use Rattle.cal_spec.specs.declared.spec_fault.SpecFault.{SpecFault}
use Rattle.cal_timer.specs.rules.Assignments.{Assignment, assignment_of, assignments_in, is_header, section_of, timer_lines, trimmed}
use Rattle.cal_bytes.specs.rules.Trim.{trim_matches}
use Rattle.cal_timer.specs.rules.Lines.{Line, is_blank_or_return}
use Rattle.cal_timer.specs.rules.TimerEntries.{TimerLine, Timer, bad_line, entry_of}
use Rattle.cal_timer.specs.rules.TimerText.{is_exception, is_exception_reset, is_expression, is_reset, max_expressions}
use Rattle.cal_timer.specs.computed.ResumedLists.{changed, with_assignment, resumed, with_list, with_read}
use Rattle.cal_timer.specs.declared.fault.TimerFault.{TimerFault}
use Rattle.cal_timer.specs.declared.fault.TimerFault.TheVariants.{TooMany}

-- applying an assignment changes first the list of expressions and then the list of exceptions; if one of these changes
-- fails, the result is the error of this change
pub resumed_changed : {E : Type 0} (read : List ℕ → Result E SpecFault) (lists : Timer E) (a : Assignment) (after : List Assignment) (es : List (TimerLine E)) (r : Result (List (TimerLine E)) TimerFault)
    → changed read (is_expression a) (is_reset a) lists.expressions a ≡ Ok es → changed read (is_exception a) (is_exception_reset a) lists.exceptions a ≡ r
    → resumed read lists (a ∷ after) ≡ with_list r (λ xs. resumed read (record { expressions = es; exceptions = xs }) after)
unfolding resumed
resumed_changed read lists a after es r e f = rw (e, f) refl

pub resumed_fault : {E : Type 0} (read : List ℕ → Result E SpecFault) (lists : Timer E) (a : Assignment) (after : List Assignment) (fault : TimerFault)
    → changed read (is_expression a) (is_reset a) lists.expressions a ≡ Err fault → resumed read lists (a ∷ after) ≡ Err fault
unfolding resumed
resumed_fault read lists a after fault e = rw e refl

-- adding an assignment to a full list fails with `TooMany`
pub joined_many : {E : Type 0} (read : List ℕ → Result E SpecFault) (es : List (TimerLine E)) (a : Assignment) → max_expressions ≤ length es → with_assignment read es a ≡ Err (TooMany a.number)
unfolding with_assignment
joined_many read es a many = let is_many : nat_le max_expressions (length es) ≡ true = grind (arith, nat_tests) in rw is_many refl

-- the next four lemmas: adding an assignment to a list that isn't full fails if the expression of the assignment is
-- invalid, and otherwise adds the entry of the assignment
read_bad : {E : Type 0} (es : List (TimerLine E)) (a : Assignment) (r : Result E SpecFault) (fault : TimerFault) → bad_line a.number r ≡ Some fault → with_read es a r ≡ Err fault
read_bad es a (Ok expr) fault e = cc
read_bad es a (Err f) fault e = cc

read_good : {E : Type 0} (es : List (TimerLine E)) (a : Assignment) (r : Result E SpecFault) (entry : TimerLine E) → entry_of a r ≡ Some entry → with_read es a r ≡ Ok (es ++ entry ∷ [])
read_good es a (Ok expr) entry e = cc
read_good es a (Err f) entry e = cc

pub joined_bad : {E : Type 0} (read : List ℕ → Result E SpecFault) (es : List (TimerLine E)) (a : Assignment) (fault : TimerFault) → length es < max_expressions → bad_line a.number (read a.value) ≡ Some fault → with_assignment read es a ≡ Err fault
unfolding with_assignment
joined_bad read es a fault few bad = let is_few : nat_le max_expressions (length es) ≡ false = grind (arith, nat_tests) in rw is_few (read_bad es a (read a.value) fault bad)

pub joined_read : {E : Type 0} (read : List ℕ → Result E SpecFault) (es : List (TimerLine E)) (a : Assignment) (entry : TimerLine E) → length es < max_expressions → entry_of a (read a.value) ≡ Some entry → with_assignment read es a ≡ Ok (es ++ entry ∷ [])
unfolding with_assignment
joined_read read es a entry few good = let is_few : nat_le max_expressions (length es) ≡ false = grind (arith, nat_tests) in rw is_few (read_good es a (read a.value) entry good)

-- the lines after a header, up to the next header, are in the section `Timer` if and only if the header opens this
-- section
pub header_here : (inside : Bool) (line : Line) (after : List Line) → is_header (trim_matches is_blank_or_return line.text) ≡ true → assignments_in inside (line ∷ after) ≡ assignments_in (bytes_eq (section_of (trim_matches is_blank_or_return line.text)) (codes "Timer")) after
unfolding assignments_in timer_lines
header_here inside line after e = rw e refl

-- a line outside the section `Timer` that isn't a header is not an assignment of the section
pub outside_here : (line : Line) (after : List Line) → is_header (trim_matches is_blank_or_return line.text) ≡ false → assignments_in false (line ∷ after) ≡ assignments_in false after
unfolding assignments_in timer_lines
outside_here line after e = rw e refl

-- in the section `Timer`, a line without `=` is not an assignment, and any other line that isn't a header is an
-- assignment
pub nothing_here : (line : Line) (after : List Line) → is_header (trim_matches is_blank_or_return line.text) ≡ false → assignment_of (trimmed line) ≡ None → assignments_in true (line ∷ after) ≡ assignments_in true after
unfolding assignments_in timer_lines
nothing_here line after e f = rw (e, f) refl

pub assigned_here : (line : Line) (after : List Line) (a : Assignment) → is_header (trim_matches is_blank_or_return line.text) ≡ false → assignment_of (trimmed line) ≡ Some a → assignments_in true (line ∷ after) ≡ a ∷ assignments_in true after
unfolding assignments_in timer_lines
assigned_here line after a e f = rw (e, f) refl

-- after the last line, the entries so far are the result
pub no_lines : {E : Type 0} (read : List ℕ → Result E SpecFault) (lists : Timer E) (inside : Bool) → resumed read lists (assignments_in inside []) ≡ Ok lists
unfolding resumed assignments_in timer_lines
no_lines read lists inside = refl
