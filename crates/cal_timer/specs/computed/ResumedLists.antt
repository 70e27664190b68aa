-- What one assignment does to the lists of a timer while it is read, and the lists after several assignments:
-- systemd.timer(5), OnCalendar=.
use Rattle.std.specs.Prelude.{ℕ, nat_le, Bool, true, false, if◌then◌else◌, List, [], ◌∷◌, ◌++◌, length, Result, Ok, Err}
use Rattle.cal_spec.specs.declared.spec_fault.SpecFault.{SpecFault}
use Rattle.cal_timer.specs.rules.Assignments.{Assignment}
use Rattle.cal_timer.specs.rules.TimerEntries.{TimerLine, Timer}
use Rattle.cal_timer.specs.rules.TimerText.{is_exception, is_exception_reset, is_expression, is_reset, max_expressions}
use Rattle.cal_timer.specs.declared.fault.TimerFault.{TimerFault}
use Rattle.cal_timer.specs.declared.fault.TimerFault.TheVariants.{BadLine, TooMany}

-- the lists of a timer before anything is read
abbrev pub empty_lists : {E : Type 0} → Timer E
empty_lists = record { expressions = []; exceptions = [] }

-- the list `es` with the entry of `a` added, or the error of `a`; the last argument is the result of parsing the
-- expression of `a`
abbrev pub with_read : {E : Type 0} → List (TimerLine E) → Assignment → Result E SpecFault → Result (List (TimerLine E)) TimerFault
with_read es a (Ok expr) = Ok (es ++ record { number = a.number; text = a.value; expr = expr } ∷ [])
with_read es a (Err fault) = Err (BadLine a.number fault)

-- the list `es` with an entry for the assignment `a` added, or the error of `a`
unfoldable pub with_assignment : {E : Type 0} → (List ℕ → Result E SpecFault) → List (TimerLine E) → Assignment → Result (List (TimerLine E)) TimerFault
with_assignment read es a = if nat_le max_expressions (length es) then Err (TooMany a.number) else with_read es a (read a.value)

-- The list `es` after the assignment `a`. If `adds` is true, the entry of `a` is added to it, or the result is the
-- error of `a`. Otherwise the list is cleared if `empties` is true, and unchanged if it is false.
abbrev pub changed : {E : Type 0} → (List ℕ → Result E SpecFault) → (adds empties : Bool) → List (TimerLine E) → Assignment → Result (List (TimerLine E)) TimerFault
changed read true empties es a = with_assignment read es a
changed read false true es a = Ok []
changed read false false es a = Ok es

-- two steps in sequence: if the first returns a list, the result of `next` for this list; otherwise the error of the
-- first
abbrev pub with_list : {E A : Type 0} → Result (List (TimerLine E)) TimerFault → (List (TimerLine E) → Result A TimerFault) → Result A TimerFault
with_list (Ok es) next = next es
with_list (Err fault) next = Err fault

-- The lists after the remaining assignments, or the first error, given the lists so far. The law `assignments_add_up`,
-- a statement that is proved for all assignments, relates `resumed` to `entries_or_fault`.
unfoldable pub resumed : {E : Type 0} → (List ℕ → Result E SpecFault) → Timer E → List Assignment → Result (Timer E) TimerFault
resumed read lists [] = Ok lists
resumed read lists (a ∷ after) =
    with_list (changed read (is_expression a) (is_reset a) lists.expressions a)
    (λ es. with_list (changed read (is_exception a) (is_exception_reset a) lists.exceptions a)
    (λ xs. resumed read (record { expressions = es; exceptions = xs }) after))
