-- The errors in the texts of a timer, found by counting the entries of each list without keeping the lists. Only
-- contracts of private functions use these definitions.
use Rattle.std.specs.Prelude.{ℕ, ◌+◌, nat_le, Bool, true, false, if◌then◌else◌, List, [], ◌∷◌, ◌++◌, map, min, Option, None, Some, Result}
use Rattle.std.specs.Option.{option_to_list}
use Rattle.cal_spec.specs.declared.spec_fault.SpecFault.{SpecFault}
use Rattle.cal_timer.specs.rules.Assignments.{Assignment}
use Rattle.cal_timer.specs.rules.TimerText.{is_exception, is_exception_reset, is_expression, is_reset, max_expressions}
use Rattle.cal_timer.specs.rules.TimerEntries.{bad_line}
use Rattle.cal_read.specs.rules.TimerTexts.{assignments_at}
use Rattle.cal_read.specs.declared.faults.Counts.{Counts}
use Rattle.cal_timer.specs.declared.fault.TimerFault.{TimerFault}
use Rattle.cal_timer.specs.declared.fault.TimerFault.TheVariants.{TooMany}
use Rattle.cal_read.specs.declared.texts.FileFault.{FileFault}
use Rattle.cal_read.specs.declared.texts.NumberedText.{NumberedText}
use Rattle.cal_read.specs.rules.TimerFaults.{in_file}

-- the length of a list after an assignment, capped at the limit; the arguments are the length before the assignment,
-- whether the assignment adds to the list, and whether it clears the list
abbrev pub count_with : ℕ → Bool → Bool → ℕ
count_with n true empties = min (n + 1) max_expressions
count_with n false true = 0
count_with n false false = n

-- the lengths of the lists of expressions and exceptions after an assignment
abbrev pub counts_with : Counts → Assignment → Counts
counts_with counts a = record {
  expressions = count_with counts.expressions (is_expression a) (is_reset a);
  exceptions = count_with counts.exceptions (is_exception a) (is_exception_reset a);
}

-- the error of an assignment that adds to a list, if it has one; `n` is the length of the list before the assignment
abbrev pub fault_beside : {E : Type 0} → (List ℕ → Result E SpecFault) → ℕ → Assignment → Option TimerFault
fault_beside read n a = if nat_le max_expressions n then Some (TooMany a.number) else bad_line a.number (read a.value)

-- the error of an assignment, given the lengths of the lists before the assignment
abbrev pub fault_at : {E : Type 0} → (List ℕ → Result E SpecFault) → Counts → Assignment → Option TimerFault
fault_at read counts a =
    if is_expression a then fault_beside read counts.expressions a
    else (if is_exception a then fault_beside read counts.exceptions a else None)

-- all errors of several assignments, given the lengths of the lists before these assignments
unfoldable pub counted_faults : {E : Type 0} → (List ℕ → Result E SpecFault) → Counts → List Assignment → List TimerFault
counted_faults read counts [] = []
counted_faults read counts (a ∷ after) = option_to_list (fault_at read counts a) ++ counted_faults read (counts_with counts a) after

-- the lengths of the lists of expressions and exceptions after these assignments
unfoldable pub counts_over : Counts → List Assignment → Counts
counts_over counts [] = counts
counts_over counts (a ∷ after) = counts_over (counts_with counts a) after

-- all errors of several texts, given the lengths of the lists before these texts; the first text has the index `k`
unfoldable pub counted_files : {E : Type 0} → (List ℕ → Result E SpecFault) → Counts → ℕ → List NumberedText → List FileFault
counted_files read counts k [] = []
counted_files read counts k (file ∷ files) =
    map (in_file k) (counted_faults read counts (assignments_at file)) ++ counted_files read (counts_over counts (assignments_at file)) (k + 1) files
