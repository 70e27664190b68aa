-- All errors in the texts of a timer, in the order of their lines: each expression (systemd.timer(5), OnCalendar=) or
-- exception that is invalid or over the limit. Exceptions, and the limit of 256 entries in each list, are this
-- project's own. Invalid expressions and exceptions count towards the limit.
use Rattle.std.specs.Prelude.{ℕ, ◌+◌, List, [], ◌∷◌, ◌++◌, map, Some, Result}
use Rattle.std.specs.Option.{option_to_list}
use Rattle.cal_spec.specs.declared.spec_fault.SpecFault.{SpecFault}
use Rattle.cal_timer.specs.rules.Assignments.{Assignment}
use Rattle.cal_timer.specs.rules.TimerEntries.{fault_following}
use Rattle.cal_read.specs.rules.TimerTexts.{assignments_at}
use Rattle.cal_timer.specs.declared.fault.TimerFault.{TimerFault}
use Rattle.cal_read.specs.declared.texts.FileFault.{FileFault}
use Rattle.cal_read.specs.declared.texts.NumberedText.{NumberedText}

-- all errors of the assignments that come after those in `before`
unfoldable pub all_faults : {E : Type 0} → (List ℕ → Result E SpecFault) → List Assignment → List Assignment → List TimerFault
all_faults read before [] = []
all_faults read before (a ∷ after) = option_to_list (fault_following read before a) ++ all_faults read (before ++ a ∷ []) after

-- an error in the text with this index
abbrev pub in_file : ℕ → TimerFault → FileFault
in_file k fault = record { file = Some k; fault = fault }

-- all errors of several texts, if the assignments in `before` come before these texts; the first text has the index `k`
unfoldable pub faults_of : {E : Type 0} → (List ℕ → Result E SpecFault) → List Assignment → ℕ → List NumberedText → List FileFault
faults_of read before k [] = []
faults_of read before k (file ∷ files) =
    map (in_file k) (all_faults read before (assignments_at file)) ++ faults_of read (before ++ assignments_at file) (k + 1) files
