-- The result for a timer file, stated as a rule and not as a computation: systemd.timer(5), OnCalendar=;
-- systemd.syntax(7).
use Rattle.std.specs.Prelude.{◌≡◌, ◌<◌, ℕ, List, [], ◌∷◌, ◌++◌, length, None, Some, Result, Ok, Err}
use Rattle.cal_spec.specs.declared.spec_fault.SpecFault.{SpecFault}
use Rattle.cal_timer.specs.rules.Assignments.{Assignment}
use Rattle.cal_timer.specs.rules.TimerEntries.{Timer, entries, fault_following}
use Rattle.cal_timer.specs.declared.fault.TimerFault.{TimerFault}
use Rattle.cal_timer.specs.declared.fault.TimerFault.TheVariants.{NothingToDo}

-- none of the assignments in `all` has an error
abbrev pub AreFine : {E : Type 0} → (List ℕ → Result E SpecFault) → List Assignment → Type 0
AreFine read all = (before : List Assignment) (a : Assignment) (after : List Assignment) → all ≡ before ++ (a ∷ after) → fault_following read before a ≡ None

-- `at` is the first of the assignments in `all` that has an error, and its error is `fault`
pub record IsFirstTimerFault {E : Type 0} (read : List ℕ → Result E SpecFault) (all : List Assignment) (fault : TimerFault) : Type 0 where
  pub before : List Assignment
  pub at : Assignment
  pub after : List Assignment
  pub whole : all ≡ before ++ (at ∷ after)
  pub is_fault : fault_following read before at ≡ Some fault
  pub fine : AreFine read before

-- if no assignment has an error, the result is the lists of expressions and exceptions, or `NothingToDo` if the list of
-- expressions is empty; otherwise the result is the first error
abbrev pub JudgesTimer : {E : Type 0} → (List ℕ → Result E SpecFault) → List Assignment → Result (Timer E) TimerFault → Type 0
JudgesTimer read all (Ok lists) = AreFine read all × (entries read all ≡ lists) × (0 < length lists.expressions)
JudgesTimer read all (Err NothingToDo) = AreFine read all × ((entries read all).expressions ≡ [])
JudgesTimer read all (Err fault) = IsFirstTimerFault read all fault
