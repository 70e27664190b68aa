-- How a service guards the exceptions of the timer that starts it: systemd.service(5), ExecCondition= and
-- SuccessExitStatus=.
use Rattle.std.specs.Prelude.{◌≡◌, ℕ, ◌==◌, nat_lt, Bool, false, true, ◌||◌, if◌then◌else◌, List, [], ◌∷◌, ◌++◌, codes, filter, length, map}
use Rattle.std.specs.List.{Contains, after_last, list_any}
use Rattle.std.specs.Str.{bytes_eq}
use Rattle.cal_bytes.specs.rules.Separators.{words}
use Rattle.cal_timer.specs.rules.Assignments.{Assignment}
use Rattle.cal_timer.specs.rules.TimerText.{has_no_value}
use Rattle.cal_unit_index.specs.rules.Destinations.{is_among}
use Rattle.cal_load.specs.declared.guard.Guard.{Guard}
use Rattle.cal_load.specs.declared.guard.Guard.TheVariants.{Asks, Missing, Unknown, FailureAccepted}
use Rattle.cal_load.specs.rules.Condition.{arguments_in, ignores_failure, is_guard, is_ours, is_rewritten, may_be_guard, runs_due}

-- ## Settings

-- the values of this key that count: those after the last assignment without a value, which clears the list
unfoldable pub counted_values : List ℕ → List Assignment → List (List ℕ)
counted_values key assignments = map (λ a. a.value) (after_last has_no_value (filter (λ a. bytes_eq a.key key) assignments))

abbrev pub conditions : List Assignment → List (List ℕ)
conditions assignments = counted_values (codes "ExecCondition") assignments

-- whether the exit status 1 is among the statuses of a `SuccessExitStatus=` with this value, by its number or its name
-- (systemd.exec(5), Process Exit Codes)
abbrev pub has_failure : List ℕ → Bool
has_failure value = is_among (words value) (codes "1") || is_among (words value) (codes "FAILURE")

-- whether the exit status 1 counts as success of the service's commands
abbrev pub accepts_failure : List Assignment → Bool
accepts_failure assignments = list_any has_failure (counted_values (codes "SuccessExitStatus") assignments)

-- ## Guards

abbrev pub guard_if : Bool → Bool → Bool → Guard
guard_if is may accepts = if is then (if accepts then FailureAccepted else Asks) else (if may then Unknown else Missing)

-- the guard of a service with these assignments, which the timer with this stem starts
abbrev pub guard_in : Bool → List ℕ → List Assignment → Guard
guard_in is_user stem assignments =
    guard_if (list_any (is_guard is_user stem) (conditions assignments)) (list_any may_be_guard (conditions assignments))
    (accepts_failure assignments)

-- ## What systemd does

-- what systemd does after a condition: it goes on with the start of the service, skips the service, or lets it fail
pub data Reaction : Type 0 where
  GoesOn : Reaction
  Skips : Reaction
  Fails : Reaction

-- What systemd does after a condition that exits with this status. `ignores` says whether the condition has the prefix
-- `-`, and `accepts` whether the status is one of `SuccessExitStatus=`.
abbrev pub reaction : Bool → Bool → ℕ → Reaction
reaction ignores accepts status =
    if ignores || (accepts || status == 0) then GoesOn else if nat_lt status 255 then Skips else Fails

-- `command`, whose words are `first` and `rest`, is one of the conditions that count. systemd reads these very words, so
-- the command runs `calendar-timers due` about the timer with this stem. systemd skips the service if the command exits
-- with the status 1, as `due` does at an exception.
pub record IsSkippingGuard (is_user : Bool) (stem : List ℕ) (assignments : List Assignment) (command first : List ℕ) (rest : List (List ℕ)) : Type 0 where
  pub counts : Contains (conditions assignments) command
  pub divided : words command ≡ first ∷ rest
  pub ours : is_ours first ≡ true
  pub verbatim : is_rewritten first rest ≡ false
  pub due : runs_due is_user stem (arguments_in first rest) ≡ true
  pub skips : reaction (ignores_failure first) (accepts_failure assignments) 1 ≡ Skips

abbrev pub HasSkippingGuard : Bool → List ℕ → List Assignment → Type 0
HasSkippingGuard is_user stem assignments =
    (command first : List ℕ) × (rest : List (List ℕ)) × IsSkippingGuard is_user stem assignments command first rest

-- ## Steps

-- the values that count after one more value
abbrev pub values_after : List (List ℕ) → List ℕ → List (List ℕ)
values_after values value = if length value == 0 then [] else values ++ value ∷ []

-- the values of this key that count after one more assignment
abbrev pub after_assignment : List ℕ → List (List ℕ) → Assignment → List (List ℕ)
after_assignment key values a = if bytes_eq a.key key then values_after values a.value else values
