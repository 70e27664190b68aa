-- Why `read_question` can't answer a question: there is no present, no root or no search path, or a zone can't be used.
use Rattle.std.specs.Prelude.{◌≡◌, ◌≢◌, ◌⊎◌, ℕ, ℤ, false, List, [], Option, None, codes, string_bytes}
use Rattle.cal_machine.specs.rules.Machine.{Machine}
use Rattle.cal_timers_command.specs.declared.question.Command.{Command}
use Rattle.cal_load.specs.rules.LoadedTarget.{is_folder}
use Rattle.cal_answers.specs.rules.LocalClock.{IsUnusable, ignores_bad_variable, local_zone_of, shown_zone_of}
use Rattle.cal_answers.specs.rules.MachinePath.{machine_path}
use Rattle.cal_answers.specs.rules.Present.{IsPresent}
use Rattle.cal_answers.specs.rules.Trigger.{stated_second}

-- neither the command nor the trigger nor the clock states a present, or the stated second isn't an instant
abbrev pub HasNoPresent : Machine → Command → Option ℤ → Type 0
HasNoPresent machine command clock = IsPresent (stated_second machine command clock) None

-- the command names a root that isn't a folder; the empty text names no root
abbrev pub HasNoRoot : Machine → List ℕ → Type 0
HasNoRoot machine root = (root ≢ []) × (is_folder (machine.entry (codes "/")) ≡ false)

-- the zone in which times are shown can't be used, and isn't ignored
abbrev pub HasNoShownZone : Machine → Command → Type 0
HasNoShownZone machine command = (ignores_bad_variable command ≡ false) × IsUnusable machine (shown_zone_of machine command)

-- the local zone, or the zone in which times are shown, can't be used
abbrev pub HasNoZone : Machine → Command → Type 0
HasNoZone machine command = IsUnusable machine (local_zone_of machine command) ⊎ HasNoShownZone machine command

-- the manager of the machine has no search path
abbrev pub HasNoPath : Machine → Command → Type 0
HasNoPath machine command = machine_path machine command.options.is_user ≡ None

-- the question of a command can't be answered on this machine
abbrev pub IsUnanswerableOn : Machine → Command → Option ℤ → Type 0
IsUnanswerableOn machine command clock =
    HasNoPresent machine command clock
    ⊎ (HasNoRoot machine (string_bytes command.options.root)
    ⊎ (HasNoZone machine command ⊎ HasNoPath machine command))
