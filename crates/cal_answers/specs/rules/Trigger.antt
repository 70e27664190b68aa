-- The timer that `due` is about, and the time of its run. If `due` names no timer, it is about the timer that started
-- the service: systemd.exec(5), $TRIGGER_UNIT, $TRIGGER_PATH, $TRIGGER_TIMER_REALTIME_USEC.
use Rattle.std.specs.Prelude.{ℕ, ℤ, ◌/◌, ◌&&◌, Bool, false, not, List, Option, None, Some, codes, if◌then◌else◌, nat_eq, string_bytes}
use Rattle.std.specs.List.{ends_with}
use Rattle.std.specs.Option.{option_and_then, option_or}
use Rattle.std.specs.Str.{bytes_eq}
use Rattle.cal_machine.specs.rules.Machine.{Machine}
use Rattle.cal_load.specs.rules.AllTargets.{is_path}
use Rattle.cal_timers_command.specs.declared.question.Command.{Command}
use Rattle.cal_timers_command.specs.declared.question.Question.{Question}
use Rattle.cal_timers_command.specs.declared.question.Question.TheVariants as questions
use Rattle.cal_unit_index.specs.rules.UnitName.{without_suffix}
use Rattle.cal_zone.specs.rules.Instant.{micros_per_second}
use Rattle.cal_answers.specs.rules.MachinePath.{variable_on}
use Rattle.cal_answers.specs.rules.Seconds.{number_in, second_at}

-- whether this is the name of a timer as systemd writes it: it ends in `.timer`, and isn't a path
abbrev pub is_timer_name : List ℕ → Bool
is_timer_name name = ends_with nat_eq name (codes ".timer") && not (is_path name)

abbrev pub if_timer_name : List ℕ → Option (List ℕ)
if_timer_name name = if is_timer_name name then Some name else None

-- the timer that started the service, or None if the variable doesn't name a timer
abbrev pub trigger_on : Machine → Option (List ℕ)
trigger_on machine = option_and_then if_timer_name (variable_on machine (codes "TRIGGER_UNIT"))

-- the timer that `due` is about: the one that it names, or else the one that started the service; None for other verbs
abbrev pub due_on : Machine → Question → Option (List ℕ)
due_on machine (questions.List given all crons) = None
due_on machine (questions.Show given most) = None
due_on machine (questions.Lint given all strict) = None
due_on machine (questions.Between start end given all crons) = None
due_on machine (questions.Same a b) = None
due_on machine (questions.Next given most) = None
due_on machine (questions.Cron given) = None
due_on machine (questions.Due None) = trigger_on machine
due_on machine (questions.Due (Some given)) = Some (string_bytes given)

-- ## The time of the run

-- the second that has this microsecond of Unix time
abbrev pub second_of_micros : ℕ → Option ℤ
second_of_micros micros = second_at (micros / micros_per_second)

-- the second in which the timer triggered the service; None if the variable isn't a number of microseconds,
-- or if that second isn't an instant
abbrev pub elapsed_on : Machine → Option ℤ
elapsed_on machine =
    option_and_then second_of_micros (option_and_then number_in (variable_on machine (codes "TRIGGER_TIMER_REALTIME_USEC")))

-- whether both texts name the same timer; `.timer` can be left out
abbrev pub is_same_timer : Option (List ℕ) → Option (List ℕ) → Bool
is_same_timer None about = false
is_same_timer (Some unit) None = false
is_same_timer (Some unit) (Some about) = bytes_eq (without_suffix unit) (without_suffix about)

-- The second in which the timer that `due` is about triggered the service; None if another unit did, and for other
-- verbs.
abbrev pub run_second_on : Machine → Question → Option ℤ
run_second_on machine question =
    if is_same_timer (trigger_on machine) (due_on machine question) then elapsed_on machine else None

-- The second that counts as the present: that of `--now` if it is given, or else that in which the timer triggered the
-- run that `due` checks, or else that of the clock. A run that waits for other units can start much later than it was
-- triggered.
abbrev pub stated_second : Machine → Command → Option ℤ → Option ℤ
stated_second machine command clock = option_or command.options.now (option_or (run_second_on machine command.question) clock)
