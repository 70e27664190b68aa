-- The local zone of a question and the zone in which its answer shows times, as zones of `jiff`. Without `--zone`, the
-- expressions of units are in the machine's zone, and those of `next` in the zone of `TZ`, as in
-- `systemd-analyze calendar`. `cal_zone_files` defines which zones these are.
use Rattle.std.specs.Prelude.{◌≡◌, ◌⊎◌, ◌&&◌, ⊤, ℕ, Bool, true, false, List, Option, None, Some, Ok, Err, is_none, option_map, string_bytes}
use Rattle.std.specs.Option.{option_or, unwrap_or}
use Rattle.jiff.specs.Placed.{IsPosixZone}
use Rattle.jiff.specs.Types.{TimeZone, UTC}
use Rattle.jiff.specs.Words.{read_whole}
use Rattle.cal_civil.specs.rules.ZoneName.{is_utc_name}
use Rattle.cal_machine.specs.rules.Machine.{Machine}
use Rattle.cal_timers_command.specs.declared.question.Command.{Command}
use Rattle.cal_timers_command.specs.declared.question.Options.{Options}
use Rattle.cal_timers_command.specs.declared.question.Question.{Question}
use Rattle.cal_timers_command.specs.declared.question.Question.TheVariants as questions
use Rattle.cal_zone_files.specs.declared.fault.FileReason.{FileReason}
use Rattle.cal_zone_files.specs.rules.LocalZone.{LocalZone, machine_local_zone}
use Rattle.cal_zone_files.specs.rules.ZoneFiles.{IsMachineZone, IsReasonOn, IsZoneOn}
use Rattle.cal_zone.specs.rules.FixedOffsetZone.{fixed_offset_zone}
use Rattle.cal_zone.specs.rules.Zone.{zone_of}
use Rattle.cal_zone.specs.rules.ZoneArgument.{ZoneArgument, in_utc, at_offset, by_rule, of_name}
use Rattle.cal_zone.specs.rules.ZoneTable.{zone_named}
use Rattle.cal_answers.specs.declared.local_clock.LocalClock.{LocalClock}
use Rattle.cal_answers.specs.declared.local_clock.LocalClock.TheVariants.{Fixed, Ruled, Named, Assumed}

-- whether the zone is the one with this name; the flag says whether the name is `UTC`, ignoring case
abbrev pub IsZoneNamed : Machine → List ℕ → Bool → TimeZone → Type 0
IsZoneNamed machine name true zone = zone ≡ UTC
IsZoneNamed machine name false zone = IsZoneOn machine name zone

-- whether `zone`, a zone of `jiff`, is the zone that an option or `TZ` names
abbrev pub IsZoneGiven : Machine → ZoneArgument → TimeZone → Type 0
IsZoneGiven machine in_utc zone = zone ≡ UTC
IsZoneGiven machine (at_offset seconds) zone = zone ≡ fixed_offset_zone seconds
IsZoneGiven machine (by_rule rule) zone = IsPosixZone rule zone
IsZoneGiven machine (of_name name) zone = IsZoneNamed machine name (is_utc_name name) zone

-- Whether `zone`, a zone of `jiff`, is this local zone. The machine's own zone is UTC if /etc/localtime doesn't lead to
-- a zone file. If the local zone is unclear or can't be read, this holds for no zone.
abbrev pub IsThisZone : Machine → LocalZone → TimeZone → Type 0
IsThisZone machine (Ok (Some given)) zone = IsZoneGiven machine given zone
IsThisZone machine (Ok None) zone = (found : Option TimeZone) × IsMachineZone machine found × (zone ≡ unwrap_or found UTC)
IsThisZone machine (Err fault) zone = ⊥

-- whether there is a zone, and it is this local zone
abbrev pub IsLocalZone : Machine → LocalZone → Option TimeZone → Type 0
IsLocalZone machine local None = ⊥
IsLocalZone machine local (Some zone) = IsThisZone machine local zone

-- the zone of a `LocalClock`, or None if the zone has a name that isn't in its table
abbrev pub clock_zone : LocalClock → Option TimeZone
clock_zone (Fixed zone) = Some (zone_of zone)
clock_zone (Ruled rules) = Some rules
clock_zone (Named name table) = zone_named table (string_bytes name)
clock_zone Assumed = Some UTC

-- a zone that is given can't be used if its rule isn't valid, or if the file for its name can't be used
abbrev pub IsUnusableGiven : Machine → ZoneArgument → Type 0
IsUnusableGiven machine in_utc = ⊥
IsUnusableGiven machine (at_offset seconds) = ⊥
IsUnusableGiven machine (by_rule rule) = read_whole rule ≡ None
IsUnusableGiven machine (of_name name) = (reason : FileReason) × IsReasonOn machine name reason

-- The local zone can't be used if an option or `TZ` gives a zone that can't be used, or is unclear or can't be read.
-- The machine's own zone can be used even if /etc/localtime doesn't lead to a zone file: it is UTC then.
abbrev pub IsUnusable : Machine → LocalZone → Type 0
IsUnusable machine (Ok (Some given)) = IsUnusableGiven machine given
IsUnusable machine (Ok None) = ⊥
IsUnusable machine (Err fault) = ⊤

-- ## Questions

abbrev pub is_next : Question → Bool
is_next (questions.List given all crons) = false
is_next (questions.Show given most) = false
is_next (questions.Lint given all strict) = false
is_next (questions.Between start end given all crons) = false
is_next (questions.Same a b) = false
is_next (questions.Next given most) = true
is_next (questions.Due given) = false
is_next (questions.Cron given) = false

-- whether the answers to a question have times
abbrev pub shows_times : Question → Bool
shows_times (questions.List given all crons) = true
shows_times (questions.Show given most) = true
shows_times (questions.Lint given all strict) = false
shows_times (questions.Between start end given all crons) = true
shows_times (questions.Same a b) = true
shows_times (questions.Next given most) = true
shows_times (questions.Due given) = true
shows_times (questions.Cron given) = false

-- the zone of expressions that name no zone: `--zone` if it is given, or else, for `next`, `TZ` if it is set, or else
-- the machine's own zone
abbrev pub local_zone_of : Machine → Command → LocalZone
local_zone_of machine command =
    machine_local_zone machine (option_map string_bytes command.options.zone) (is_next command.question)

-- the option that says in which zone times are shown: `--in` if it is given, or else `--zone`
abbrev pub shown_option : Options → Option (List ℕ)
shown_option options = option_or (option_map string_bytes options.shown_in) (option_map string_bytes options.zone)

-- the zone in which times are shown: that of `--in` or `--zone`, or else that of `TZ`, or else the machine's own;
-- `lint` and `cron` show no times, so `TZ` is ignored for them
abbrev pub shown_zone_of : Machine → Command → LocalZone
shown_zone_of machine command = machine_local_zone machine (shown_option command.options) (shows_times command.question)

abbrev pub is_due : Question → Bool
is_due (questions.List given all crons) = false
is_due (questions.Show given most) = false
is_due (questions.Lint given all strict) = false
is_due (questions.Between start end given all crons) = false
is_due (questions.Same a b) = false
is_due (questions.Next given most) = false
is_due (questions.Due given) = true
is_due (questions.Cron given) = false

-- Whether a `TZ` that can't be used is ignored. `due` ignores it, since systemd evaluates the timer in the machine's own
-- zone, and a zone in which times are only shown must not make a service fail.
abbrev pub ignores_bad_variable : Command → Bool
ignores_bad_variable command = is_due command.question && is_none (shown_option command.options)

-- whether `zone`, a zone of `jiff`, is the one in which times are shown, or the machine's own zone instead of a `TZ` that
-- is ignored because it can't be used
abbrev pub IsShownZone : Machine → Command → Option TimeZone → Type 0
IsShownZone machine command zone =
    IsLocalZone machine (shown_zone_of machine command) zone
    ⊎ ((ignores_bad_variable command ≡ true) × IsUnusable machine (shown_zone_of machine command) × IsLocalZone machine (Ok None) zone)
