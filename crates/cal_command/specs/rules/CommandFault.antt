-- The errors of the command line, with each string as the list of its bytes, and their messages: the texts of `clap`,
-- and this project's own messages.
use Rattle.std.specs.Prelude.{ℕ, List, [], codes}
use Rattle.std.specs.String.{string_bytes}
use Rattle.cal_options.specs.rules.ArgumentFault as refusals
use Rattle.cal_command.specs.declared.command_fault.CommandFault as declared_fault
use Rattle.cal_command.specs.declared.command_fault.CommandFault.TheVariants.{Usage, Help, BadIterations, BadNow, BadZones, BadLocal, NoMemory}

-- usage or help, with the text to print; an invalid value of an option, with the message; or a failed allocation. The
-- text of `usage` comes from `clap`.
pub data CommandFault : Type 0 where
  usage : List ℕ → CommandFault
  help : List ℕ → CommandFault
  bad_value : List ℕ → CommandFault
  no_memory : CommandFault

abbrev pub bad_iterations : CommandFault
bad_iterations = bad_value (codes "bad iterations")

abbrev pub bad_now : CommandFault
bad_now = bad_value (codes "bad now")

abbrev pub bad_zones : CommandFault
bad_zones = bad_value (codes "bad zones")

abbrev pub bad_local : CommandFault
bad_local = bad_value (codes "bad local zone")

-- the error for one of `clap`
abbrev pub reported : refusals.Fault → CommandFault
reported (refusals.usage text) = usage text
reported (refusals.help text) = help text
reported refusals.no_memory = no_memory

abbrev pub shown_fault : declared_fault.CommandFault → CommandFault
shown_fault (Usage text) = usage (string_bytes text)
shown_fault (Help text) = help (string_bytes text)
shown_fault BadIterations = bad_iterations
shown_fault BadNow = bad_now
shown_fault BadZones = bad_zones
shown_fault BadLocal = bad_local
shown_fault NoMemory = no_memory

-- the message of an error, which is empty if memory ran out
abbrev pub message_of : CommandFault → List ℕ
message_of (usage text) = text
message_of (help text) = text
message_of (bad_value message) = message
message_of no_memory = []
