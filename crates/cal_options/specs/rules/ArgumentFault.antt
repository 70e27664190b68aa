-- Why arguments can't be parsed, with each string as the list of its bytes, and which of these errors `clap` may report.
use Rattle.std.specs.Prelude.{◌≡◌, ◌≢◌, ◌<◌, ⊤, Bool, true, false, not, List, length, string_bytes}
use Rattle.std.specs.List.{list_any}
use Rattle.clap.specs.Words.{App, Text, fault_of, takes}
use Rattle.clap.specs.declared.error.kind.ErrorKind.{ErrorKind}
use Rattle.clap.specs.declared.error.kind.ErrorKind.TheVariants.{DisplayHelp, DisplayVersion, OutOfMemory}
use Rattle.cal_options.specs.declared.argument_fault.ArgumentFault.{ArgumentFault}
use Rattle.cal_options.specs.declared.argument_fault.ArgumentFault.TheVariants.{Usage, Help, NoMemory}

-- invalid arguments, or a request for help or the version, with the text to print; or a failed allocation
pub data Fault : Type 0 where
  usage : Text → Fault
  help : Text → Fault
  no_memory : Fault

abbrev pub shown_fault : ArgumentFault → Fault
shown_fault (Usage text) = usage (string_bytes text)
shown_fault (Help text) = help (string_bytes text)
shown_fault NoMemory = no_memory

-- whether an error of this kind is a request for help or the version
abbrev pub is_of_help : ErrorKind → Bool
is_of_help DisplayHelp = true
is_of_help DisplayVersion = true
is_of_help _ = false

-- `clap` rejects the arguments of this command, and one of the errors that it may report is of a kind that passes
-- `is_kind`
abbrev pub HasRefused : App → List Text → (ErrorKind → Bool) → Type 0
HasRefused app arguments is_kind = (takes app arguments ≡ false) × (list_any is_kind (fault_of app arguments) ≡ true)

-- `fault` may be reported for the arguments. Unless it is a failed allocation, its text is written by `clap`: the text
-- isn't empty, and nothing else is known about it.
abbrev pub IsRefusalOf : App → List Text → Fault → Type 0
IsRefusalOf app arguments (usage text) = HasRefused app arguments (λ kind. not (is_of_help kind)) × (0 < length text)
IsRefusalOf app arguments (help text) = HasRefused app arguments is_of_help × (0 < length text)
IsRefusalOf app arguments no_memory = ⊤

-- `fault` may be reported if `clap` returns an error of this kind
abbrev pub IsReportedOf : ErrorKind → Fault → Type 0
IsReportedOf kind (usage text) = (is_of_help kind ≡ false) × ((kind ≢ OutOfMemory) × (0 < length text))
IsReportedOf kind (help text) = (is_of_help kind ≡ true) × ((kind ≢ OutOfMemory) × (0 < length text))
IsReportedOf kind no_memory = ⊤
