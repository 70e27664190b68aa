-- The command line (systemd-analyze(1)): the command that is described to `clap`, and what the arguments ask for, given
-- what `clap` finds in them.
use Rattle.std.specs.Prelude.{◌≡◌, ⊤, Bool, true, false, not, List, [], ◌∷◌, ◌++◌, map, Option, None, Some, Result, Ok, Err, codes, if◌then◌else◌, option_map}
use Rattle.std.specs.List.{list_any}
use Rattle.std.specs.Option.{option_map_or}
use Rattle.clap.specs.Words.{App, Kinds, Rule, Shape, Text, fault_of, new_app, subcommand_of, takes}
use Rattle.clap.specs.declared.builder.ArgAction.TheVariants.{Append, Set}
use Rattle.clap.specs.declared.error.kind.ErrorKind.{ErrorKind}
use Rattle.cal_request.specs.rules.Verb.{all_verbs, is_timer, seeks_elapses, uses_instants, verb_name}
use Rattle.cal_request.specs.declared.verb.Verb.{Verb}
use Rattle.cal_command.specs.rules.Ask.{Ask}
use Rattle.cal_command.specs.rules.CommandFault.{CommandFault, usage, help, bad_value, bad_iterations, bad_now, bad_zones, bad_local, no_memory}
use Rattle.cal_command.specs.rules.OptionValues.{count_in, zones_in}
use Rattle.cal_options.specs.rules.ArgumentFault.{is_of_help}
use Rattle.cal_options.specs.rules.Arguments.{positional_rule, value_rule}
use Rattle.cal_options.specs.rules.OptionNumbers.{present_in}
use Rattle.cal_command.specs.rules.VerbMatches.{VerbMatches, elapse_option, verb_matches_in, instant_option}
use Rattle.cal_zone.specs.rules.ZoneArgument.{in_utc, zone_argument_in}

-- ## The command, as it is described to `clap`

-- an option that has a value and no short form
abbrev pub option_rule : Text → Rule
option_rule name = value_rule name None

-- the options of the verbs that read or print instants
abbrev pub instant_rules : List Rule
instant_rules = option_rule (codes "local") ∷ option_rule (codes "zones") ∷ option_rule (codes "now") ∷ []

-- the options of the verbs that compute elapses
abbrev pub elapse_rules : List Rule
elapse_rules = option_rule (codes "iterations") ∷ option_rule (codes "base-time") ∷ instant_rules

abbrev pub option_rules : Verb → List Rule
option_rules verb = if seeks_elapses verb then elapse_rules else if uses_instants verb then instant_rules else []

-- the positional argument: one or more texts, or the one path of a timer file
abbrev pub texts_rule : Verb → Rule
texts_rule verb = positional_rule (codes "text") (if is_timer verb then Set else Append) true

-- the options and the positional argument of a verb
abbrev pub verb_rules : Verb → List Rule
verb_rules verb = option_rules verb ++ texts_rule verb ∷ []

-- the subcommand of a verb
abbrev pub verb_shape : Verb → Shape
verb_shape verb = record (new_app (verb_name verb)).top { rules = verb_rules verb }

-- the command of the program itself
abbrev pub program_shape : Shape
program_shape = record (new_app (codes "calendar-analyze")).top { no_binary_name = true; has_version = true; subcommand_required = true }

-- the whole command: that of the program, and a subcommand for each verb
abbrev pub command_app : App
command_app = record { top = record program_shape { is_leaf = false }; subs = map verb_shape all_verbs }

-- whether `clap` accepts the arguments
unfoldable pub takes_arguments : List Text → Bool
takes_arguments arguments = takes command_app arguments

-- the kinds of errors, other than `OutOfMemory`, that `clap` may report for the arguments; none if it parses them
unfoldable pub faults_in : List Text → Kinds
faults_in arguments = fault_of command_app arguments

-- ## What the arguments ask for, if `clap` parses them

-- what `clap` finds in the arguments
unfoldable pub parsed_in : List Text → Option VerbMatches
parsed_in arguments = verb_matches_in (subcommand_of command_app arguments)

-- fails with `fault` if the value is invalid, and otherwise continues with the value
abbrev pub unless_bad : {A : Type 0} → CommandFault → Option A → (A → Result Ask CommandFault) → Result Ask CommandFault
unless_bad fault None next = Err fault
unless_bad fault (Some value) next = next value

-- What the values of the options ask for, or the error for the first invalid value, in the order below. By default,
-- one elapse is shown, the present instant is read from the system's clock, there are no zone files, and the local zone
-- is UTC.
unfoldable pub read_options : VerbMatches → Result Ask CommandFault
read_options found =
    unless_bad bad_iterations (option_map_or count_in (elapse_option found (codes "iterations")) (Some 1)) (λ iterations.
    unless_bad bad_now (option_map_or (λ text. option_map Some (present_in text)) (instant_option found (codes "now")) (Some None)) (λ now.
    unless_bad bad_zones (option_map_or zones_in (instant_option found (codes "zones")) (Some [])) (λ zones.
    unless_bad bad_local (option_map_or zone_argument_in (instant_option found (codes "local")) (Some in_utc)) (λ local. Ok (record {
      verb = found.verb;
      texts = found.texts;
      iterations = iterations;
      base = elapse_option found (codes "base-time");
      now = now;
      local = local;
      zones = zones;
    })))))

-- What the arguments ask for, or the error for the first invalid value; None if `clap` finds no verb or no texts in them.
-- It finds both in all arguments that it parses: see the law `parsed_arguments_have_texts`.
unfoldable pub ask_in : List Text → Option (Result Ask CommandFault)
ask_in arguments = option_map read_options (parsed_in arguments)

-- ## Which results are right

-- `clap` parses the arguments, and `answer` is what they ask for, or the error for the first invalid value (`ask_in`)
abbrev pub HasRead : List Text → Result Ask CommandFault → Type 0
HasRead arguments answer = (faults_in arguments ≡ []) × (ask_in arguments ≡ Some answer)

-- `clap` rejects the arguments, and one of the errors that it may report for them is of a kind that passes `is_kind`
abbrev pub AreRejected : List Text → (ErrorKind → Bool) → Type 0
AreRejected arguments is_kind = (takes_arguments arguments ≡ false) × (list_any is_kind (faults_in arguments) ≡ true)

-- `fault` is right for the arguments. If `clap` rejects them, `help` is right if one possible reason is a request for
-- help or the version, and `usage` is right if one possible reason is anything else. If `clap` parses them, the error
-- for the first invalid value is right. The error for a failed allocation is right for all arguments.
abbrev pub IsFaultOf : List Text → CommandFault → Type 0
IsFaultOf arguments (usage text) = AreRejected arguments (λ kind. not (is_of_help kind))
IsFaultOf arguments (help text) = AreRejected arguments is_of_help
IsFaultOf arguments (bad_value message) = HasRead arguments (Err (bad_value message))
IsFaultOf arguments no_memory = ⊤

-- `answer` is right for the arguments: it is what `ask_in` returns for them if `clap` parses them, or else an error
-- that is right for them
abbrev pub IsAskOf : List Text → Result Ask CommandFault → Type 0
IsAskOf arguments (Ok ask) = HasRead arguments (Ok ask)
IsAskOf arguments (Err fault) = IsFaultOf arguments fault

-- `answer` is the error `fault`, or `fault` is the error for a failed allocation; `fault` is neither usage nor help
abbrev pub IsFaultOrNoMemory : CommandFault → Result Ask CommandFault → Type 0
IsFaultOrNoMemory (usage text) answer = ⊥
IsFaultOrNoMemory (help text) answer = ⊥
IsFaultOrNoMemory (bad_value message) answer = Err (bad_value message) ≡ answer
IsFaultOrNoMemory no_memory answer = ⊤

-- the first result equals `answer` and is neither usage nor help, or it is the error for a failed allocation
abbrev pub IsOrNoMemory : Result Ask CommandFault → Result Ask CommandFault → Type 0
IsOrNoMemory (Ok ask) answer = Ok ask ≡ answer
IsOrNoMemory (Err fault) answer = IsFaultOrNoMemory fault answer
