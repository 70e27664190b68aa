-- What the arguments ask, or which error they have.
use Rattle.std.specs.Prelude.{◌≡◌, ◌⊎◌, ◌<◌, ⊤, ℕ, ℤ, Bool, ◌&&◌, List, [], Option, None, Some, Result, Ok, Err, codes, if◌then◌else◌, is_some, length, map, unwrap_or, option_and_then, option_map, IsSome}
use Rattle.std.specs.Option.{option_map_or}
use Rattle.std.specs.String.{string_bytes}
use Rattle.clap.specs.Words.{Kinds, Row, Text, all_of, fault_of, first_of, subcommand_of}
use Rattle.cal_timers_command.specs.declared.question.Command as declared_command
use Rattle.cal_timers_command.specs.declared.question.Options as declared_options
use Rattle.cal_timers_command.specs.declared.question.Question as declared_question
use Rattle.cal_timers_command.specs.declared.question.Question.TheVariants as questions
use Rattle.cal_timers_command.specs.declared.verb.Verb.{Verb}
use Rattle.cal_timers_command.specs.declared.verb.Verb.TheVariants as verbs
use Rattle.cal_options.specs.declared.argument_fault.ArgumentFault.{ArgumentFault}
use Rattle.cal_options.specs.declared.argument_fault.ArgumentFault.TheVariants.{Usage, Help, NoMemory}
use Rattle.cal_options.specs.rules.ArgumentFault.{Fault, IsRefusalOf, usage, help, no_memory}
use Rattle.cal_options.specs.rules.OptionNumbers.{present_in, number_between}
use Rattle.cal_options.specs.rules.Values.{is_set}
use Rattle.cal_timers_command.specs.rules.CommandLine.{command_app}
use Rattle.cal_timers_command.specs.rules.OptionValues.{bad_instant, bad_number, is_zone_first, no_value, text_in, zone_clash}
use Rattle.cal_timers_command.specs.rules.Questions.{default_count, max_count}
use Rattle.cal_timers_command.specs.rules.VerbFirst.{verb_first}
use Rattle.cal_timers_command.specs.rules.Verbs.{verb_named}

-- ## Commands, with each string as the list of its bytes

-- A question, with what its verb needs. A number is the maximum number of elapses. The truth values say whether `--all`
-- is given, and then whether `--cron` or, of `lint`, `--strict` is. `between` has the start and the end of the range
-- before the timers.
pub data Question : Type 0 where
  list : List Text → Bool → Bool → Question
  show : List Text → ℕ → Question
  lint : List Text → Bool → Bool → Question
  between : Text → Text → List Text → Bool → Bool → Question
  same : Text → Text → Question
  next : List Text → ℕ → Question
  due : Option Text → Question
  cron : List Text → Question

-- the options that most verbs share
pub record Options : Type 0 where
  pub zone : Option Text
  pub shown_in : Option Text
  pub now : Option ℤ
  pub root : Text
  pub is_user : Bool
  pub is_json : Bool

-- what the arguments ask
pub record Command : Type 0 where
  pub question : Question
  pub options : Options

abbrev pub shown_question : declared_question.Question → Question
shown_question (questions.List timers is_all is_cron) = list (map string_bytes timers.items) is_all is_cron
shown_question (questions.Show timers count) = show (map string_bytes timers.items) count
shown_question (questions.Lint timers is_all is_strict) = lint (map string_bytes timers.items) is_all is_strict
shown_question (questions.Between from to timers is_all is_cron) =
    between (string_bytes from) (string_bytes to) (map string_bytes timers.items) is_all is_cron
shown_question (questions.Same one other) = same (string_bytes one) (string_bytes other)
shown_question (questions.Next expressions count) = next (map string_bytes expressions.items) count
shown_question (questions.Due timer) = due (option_map string_bytes timer)
shown_question (questions.Cron crontabs) = cron (map string_bytes crontabs.items)

abbrev pub shown_options : declared_options.Options → Options
shown_options options = record {
  zone = option_map string_bytes options.zone;
  shown_in = option_map string_bytes options.shown_in;
  now = options.now;
  root = string_bytes options.root;
  is_user = options.is_user;
  is_json = options.is_json;
}

abbrev pub shown_command : declared_command.Command → Command
shown_command command = record { question = shown_question command.question; options = shown_options command.options }

-- ## What the values that `clap` finds ask for

-- the parsed value of an option, or None if the option isn't given; for an invalid value, the error with the message
abbrev pub option_value : {A : Type 0} → (Text → Option A) → (Text → Text) → Option Text → Result (Option A) Fault
option_value read message None = Ok None
option_value read message (Some text) =
    option_map_or (λ value. Ok (Some value)) (read text) (Err (usage (message text)))

-- the result of `step` for this value, or this error
abbrev pub then_with : {A B : Type 0} → Result A Fault → (A → Result B Fault) → Result B Fault
then_with (Ok value) step = step value
then_with (Err fault) step = Err fault

-- the value of the option `--name`, which is a number from `least` to `most`, or None if the option isn't given
unfoldable pub number_value : Text → Text → ℕ → ℕ → List Row → Result (Option ℕ) Fault
number_value name value_name least most rows =
    option_value (number_between least most) (bad_number name value_name least most) (first_of name rows)

-- the value of `--count`, or `default_count` if the option isn't given
unfoldable pub count_value : List Row → Result ℕ Fault
count_value rows =
    then_with (number_value (codes "count") (codes "N") 1 max_count rows) (λ count. Ok (unwrap_or count default_count))

-- the value of `--now` in seconds of Unix time, or None if the option isn't given
unfoldable pub now_value : List Row → Result (Option ℤ) Fault
now_value rows = option_value present_in (bad_instant (codes "now") (codes "@N")) (first_of (codes "now") rows)

-- the value of the option `--name`, which is any text that isn't empty, or None if the option isn't given
unfoldable pub text_value : Text → Text → List Row → Result (Option Text) Fault
text_value name value_name rows = option_value text_in (λ text. no_value name value_name) (first_of name rows)

-- both `--zone` and `--utc` are given
abbrev pub has_clash : List Row → Bool
has_clash rows = is_set (codes "utc") rows && is_some (first_of (codes "zone") rows)

-- the value of `--zone`, or `UTC` if `--utc` is given, or None if neither is given
unfoldable pub zone_value : List Row → Result (Option Text) Fault
zone_value rows =
    if is_set (codes "utc") rows then Ok (Some (codes "UTC")) else text_value (codes "zone") (codes "ZONE") rows

-- the value of `--root`, or an empty text if the option isn't given
unfoldable pub root_value : List Row → Result Text Fault
root_value rows =
    then_with (text_value (codes "root") (codes "DIR") rows) (λ root. Ok (unwrap_or root []))

-- the options that most verbs share, or the error of the first invalid value, in the order below
unfoldable pub options_for : List Row → Result Options Fault
options_for rows =
    if has_clash rows then Err (usage (zone_clash (is_zone_first rows)))
    else then_with (now_value rows) (λ now.
    then_with (zone_value rows) (λ zone.
    then_with (text_value (codes "in") (codes "ZONE") rows) (λ shown_in.
    then_with (root_value rows) (λ root.
    Ok (record {
      zone = zone;
      shown_in = shown_in;
      now = now;
      root = root;
      is_user = is_set (codes "user") rows;
      is_json = is_set (codes "json") rows;
    })))))

-- ## What a verb with these values asks

-- the value of a required argument, which `clap` finds in all arguments that it parses (`HasNeeded`)
abbrev pub needed_text : Text → List Row → Text
needed_text name rows = unwrap_or (first_of name rows) []

-- the timers, the expressions of `next` or the crontabs of `cron`, in the order in which they are given
abbrev pub targets_in : List Row → List Text
targets_in rows = unwrap_or (all_of (codes "target") rows) []

-- the two targets that `between` and `same` need are given
abbrev pub HasPair : List Row → Type 0
HasPair rows = IsSome (first_of (codes "first") rows) × IsSome (first_of (codes "second") rows)

-- all targets that the verb needs are given
abbrev pub HasNeeded : Verb → List Row → Type 0
HasNeeded verbs.List rows = ⊤
HasNeeded verbs.Show rows = 0 < length (targets_in rows)
HasNeeded verbs.Lint rows = ⊤
HasNeeded verbs.Between rows = HasPair rows
HasNeeded verbs.Same rows = HasPair rows
HasNeeded verbs.Next rows = 0 < length (targets_in rows)
HasNeeded verbs.Due rows = ⊤
HasNeeded verbs.Cron rows = ⊤

-- the question that a verb with these values asks, or the error of the first invalid value
unfoldable pub question_for : Verb → List Row → Result Question Fault
question_for verbs.List rows = Ok (list (targets_in rows) (is_set (codes "all") rows) (is_set (codes "cron") rows))
question_for verbs.Show rows = then_with (count_value rows) (λ count. Ok (show (targets_in rows) count))
question_for verbs.Lint rows = Ok (lint (targets_in rows) (is_set (codes "all") rows) (is_set (codes "strict") rows))
question_for verbs.Between rows =
    Ok (between (needed_text (codes "first") rows) (needed_text (codes "second") rows) (targets_in rows) (is_set (codes "all") rows) (is_set (codes "cron") rows))
question_for verbs.Same rows = Ok (same (needed_text (codes "first") rows) (needed_text (codes "second") rows))
question_for verbs.Next rows = then_with (count_value rows) (λ count. Ok (next (targets_in rows) count))
question_for verbs.Due rows = Ok (due (first_of (codes "target") rows))
question_for verbs.Cron rows = Ok (cron (targets_in rows))

-- what a verb with these values asks, or the error of the first invalid value: those of the question come first
unfoldable pub command_for : Verb → List Row → Result Command Fault
command_for verb rows =
    then_with (question_for verb rows) (λ question.
    then_with (options_for rows) (λ options.
    Ok (record { question = question; options = options })))

-- ## What the arguments ask

-- the kinds of errors, other than `OutOfMemory`, that `clap` may report for the arguments; none if it parses them
unfoldable pub faults_in : List Text → Kinds
faults_in arguments = fault_of command_app (verb_first arguments)

-- the verb whose name `clap` finds, with the values of its options and targets; None if `clap` finds no verb
unfoldable pub verb_in : Option (Text × List Row) → Option (Verb × List Row)
verb_in = option_and_then (λ found. option_map (λ verb. (verb, found.1)) (verb_named found.0))

-- the verb and the values that `clap` finds in the arguments
unfoldable pub parsed_in : List Text → Option (Verb × List Row)
parsed_in arguments = verb_in (subcommand_of command_app (verb_first arguments))

-- What the arguments ask, or the error of the first invalid value; None if `clap` finds no verb in them. It finds a verb,
-- and all targets that this verb needs, in all arguments that it parses: see the law `parsed_arguments_are_complete`.
unfoldable pub answer_in : List Text → Option (Result Command Fault)
answer_in arguments = option_map (λ found. command_for found.0 found.1) (parsed_in arguments)

-- `clap` parses the arguments, and `answer` is what they ask, or the error of the first invalid value
abbrev pub HasRead : List Text → Result Command Fault → Type 0
HasRead arguments answer = (faults_in arguments ≡ []) × (answer_in arguments ≡ Some answer)

-- the arguments ask this
abbrev pub IsCommandOf : List Text → Command → Type 0
IsCommandOf arguments command = HasRead arguments (Ok command)

-- The arguments may result in this error: in a usage error or a help text if `clap` reports such an error, and
-- otherwise in the error of the first invalid value. Any arguments may result in a failed allocation.
abbrev pub IsFaultOf : List Text → Fault → Type 0
IsFaultOf arguments (usage text) =
    IsRefusalOf command_app (verb_first arguments) (usage text) ⊎ (HasRead arguments (Err (usage text)) × (0 < length text))
IsFaultOf arguments (help text) = IsRefusalOf command_app (verb_first arguments) (help text)
IsFaultOf arguments no_memory = ⊤

-- `answer` is the error `fault`, whose text isn't empty, or `fault` is a failed allocation
abbrev pub IsFaultIn : {A : Type 0} → Result A Fault → ArgumentFault → Type 0
IsFaultIn answer (Usage text) = (answer ≡ Err (usage (string_bytes text))) × (0 < length (string_bytes text))
IsFaultIn answer (Help text) = ⊥
IsFaultIn answer NoMemory = ⊤
