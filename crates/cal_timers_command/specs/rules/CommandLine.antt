-- The command that is described to `clap`: the options and positional arguments of the program and of each verb.
use Rattle.std.specs.Prelude.{Bool, true, false, List as ListOf, [], ◌∷◌, ◌++◌, None, Some, codes, map}
use Rattle.std.specs.List.{list_any}
use Rattle.clap.specs.Words.{App, Rule, Shape, Text, new_app}
use Rattle.clap.specs.declared.builder.action.ArgAction.TheVariants.{Append, Set}
use Rattle.cal_options.specs.rules.Arguments.{flag_rule, is_value_option, positional_rule, value_rule}
use Rattle.cal_timers_command.specs.declared.verb.Verb.{Verb}
use Rattle.cal_timers_command.specs.declared.verb.Verb.TheVariants.{List, Show, Lint, Between, Same, Next, Due, Cron}
use Rattle.cal_timers_command.specs.rules.Verbs.{all_verbs, verb_name}

-- `--count` and `-n`
abbrev pub count_rule : Rule
count_rule = value_rule (codes "count") (Some 110)

-- `--all` and `-a`
abbrev pub all_rule : Rule
all_rule = flag_rule (codes "all") (Some 97)

-- `--cron`
abbrev pub cron_rule : Rule
cron_rule = flag_rule (codes "cron") None

abbrev pub zone_rules : ListOf Rule
zone_rules = value_rule (codes "zone") None ∷ flag_rule (codes "utc") None ∷ []

abbrev pub in_rule : Rule
in_rule = value_rule (codes "in") None

abbrev pub place_rules : ListOf Rule
place_rules = value_rule (codes "now") None ∷ value_rule (codes "root") None ∷ []

abbrev pub user_rule : Rule
user_rule = flag_rule (codes "user") None

abbrev pub json_rule : Rule
json_rule = flag_rule (codes "json") None

-- the options that most verbs share
abbrev pub shared_rules : ListOf Rule
shared_rules = zone_rules ++ in_rule ∷ place_rules ++ user_rule ∷ json_rule ∷ []

-- the two targets that `between` and `same` need
abbrev pub pair_rules : ListOf Rule
pair_rules = positional_rule (codes "first") Set true ∷ positional_rule (codes "second") Set true ∷ []

-- any number of targets, which may be none
abbrev pub any_targets : Rule
any_targets = positional_rule (codes "target") Append false

-- at most one target
abbrev pub one_target : Rule
one_target = positional_rule (codes "target") Set false

-- at least one target
abbrev pub some_targets : Rule
some_targets = positional_rule (codes "target") Append true

-- the options and positional arguments of a verb, in the order in which the help lists them
abbrev pub verb_rules : Verb → ListOf Rule
verb_rules List = all_rule ∷ cron_rule ∷ shared_rules ++ any_targets ∷ []
verb_rules Lint = all_rule ∷ flag_rule (codes "strict") None ∷ zone_rules ++ place_rules ++ user_rule ∷ json_rule ∷ any_targets ∷ []
verb_rules Show = count_rule ∷ shared_rules ++ some_targets ∷ []
verb_rules Between = pair_rules ++ all_rule ∷ cron_rule ∷ shared_rules ++ any_targets ∷ []
verb_rules Same = pair_rules ++ shared_rules
verb_rules Next = count_rule ∷ zone_rules ++ in_rule ∷ place_rules ++ json_rule ∷ some_targets ∷ []
verb_rules Due = shared_rules ++ one_target ∷ []
verb_rules Cron = value_rule (codes "root") None ∷ json_rule ∷ any_targets ∷ []

-- the argument is an option of some verb whose value is the next argument, unless it is joined to the option
abbrev pub needs_value : Text → Bool
needs_value argument = list_any (λ verb. list_any (is_value_option argument) (verb_rules verb)) all_verbs

-- the subcommand of a verb
abbrev pub verb_shape : Verb → Shape
verb_shape verb = record (new_app (verb_name verb)).top { rules = verb_rules verb }

-- the command of the program itself, whose options are there only for its help
abbrev pub program_shape : Shape
program_shape = record (new_app (codes "calendar-timers")).top {
  rules = shared_rules;
  no_binary_name = true;
  has_version = true;
  subcommand_required = true;
}

-- the whole command: that of the program, and a subcommand for each verb
abbrev pub command_app : App
command_app = record { top = record program_shape { is_leaf = false }; subs = map verb_shape all_verbs }
