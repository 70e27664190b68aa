-- Options and positional arguments, and the commands that have them, as they are described to `clap`.
use Rattle.std.specs.Prelude.{ℕ, ◌&&◌, ◌||◌, Bool, true, false, List, [], ◌∷◌, ◌++◌, Option, None, Some, codes, map}
use Rattle.std.specs.Option.{option_map_or}
use Rattle.std.specs.Str.{bytes_eq}
use Rattle.clap.specs.Words.{App, Rule, Shape, Text, new_app, new_rule, with_subcommand}
use Rattle.clap.specs.declared.builder.action.ArgAction.{ArgAction}
use Rattle.clap.specs.declared.builder.action.ArgAction.TheVariants.{Append, Set, SetTrue}
use Rattle.cal_options.specs.declared.argument.Argument.{Argument}
use Rattle.cal_options.specs.declared.argument.ArgumentForm.{ArgumentForm}
use Rattle.cal_options.specs.declared.argument.ArgumentForm.TheVariants.{Value, ShortValue, Flag, ShortFlag, One, AtMostOne, Any, AtLeastOne}
use Rattle.cal_options.specs.declared.clap_command.Subcommand.{Subcommand}

-- ## Rules of `clap`

-- an option with a value, which may be given once
abbrev pub value_rule : Text → Option ℕ → Rule
value_rule name short =
    record (new_rule name) { long = Some name; short = short; action = Some Set; value_names = 1 }

-- an option without a value, which may be given once
abbrev pub flag_rule : Text → Option ℕ → Rule
flag_rule name short = record (new_rule name) { long = Some name; short = short; action = Some SetTrue }

-- a positional argument: one value for the action `Set`, and any number of them for `Append`
abbrev pub positional_rule : Text → ArgAction → Bool → Rule
positional_rule name action required =
    record (new_rule name) { action = Some action; value_names = 1; required = required }

abbrev pub rule_for : Text → ArgumentForm → Rule
rule_for name Value = value_rule name None
rule_for name (ShortValue letter) = value_rule name (Some letter)
rule_for name Flag = flag_rule name None
rule_for name (ShortFlag letter) = flag_rule name (Some letter)
rule_for name One = positional_rule name Set true
rule_for name AtMostOne = positional_rule name Set false
rule_for name Any = positional_rule name Append false
rule_for name AtLeastOne = positional_rule name Append true

abbrev pub shown_argument : Argument → Rule
shown_argument argument = rule_for argument.name.now argument.form

abbrev pub shown_subcommand : Subcommand → Shape
shown_subcommand subcommand =
    record (new_app subcommand.name.now).top { rules = map shown_argument subcommand.arguments.now }

-- the command with these options and positional arguments after those that it has
abbrev pub with_rules : App → List Rule → App
with_rules app rules = record app { top = record app.top { rules = app.top.rules ++ rules } }

-- the command with these subcommands after those that it has
abbrev pub with_subcommands : App → List Shape → App
with_subcommands app [] = app
with_subcommands app (shape ∷ shapes) = with_subcommands (with_subcommand app shape) shapes

-- ## Options whose value is the next word

abbrev pub has_value : Option ArgAction → Bool
has_value (Some Set) = true
has_value _ = false

-- the word is `--` and the name
abbrev pub is_long_option : Text → Text → Bool
is_long_option word name = bytes_eq word (codes "--" ++ name)

-- the word is `-` and the letter
abbrev pub is_short_option : Text → ℕ → Bool
is_short_option word letter = bytes_eq word (45 ∷ letter ∷ [])

-- the word is this option, in its long or short form, and the option has a value
abbrev pub is_value_option : Text → Rule → Bool
is_value_option word rule = has_value rule.action
    && (option_map_or (is_long_option word) rule.long false || option_map_or (is_short_option word) rule.short false)
