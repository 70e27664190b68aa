-- The examples of `WorkedArguments`, checked by computing the definitions.
use Rattle.std.proofs.Common.{◌≡◌, ℕ, true, List, Some, Ok, Err, refl}
use Rattle.clap.proofs.OnLiterals.{clap_on_literals}
use Rattle.cal_command.specs.rules.CommandFault.{bad_iterations, help, usage}
use Rattle.cal_command.specs.rules.CommandLine.{IsAskOf, ask_in, faults_in, parsed_in, read_options, takes_arguments}
use Rattle.cal_command.specs.rules.VerbMatches.{verb_matches_in}
use Rattle.cal_command.specs.rules.OptionValues.{count_in, zone_item_in, zone_items_in, zones_in}
use Rattle.cal_options.specs.rules.OptionNumbers.{present_in, number_between}
use Rattle.cal_civil.specs.rules.ZoneName.{is_utc_name, is_zone_name}
use Rattle.cal_zone.specs.rules.ZoneArgument.{zone_argument_in}
use Rattle.cal_command.specs.rules.WorkedArguments.{daily_matches, daily_ask, daily_arguments, help_arguments, none_arguments, options_ask, options_arguments, stray_arguments}

pub daily_taken : takes_arguments daily_arguments ≡ true
unfolding takes_arguments clap_on_literals
daily_taken = refl

pub daily_found : parsed_in daily_arguments ≡ Some daily_matches
unfolding parsed_in verb_matches_in clap_on_literals
daily_found = refl

pub daily_asked : IsAskOf daily_arguments (Ok daily_ask)
unfolding faults_in ask_in parsed_in verb_matches_in read_options clap_on_literals
daily_asked = (refl, refl)

pub options_taken : takes_arguments options_arguments ≡ true
unfolding takes_arguments clap_on_literals
options_taken = refl

pub options_asked : IsAskOf options_arguments (Ok options_ask)
unfolding faults_in ask_in parsed_in verb_matches_in read_options count_in number_between present_in zones_in zone_items_in zone_item_in zone_argument_in is_utc_name is_zone_name clap_on_literals
options_asked = (refl, refl)

pub none_asked : IsAskOf none_arguments (Err bad_iterations)
unfolding faults_in ask_in parsed_in verb_matches_in read_options count_in number_between clap_on_literals
none_asked = (refl, refl)

pub help_asked : (text : List ℕ) → IsAskOf help_arguments (Err (help text))
unfolding takes_arguments faults_in clap_on_literals
help_asked text = (refl, refl)

pub stray_asked : (text : List ℕ) → IsAskOf stray_arguments (Err (usage text))
unfolding takes_arguments faults_in clap_on_literals
stray_asked text = (refl, refl)
