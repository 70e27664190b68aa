-- The examples of `WorkedQuestions`, checked by computing the definitions.
use Rattle.std.proofs.Common.{◌≡◌, ◌<◌, ℕ, List, [], ◌∷◌, None, Some, codes, false, inl, inr, length, refl, true}
use Rattle.clap.proofs.OnLiterals.{clap_on_literals}
use Rattle.cal_timers_command.specs.rules.Asked.{IsCommandOf, IsFaultOf, answer_in, between, command_for, count_value, due, faults_in, list, next, now_value, number_value, options_for, parsed_in, question_for, root_value, show, text_value, verb_in, zone_value}
use Rattle.cal_options.specs.rules.ArgumentFault.{help, usage}
use Rattle.cal_options.specs.rules.OptionNumbers.{number_between}
use Rattle.cal_timers_command.specs.rules.OptionValues.{zone_clash}
use Rattle.cal_timers_command.specs.rules.VerbFirst.{asks_due, first_failing, is_value_at, verb_first}
use Rattle.cal_timers_command.proofs.OptionLemmas.{zone_clash_some}
use Rattle.cal_timers_command.specs.rules.WorkedQuestions.{clash_arguments, count_arguments, due_arguments, due_two_arguments, due_unit_arguments, help_arguments, in_utc, plain, range_arguments, show_arguments, target_arguments, utc_arguments}

pub target_first : verb_first target_arguments ≡ codes "list" ∷ codes "backup" ∷ []
unfolding verb_first first_failing is_value_at
target_first = refl

pub count_first : verb_first count_arguments ≡ codes "next" ∷ codes "-n" ∷ codes "3" ∷ codes "daily" ∷ []
unfolding verb_first first_failing is_value_at
count_first = refl

pub none_asked : IsCommandOf [] (plain (list [] false false))
unfolding verb_first first_failing is_value_at faults_in answer_in parsed_in verb_in command_for question_for options_for count_value number_value now_value zone_value text_value root_value clap_on_literals
none_asked = (refl, refl)

pub show_asked : IsCommandOf show_arguments (plain (show (codes "backup" ∷ []) 5))
unfolding verb_first first_failing is_value_at faults_in answer_in parsed_in verb_in command_for question_for options_for count_value number_value now_value zone_value text_value root_value clap_on_literals
show_asked = (refl, refl)

pub target_asked : IsCommandOf target_arguments (plain (list (codes "backup" ∷ []) false false))
unfolding verb_first first_failing is_value_at faults_in answer_in parsed_in verb_in command_for question_for options_for count_value number_value now_value zone_value text_value root_value clap_on_literals
target_asked = (refl, refl)

pub utc_asked : IsCommandOf utc_arguments (in_utc (list [] false false))
unfolding verb_first first_failing is_value_at faults_in answer_in parsed_in verb_in command_for question_for options_for count_value number_value now_value zone_value text_value root_value clap_on_literals
utc_asked = (refl, refl)

pub count_asked : IsCommandOf count_arguments (plain (next (codes "daily" ∷ []) 3))
unfolding verb_first first_failing is_value_at faults_in answer_in parsed_in verb_in command_for question_for options_for count_value number_value now_value zone_value text_value root_value number_between clap_on_literals
count_asked = (refl, refl)

pub range_asked : IsCommandOf range_arguments (plain (between (codes "-5") (codes "now") [] false false))
unfolding verb_first first_failing is_value_at faults_in answer_in parsed_in verb_in command_for question_for options_for count_value number_value now_value zone_value text_value root_value clap_on_literals
range_asked = (refl, refl)

pub due_asked : IsCommandOf due_arguments (plain (due None))
unfolding verb_first first_failing is_value_at faults_in answer_in parsed_in verb_in command_for question_for options_for count_value number_value now_value zone_value text_value root_value clap_on_literals
due_asked = (refl, refl)

pub due_unit_asked : IsCommandOf due_unit_arguments (in_utc (due (Some (codes "backup"))))
unfolding verb_first first_failing is_value_at faults_in answer_in parsed_in verb_in command_for question_for options_for count_value number_value now_value zone_value text_value root_value clap_on_literals
due_unit_asked = (refl, refl)

pub due_two_asked : (text : List ℕ) → 0 < length text → IsFaultOf due_two_arguments (usage text)
unfolding verb_first first_failing is_value_at faults_in clap_on_literals
due_two_asked text some = inl ((refl, refl), some)

pub due_unit_asks_due : asks_due due_unit_arguments ≡ true
unfolding asks_due first_failing is_value_at
due_unit_asks_due = refl

pub target_asks_other : asks_due target_arguments ≡ false
unfolding asks_due first_failing is_value_at
target_asks_other = refl

pub clash_asked : IsFaultOf clash_arguments (usage (zone_clash false))
unfolding verb_first first_failing is_value_at faults_in answer_in parsed_in verb_in command_for question_for options_for clap_on_literals
clash_asked = inr ((refl, refl), zone_clash_some false)

pub help_asked : (text : List ℕ) → 0 < length text → IsFaultOf help_arguments (help text)
unfolding verb_first first_failing is_value_at faults_in clap_on_literals
help_asked text some = ((refl, refl), some)
