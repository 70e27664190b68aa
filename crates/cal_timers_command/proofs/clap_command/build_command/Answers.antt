use Rattle.std.proofs.Common.{◌∙◌, ap, map, true}
use Rattle.std.proofs.lemmas.Result.{IfOk-weaker}
use Rattle.clap.specs.Simple.{app_of_fields, on_top}
use Rattle.clap.specs.Words.{App}
use Rattle.cal_timers_command.specs.rules.Verbs.{all_verbs}
use Rattle.cal_options.specs.rules.Arguments.{with_rules, with_subcommands}
use Rattle.cal_timers_command.specs.rules.CommandLine.{shared_rules, verb_shape}
use Rattle.cal_timers_command.proofs.clap_command.build_command.Goals as goal

pub returns : goal.returns
returns c =
    let required : App → App = λ app. on_top (λ s. record s { subcommand_required = true }) app in
    let nameless : App → App = λ app. on_top (λ s. record s { no_binary_name = true }) app in
    let versioned : App → App = λ app. on_top (λ s. record s { has_version = true }) app in
    let top = ap app_of_fields c.in_ok-program.ensures.0 ∙ ap app_of_fields c.subcommand_required.ensures
    ∙ ap required (ap app_of_fields c.no_binary_name.ensures
    ∙ ap nameless (ap app_of_fields c.subcommand_help_heading.ensures ∙ ap app_of_fields c.after_help.ensures
    ∙ ap app_of_fields c.override_usage.ensures ∙ ap app_of_fields c.about.ensures ∙ ap app_of_fields c.version.ensures
    ∙ ap versioned c.new.ensures.app)) in
    let described = c.in_ok-described.ensures.app ∙ ap (λ app. with_rules app shared_rules) top in
    IfOk-weaker c.with_subcommands.result _ _ (λ command is. is ∙ ap (λ app. with_subcommands app (map verb_shape all_verbs)) described) c.with_subcommands.ensures
