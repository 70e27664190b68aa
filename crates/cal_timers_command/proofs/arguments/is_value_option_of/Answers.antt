use Rattle.std.proofs.Common.{◌∙◌, ap}
use Rattle.std.specs.List.{list_any}
use Rattle.cal_options.specs.rules.Arguments.{is_value_option, shown_argument}
use Rattle.cal_options.proofs.ValueLemmas.{any_mapped}
use Rattle.cal_timers_command.proofs.arguments.is_value_option_of.Goals as goal

pub returns : goal.returns
returns c =
    c.needs_value.ensures ∙ any_mapped (is_value_option c.args.argument.now) shown_argument c.arguments_of.result.now
    ∙ ap (list_any (is_value_option c.args.argument.now)) c.arguments_of.ensures
