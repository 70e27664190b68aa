use Rattle.std.proofs.Common.{◌≡◌, drop, false, map}
use Rattle.clap.specs.Words.{app_of}
use Rattle.clap.specs.declared.builder.command.Command.TheViews.{out-Command as fields_of}
use Rattle.cal_options.specs.rules.Arguments.{shown_argument, with_rules}
use Rattle.cal_options.proofs.clap_command.with_arguments.Given as goal

-- adding the remaining options to the command yields the command with all options
abbrev pub invariant-loop-argument : goal.invariant-loop-argument
invariant-loop-argument l = record {
  app : with_rules (app_of l.command) (map shown_argument (drop l.argument-index l.arguments))
      ≡ with_rules (app_of l.fn.command) (map shown_argument l.arguments);
  not_global : (fields_of l.command).has_globals ≡ false;
}
