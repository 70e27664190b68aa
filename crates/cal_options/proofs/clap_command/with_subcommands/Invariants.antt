use Rattle.std.proofs.Common.{◌≡◌, drop, map}
use Rattle.clap.specs.Words.{app_of}
use Rattle.cal_options.specs.rules.Arguments.{with_subcommands}
use Rattle.cal_options.proofs.clap_command.with_subcommands.Given as goal

-- adding the subcommands of the remaining verbs to the command yields the command with all subcommands
abbrev pub invariant-loop-verb : goal.invariant-loop-verb
invariant-loop-verb g l =
    with_subcommands (app_of l.command) (map g.V.HasSubcommand.shape (drop l.verb-index l.verbs))
    ≡ with_subcommands (app_of l.fn.command) (map g.V.HasSubcommand.shape l.verbs)
