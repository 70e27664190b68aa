use Rattle.std.proofs.Common.{◌+◌, ◌∙◌, ap, drop, map, rules}
use Rattle.cal_options.specs.rules.Arguments.{shown_argument, with_rules}
use Rattle.clap.specs.Words.{app_of, with_rule}
use Rattle.cal_bytes.proofs.General.{items_end}
use Rattle.cal_options.proofs.CommandLemmas.{next_mapped, with_rule-rules, with_rules-none}
use Rattle.cal_options.proofs.clap_command.with_arguments.Goals as goal

pub loop-argument-preserved : goal.loop-argument-preserved
loop-argument-preserved c =
    let before = app_of c.loop-argument.command in
    let later = map shown_argument (drop (c.loop-argument.argument-index + 1) c.args.arguments.now) in
    record {
      app = ap (λ app. with_rules app later) (c.in_ok-command.ensures.shape c.build_argument.ensures.not_global ∙ ap (with_rule before) c.build_argument.ensures.rule)
          ∙ with_rule-rules before _ later ∙ ap (with_rules before) (next_mapped shown_argument c.args.arguments.now c.loop-argument.argument-index _ c.loop-argument-test.true)
          ∙ c.loop-argument.invariant.app;
      not_global = search rules;
    }

pub returns-clause-app : goal.returns-clause-app
returns-clause-app c =
    rw (← with_rules-none (app_of c.loop-argument.command), ← items_end shown_argument c.args.arguments.now c.loop-argument.argument-index c.loop-argument-test.false) c.loop-argument.invariant.app
