use Rattle.std.proofs.Common.{◌+◌, ◌∙◌, ap, drop, map, sym}
use Rattle.clap.specs.Words.{app_of, with_subcommand}
use Rattle.cal_bytes.proofs.General.{items_end}
use Rattle.cal_options.specs.rules.Arguments.{with_subcommands}
use Rattle.cal_options.proofs.CommandLemmas.{next_mapped}
use Rattle.cal_options.proofs.clap_command.with_subcommands.Goals as goal

pub loop-verb-preserved : goal.loop-verb-preserved
loop-verb-preserved g c =
    let before = app_of c.loop-verb.command in
    let shape = g.V.HasSubcommand.shape in
    let later = map shape (drop (c.loop-verb.verb-index + 1) c.args.verbs.now) in
    ap (λ app. with_subcommands app later) (c.in_ok-command.ensures.shape c.in_ok-build_subcommand.ensures.not_global
    ∙ ap (with_subcommand before) (c.in_ok-build_subcommand.ensures.app ∙ c.subcommand.ensures ∙ ap shape c.verb-item.is))
    ∙ ap (with_subcommands before) (next_mapped shape c.args.verbs.now c.loop-verb.verb-index c.verb-item.result c.loop-verb-test.true) ∙ c.loop-verb.invariant

pub returns : goal.returns
returns g c =
    sym (ap (with_subcommands (app_of c.loop-verb.command)) (items_end g.V.HasSubcommand.shape c.args.verbs.now c.loop-verb.verb-index c.loop-verb-test.false))
    ∙ c.loop-verb.invariant
