use Rattle.std.proofs.Common.{◌≡◌, ◌∙◌, Err, ap, map, rules}
use Rattle.std.proofs.lemmas.Result.{IfOk-weaker}
use Rattle.clap.specs.Words.{found_of, rows_of, subcommand_rows_of}
use Rattle.cal_timers_command.specs.rules.Asked.{shown_command}
use Rattle.cal_timers_command.specs.rules.Texts.{texts_of}
use Rattle.cal_timers_command.proofs.AskedLemmas.{if_err_weaker, read_command, read_fault, refused_fault}
use Rattle.cal_timers_command.proofs.question.Command.of.Goals as goal

pub returns-in_err-matches-clause-fault : goal.returns-in_err-matches-clause-fault
returns-in_err-matches-clause-fault g c =
    let same : c.from_residual-in_err-matches.result ≡ Err c.in_err-matches.field-0.0 = search rules in
    rw same (refused_fault (map g.S.AsStr.text c.args.arguments.now) (texts_of c.as_slice.result.now) c.in_err-matches.field-0.0
    (ap texts_of c.as_slice.ensures.value ∙ c.in_ok-texts.ensures) c.in_err-matches.ensures.fault)

pub returns-clause-command : goal.returns-clause-command
returns-clause-command g c =
    IfOk-weaker c.command_of.result _ _ (λ command is.
    read_command (map g.S.AsStr.text c.args.arguments.now) (texts_of c.as_slice.result.now) (subcommand_rows_of c.in_ok-matches.matches)
    c.verb_of-verb.result.0 (rows_of (found_of c.verb_of-verb.result.1.now)) (shown_command command)
    (ap texts_of c.as_slice.ensures.value ∙ c.in_ok-texts.ensures) c.in_ok-matches.ensures.faults c.in_ok-matches.ensures.found c.verb_of-verb.ensures.found is) c.command_of.ensures.command

pub returns-clause-fault : goal.returns-clause-fault
returns-clause-fault g c =
    if_err_weaker c.command_of.result _ _ (λ fault is.
    read_fault (map g.S.AsStr.text c.args.arguments.now) (texts_of c.as_slice.result.now) (subcommand_rows_of c.in_ok-matches.matches)
    c.verb_of-verb.result.0 (rows_of (found_of c.verb_of-verb.result.1.now)) fault
    (ap texts_of c.as_slice.ensures.value ∙ c.in_ok-texts.ensures) c.in_ok-matches.ensures.faults c.in_ok-matches.ensures.found c.verb_of-verb.ensures.found is) c.command_of.ensures.fault
