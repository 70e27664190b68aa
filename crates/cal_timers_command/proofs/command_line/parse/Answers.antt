use Rattle.std.proofs.Common.{◌∙◌, ap, subst, sym}
use Rattle.std.proofs.lemmas.Result.{IfOk-weaker}
use Rattle.clap.specs.Words.{fault_of, is_simple_and_free, subcommand_of}
use Rattle.cal_options.specs.rules.ArgumentFault.{IsRefusalOf, shown_fault}
use Rattle.cal_timers_command.specs.rules.Texts.{texts_of}
use Rattle.cal_timers_command.proofs.AskedLemmas.{if_err_weaker, if_ok_both}
use Rattle.cal_timers_command.proofs.CommandLemmas.{is_free_command, parsed_verb}
use Rattle.cal_timers_command.specs.rules.Asked.{HasNeeded, verb_in}
use Rattle.std.specs.Prelude.{IsSomeAnd}
use Rattle.cal_timers_command.proofs.command_line.parse.Goals as goal

pub parse-requires : goal.parse-requires
parse-requires c = ap is_simple_and_free c.in_ok-build_command.ensures ∙ is_free_command

pub returns-clause-faults : goal.returns-clause-faults
returns-clause-faults c =
    IfOk-weaker c.parse.result _ _ (λ _ is. sym (ap (λ app. fault_of app (texts_of c.args.arguments.now)) c.in_ok-build_command.ensures) ∙ is) c.parse.ensures.faults

pub returns-clause-found : goal.returns-clause-found
returns-clause-found c =
    IfOk-weaker c.parse.result _ _ (λ _ is. is ∙ ap (λ app. subcommand_of app (texts_of c.args.arguments.now)) c.in_ok-build_command.ensures) c.parse.ensures.found

pub returns-clause-needed : goal.returns-clause-needed
returns-clause-needed c =
    let arguments = texts_of c.args.arguments.now in
    if_ok_both c.parse.result _ _ (λ matches faults found.
    subst (λ found. IsSomeAnd (verb_in found) (λ found. HasNeeded found.0 found.1)) (sym (found ∙ ap (λ app. subcommand_of app arguments) c.in_ok-build_command.ensures))
    (parsed_verb arguments (sym (ap (λ app. fault_of app arguments) c.in_ok-build_command.ensures) ∙ faults))) c.parse.ensures.faults c.parse.ensures.found

pub returns-clause-fault : goal.returns-clause-fault
returns-clause-fault c =
    if_err_weaker c.parse.result _ _ (λ fault is. subst (λ app. IsRefusalOf app (texts_of c.args.arguments.now) (shown_fault fault)) c.in_ok-build_command.ensures is) c.parse.ensures.refusal
