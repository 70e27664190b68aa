use Rattle.std.proofs.Common.{◌∙◌, ap, map, subst, sym}
use Rattle.std.specs.Prelude.{IsSomeAnd}
use Rattle.clap.specs.Words.{fault_of, is_simple_and_free, subcommand_of}
use Rattle.cal_options.specs.rules.ArgumentFault as refusals
use Rattle.cal_command.specs.rules.CommandLine.{faults_in, parsed_in}
use Rattle.cal_command.specs.rules.VerbMatches.{HasTexts, verb_matches_in}
use Rattle.cal_command.proofs.CommandLineLemmas.{is_free_command, parsed_texts, refused_fault}
use Rattle.cal_command.proofs.command_line.parse.Goals as goal

pub parse-requires : goal.parse-requires
parse-requires g c = ap is_simple_and_free c.in_ok-build_command.ensures ∙ is_free_command

pub returns-in-Ok-clause-faults : goal.returns-in-Ok-clause-faults
unfolding faults_in
returns-in-Ok-clause-faults g c =
    sym (ap (λ app. fault_of app (map g.S.AsStr.text c.args.arguments.now)) c.in_ok-build_command.ensures) ∙ c.in-Ok.ensures.faults

pub returns-in-Ok-clause-found : goal.returns-in-Ok-clause-found
unfolding parsed_in
returns-in-Ok-clause-found g c =
    ap verb_matches_in (c.in-Ok.ensures.found ∙ ap (λ app. subcommand_of app (map g.S.AsStr.text c.args.arguments.now)) c.in_ok-build_command.ensures)

pub returns-in-Ok-clause-texts : goal.returns-in-Ok-clause-texts
unfolding faults_in parsed_in
returns-in-Ok-clause-texts g c =
    let arguments = map g.S.AsStr.text c.args.arguments.now in
    subst (λ found. IsSomeAnd found HasTexts)
    (sym (ap verb_matches_in (c.in-Ok.ensures.found ∙ ap (λ app. subcommand_of app arguments) c.in_ok-build_command.ensures)))
    (parsed_texts arguments (sym (ap (λ app. fault_of app arguments) c.in_ok-build_command.ensures) ∙ c.in-Ok.ensures.faults))

pub returns-in-Err-clause-fault : goal.returns-in-Err-clause-fault
returns-in-Err-clause-fault g c =
    rw c.reported_fault.ensures (refused_fault (map g.S.AsStr.text c.args.arguments.now) (refusals.shown_fault c.in-Err.fault) (rw c.in_ok-build_command.ensures at c.in-Err.ensures.refusal))
