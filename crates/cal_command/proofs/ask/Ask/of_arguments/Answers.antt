use Rattle.std.proofs.Common.{◌∙◌, map}
use Rattle.cal_command.specs.rules.Ask.{shown_answer}
use Rattle.cal_command.specs.rules.VerbMatches.{shown_matches}
use Rattle.cal_command.proofs.CommandLineLemmas.{read_answer}
use Rattle.cal_command.proofs.ask.Ask.of_arguments.Goals as goal

pub returns : goal.returns
returns g c = record {
  exact = read_answer (map g.S.AsStr.text c.args.arguments.now) (shown_matches c.of.result) (shown_answer c.read_options.result) c.in_ok-matches.ensures.faults
      (c.of.ensures ∙ c.in_ok-matches.ensures.found) c.read_options.ensures;
}
