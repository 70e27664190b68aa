use Rattle.cal_command.proofs.CommandLineLemmas.{parsed_texts}
use Rattle.cal_command.proofs.command_laws.parsed_arguments_have_texts.Goals as goal

pub returns : goal.returns
returns c = parsed_texts
