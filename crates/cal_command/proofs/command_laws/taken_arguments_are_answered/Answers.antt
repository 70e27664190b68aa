use Rattle.cal_command.proofs.CommandLineLemmas.{taken_arguments}
use Rattle.cal_command.proofs.command_laws.taken_arguments_are_answered.Goals as goal

pub returns : goal.returns
returns c = taken_arguments
