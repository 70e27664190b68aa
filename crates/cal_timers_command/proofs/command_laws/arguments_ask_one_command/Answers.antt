use Rattle.cal_timers_command.proofs.AskedLemmas.{command_or_fault, one_command}
use Rattle.cal_timers_command.proofs.command_laws.arguments_ask_one_command.Goals as goal

pub returns : goal.returns
returns c = record { command = one_command; fault = command_or_fault }
