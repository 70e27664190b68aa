use Rattle.cal_timers_command.proofs.WorkedRows.{clash_asked, due_two_asked, help_asked}
use Rattle.cal_timers_command.proofs.command_laws.worked_arguments_are_refused.Goals as goal

pub returns : goal.returns
returns c = record { clash = clash_asked; help = help_asked; two = due_two_asked }
