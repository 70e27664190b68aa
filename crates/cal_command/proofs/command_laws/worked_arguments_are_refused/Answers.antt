use Rattle.cal_command.proofs.WorkedRows.{help_asked, none_asked, stray_asked}
use Rattle.cal_command.proofs.command_laws.worked_arguments_are_refused.Goals as goal

pub returns : goal.returns
returns c = record { none = none_asked; help = help_asked; stray = stray_asked }
