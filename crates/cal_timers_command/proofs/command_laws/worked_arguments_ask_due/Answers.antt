use Rattle.cal_timers_command.proofs.WorkedRows.{due_unit_asks_due, target_asks_other}
use Rattle.cal_timers_command.proofs.command_laws.worked_arguments_ask_due.Goals as goal

pub returns : goal.returns
returns c = record { due = due_unit_asks_due; other = target_asks_other }
