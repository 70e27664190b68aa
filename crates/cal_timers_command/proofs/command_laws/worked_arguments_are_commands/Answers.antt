use Rattle.cal_timers_command.proofs.WorkedRows.{count_asked, due_asked, due_unit_asked, none_asked, range_asked, show_asked, target_asked, utc_asked}
use Rattle.cal_timers_command.proofs.command_laws.worked_arguments_are_commands.Goals as goal

pub returns : goal.returns
returns c = record {
  none = none_asked;
  show = show_asked;
  target = target_asked;
  utc = utc_asked;
  count = count_asked;
  range = range_asked;
  due = due_asked;
  due_unit = due_unit_asked;
}
