use Rattle.cal_command.proofs.WorkedRows.{daily_asked, daily_found, daily_taken, options_asked, options_taken}
use Rattle.cal_command.proofs.command_laws.worked_arguments_are_taken.Goals as goal

pub returns : goal.returns
returns c = record {
  daily_taken = daily_taken;
  daily_found = daily_found;
  daily_asked = daily_asked;
  options_taken = options_taken;
  options_asked = options_asked;
}
