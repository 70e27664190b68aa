use Rattle.cal_timers_command.proofs.AskedLemmas.{parsed_complete}
use Rattle.cal_timers_command.proofs.command_laws.parsed_arguments_are_complete.Goals as goal

pub returns : goal.returns
returns c = parsed_complete
