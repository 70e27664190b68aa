use Rattle.cal_command.proofs.WorkedRows.{daily_taken}
use Rattle.cal_work.proofs.WorkedRows.{bare_fits, bare_fixed}
use Rattle.cal_work.proofs.work_laws.bare_systems_decide.Goals as goal

pub returns : goal.returns
returns c = record { all = bare_fixed; taken = daily_taken; fits = bare_fits }
