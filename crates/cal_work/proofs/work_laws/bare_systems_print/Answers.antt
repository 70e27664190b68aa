use Rattle.std.proofs.Common.{refl}
use Rattle.cal_command.proofs.WorkedRows.{daily_asked}
use Rattle.cal_work.proofs.WorkedRows.{daily_is_printed, daily_works}
use Rattle.cal_work.proofs.work_laws.bare_systems_print.Goals as goal

pub returns : goal.returns
returns c = record { asked = (daily_asked, refl); works = λ is_unread. (_, daily_works is_unread); printed = daily_is_printed }
