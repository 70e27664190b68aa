use Rattle.cal_stamp.proofs.StampFaults.{written_date}
use Rattle.cal_stamp.proofs.laws.only_written_dates_are_none.Goals as goal

pub returns : goal.returns
returns c = written_date
