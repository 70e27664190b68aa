use Rattle.cal_stamp.proofs.StampCounted.{counted_back}
use Rattle.cal_stamp.proofs.laws.counted_seconds_read_back.Goals as goal

pub returns : goal.returns
returns c = counted_back
