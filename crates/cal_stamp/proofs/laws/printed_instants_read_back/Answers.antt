use Rattle.cal_stamp.proofs.StampPrintedLemmas.{reads_as_none, reads_back, reads_back_utc, seconds_are_unread}
use Rattle.cal_stamp.proofs.laws.printed_instants_read_back.Goals as goal

pub returns-clause-back : goal.returns-clause-back
returns-clause-back c = reads_back

pub returns-clause-utc : goal.returns-clause-utc
returns-clause-utc c = reads_back_utc

pub returns-clause-seconds : goal.returns-clause-seconds
returns-clause-seconds c = seconds_are_unread

pub returns-clause-none : goal.returns-clause-none
returns-clause-none c = reads_as_none
