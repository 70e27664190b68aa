use Rattle.cal_stamp.proofs.StampLemmas.{no_time}
use Rattle.cal_stamp.proofs.time.time_numbers.Goals as goal

pub returns-in-Some-after-clause-value : goal.returns-in-Some-after-clause-value
returns-in-Some-after-clause-value c =
    no_time c.args.word.now _ _ _ c.in_ok-after.field-0.now c.in-Some.after.now c.in-Some-after.field-0.now (rw c.in_ok-after.was at c.first_piece.ensures.pieces) (rw c.in-Some.is at c.first_piece-2.ensures.pieces) (rw c.in-Some-after.is at c.first_piece-3.ensures.pieces)
