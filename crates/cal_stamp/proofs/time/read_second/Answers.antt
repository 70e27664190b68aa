use Rattle.cal_stamp.proofs.StampLemmas.{no_second}
use Rattle.cal_stamp.proofs.time.read_second.Goals as goal

pub returns-in-Some-after-clause-value : goal.returns-in-Some-after-clause-value
returns-in-Some-after-clause-value c =
    no_second c.args.word.now _ _ c.in-Some.after.now c.in-Some-after.field-0.now (rw c.in-Some.is at c.first_piece.ensures.pieces) (rw c.in-Some-after.is at c.first_piece-2.ensures.pieces)
