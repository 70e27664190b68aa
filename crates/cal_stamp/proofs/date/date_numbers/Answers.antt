use Rattle.cal_stamp.proofs.StampLemmas.{no_date}
use Rattle.cal_stamp.proofs.date.date_numbers.Goals as goal

pub returns-in-Some : goal.returns-in-Some
returns-in-Some c =
    no_date c.args.word.now _ _ _ c.in_ok-after.field-0.now c.in_ok-after-2.field-0.now c.in-Some.field-0.now (rw c.in_ok-after.was at c.first_piece.ensures.pieces) (rw c.in_ok-after-2.was at c.first_piece-2.ensures.pieces) (rw c.in-Some.is at c.first_piece-3.ensures.pieces)
