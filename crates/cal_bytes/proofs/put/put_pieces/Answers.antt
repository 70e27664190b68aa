use Rattle.std.proofs.Common.{refl, arith}
use Rattle.cal_bytes.proofs.PutLemmas.{put_cut, put_next}
use Rattle.cal_bytes.proofs.put.put_pieces.Goals as goal
use Rattle.cal_bytes.proofs.General.{item_first}

pub loop-piece-preserved : goal.loop-piece-preserved
loop-piece-preserved g c =
    put_next (item_first (λ piece. piece.now) c.loop-piece.piece-index c.args.pieces.now _ (omega arith) refl) c.loop-piece.invariant c.in_ok-put_all.ensures

pub returns-in_err-put_all : goal.returns-in_err-put_all
returns-in_err-put_all g c =
    put_cut _ (item_first (λ piece. piece.now) c.loop-piece.piece-index c.args.pieces.now _ (omega arith) refl) c.from_residual.ensures.0 c.loop-piece.invariant c.in_err-put_all.ensures
