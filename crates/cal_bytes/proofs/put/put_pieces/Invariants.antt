-- No call has failed, and the pieces from the loop's index on are still to be written.
use Rattle.std.proofs.Common.{drop}
use Rattle.std.specs.List.{flat_map}
use Rattle.cal_bytes.proofs.PutLemmas.{PutsUpTo}
use Rattle.cal_bytes.proofs.put.put_pieces.Given as goal

abbrev pub invariant-loop-piece : goal.invariant-loop-piece
invariant-loop-piece g l = PutsUpTo g.W.Sink l.fn.out l.out (flat_map (λ piece. piece.now) (drop l.piece-index l.pieces)) (flat_map (λ piece. piece.now) l.fn.pieces)
