use Rattle.std.proofs.Common.{◌≡◌, ◌==◌}
use Rattle.std.specs.List.{list_any, slice_split}
use Rattle.std.specs.Option.{option_copied}
use Rattle.cal_bytes.specs.computed.SplitPieces.{left, pieces_after}
use Rattle.cal_lint.specs.rules.Systemd252.{piece_is_rejected_for}
use Rattle.cal_lint.proofs.older_systemd.any_piece.Given as goal

-- no piece so far makes systemd 252 reject the expression, so one of the remaining pieces does if and only if one of
-- all pieces does
abbrev pub invariant-loop-rest : goal.invariant-loop-rest
invariant-loop-rest l =
    list_any (piece_is_rejected_for l.rejection) (pieces_after (λ byte. byte == l.separator) (option_copied l.rest))
    ≡ list_any (piece_is_rejected_for l.rejection) (slice_split (λ byte. byte == l.separator) l.text)

abbrev pub decreases-loop-rest : goal.decreases-loop-rest
decreases-loop-rest l = left (option_copied l.rest)
