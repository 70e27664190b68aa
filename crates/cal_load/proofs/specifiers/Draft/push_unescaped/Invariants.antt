use Rattle.std.proofs.Common.{◌≡◌, map}
use Rattle.std.specs.List.{slice_split}
use Rattle.std.specs.Option.{option_copied}
use Rattle.cal_bytes.specs.computed.SplitPieces.{left, pieces_after}
use Rattle.cal_load.specs.rules.Specifiers.{after_backslash, all_joined, is_backslash, joined, shown_draft, unescaped_pieces}
use Rattle.cal_load.proofs.specifiers.Draft.push_unescaped.Given as goal

-- what the pieces so far and the remaining pieces stand for, joined, is what all pieces stand for
abbrev pub invariant-loop-rest : goal.invariant-loop-rest
invariant-loop-rest l =
    joined (shown_draft l.self) (all_joined (map after_backslash (pieces_after is_backslash (option_copied l.rest))))
    ≡ joined (shown_draft l.fn.self) (unescaped_pieces (slice_split is_backslash l.text))

abbrev pub decreases-loop-rest : goal.decreases-loop-rest
decreases-loop-rest l = left (option_copied l.rest)
