use Rattle.std.proofs.Common.{◌≡◌, ◌++◌, Ok}
use Rattle.std.specs.List.{slice_split}
use Rattle.std.specs.Option.{option_copied}
use Rattle.cal_bytes.specs.rules.Separators.{is_comma}
use Rattle.cal_bytes.specs.computed.SplitPieces.{left, pieces_after}
use Rattle.cal_bytes.specs.rules.AndThen.{◌>>=◌}
use Rattle.cal_spec.specs.computed.WeekdayLists.{items_of}
use Rattle.cal_spec.proofs.weekdays.read_items.Given as goal

-- parsing the whole text returns the items parsed so far and then the items of the remaining text, or the error of the
-- remaining text
abbrev pub invariant-loop-rest : goal.invariant-loop-rest
invariant-loop-rest l =
    (items_of (pieces_after is_comma (option_copied l.rest)) >>= λ items. Ok (l.items.items ++ items)) ≡ items_of (slice_split is_comma l.fn.list)

abbrev pub decreases-loop-rest : goal.decreases-loop-rest
decreases-loop-rest l = left (option_copied l.rest)
