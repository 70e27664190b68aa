use Rattle.std.proofs.Common.{◌≡◌, ◌++◌, Ok}
use Rattle.std.specs.List.{slice_split}
use Rattle.std.specs.Option.{option_copied}
use Rattle.cal_bytes.specs.rules.Separators.{is_comma}
use Rattle.cal_cron.specs.computed.Items.{items_in}
use Rattle.cal_bytes.specs.computed.SplitPieces.{left, pieces_after}
use Rattle.cal_bytes.specs.rules.AndThen.{◌>>=◌}
use Rattle.cal_cron.proofs.fields.read_items.Given as goal

-- parsing the whole text returns the ranges parsed so far and then those of the remaining text, or the error of the
-- remaining text
abbrev pub invariant-loop-rest : goal.invariant-loop-rest
invariant-loop-rest l =
    (items_in l.field l.room (pieces_after is_comma (option_copied l.rest)) >>= λ rs. Ok (l.ranges.items ++ rs)) ≡ items_in l.field l.fn.room (slice_split is_comma l.fn.text)

abbrev pub decreases-loop-rest : goal.decreases-loop-rest
decreases-loop-rest l = left (option_copied l.rest)
