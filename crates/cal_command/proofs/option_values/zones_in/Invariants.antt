use Rattle.std.proofs.Common.{map, vec_len}
use Rattle.std.specs.Option.{option_copied}
use Rattle.cal_bytes.specs.computed.SplitPieces.{left, pieces_after}
use Rattle.cal_command.specs.rules.Ask.{shown_item}
use Rattle.cal_bytes.specs.rules.Separators.{is_comma}
use Rattle.cal_command.proofs.OptionLemmas.{ZonesRead}
use Rattle.cal_command.proofs.option_values.zones_in.Given as goal

-- the items collected so far and the items still to be parsed are together the items of the text
abbrev pub invariant-loop-rest : goal.invariant-loop-rest
invariant-loop-rest l = ZonesRead (map shown_item l.items.items) (vec_len l.items) (pieces_after is_comma (option_copied l.rest)) l.fn.text

abbrev pub decreases-loop-rest : goal.decreases-loop-rest
decreases-loop-rest l = left (option_copied l.rest)
