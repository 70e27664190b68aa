use Rattle.std.proofs.Common.{rules, Some, ap, ◌∙◌}
use Rattle.std.specs.Option.{option_copied}
use Rattle.cal_bytes.specs.computed.SplitPieces.{pieces_after}
use Rattle.cal_bytes.specs.rules.Separators.{is_comma}
use Rattle.cal_command.proofs.OptionLemmas.{zones-bad, zones-end, zones-full, zones-pushed}
use Rattle.cal_command.proofs.option_values.zones_in.Goals as goal

pub returns-in_default-zone_item_in : goal.returns-in_default-zone_item_in
returns-in_default-zone_item_in c =
    zones-bad c.args.text.now _ _ _ _ _ c.loop-rest.invariant (ap (λ r. pieces_after is_comma (option_copied r)) c.in-Some.is ∙ c.first_item.ensures.items)
    (rw c.in_default-zone_item_in.is at c.zone_item_in.ensures)

pub returns-then-len-eq-MAX_ZONES : goal.returns-then-len-eq-MAX_ZONES
returns-then-len-eq-MAX_ZONES c =
    zones-full c.args.text.now _ _ _ _ _ c.loop-rest.invariant (ap (λ r. pieces_after is_comma (option_copied r)) c.in-Some.is ∙ c.first_item.ensures.items)
    (search rules)

pub loop-rest-preserved : goal.loop-rest-preserved
loop-rest-preserved c =
    zones-pushed c.args.text.now _ _ _ _ _ c.in_ok-zone_item.field-0 _ _ c.loop-rest.invariant (ap (λ r. pieces_after is_comma (option_copied r)) c.in-Some.is ∙ c.first_item.ensures.items)
    (ap Some c.in_ok-zone_item.ensures ∙ (rw c.in-Some-zone_item_in.is at c.zone_item_in.ensures)) (search rules) (search rules) (search rules)

pub returns : goal.returns
returns c = zones-end c.args.text.now _ _ _ c.loop-rest.invariant (ap (λ r. pieces_after is_comma (option_copied r)) c.in_default.is)
