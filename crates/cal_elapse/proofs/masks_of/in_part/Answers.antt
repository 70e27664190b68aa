use Rattle.std.proofs.Common.{◌≡◌, ◌&&◌, ◌+◌, ◌-◌, min, Some, None, nat_le, nat_lt, sym, ◌∙◌}
use Rattle.cal_elapse.specs.computed.Masks.{last_number}
use Rattle.cal_elapse.proofs.PartLemmas.{part_in_slot_values}
use Rattle.cal_elapse.proofs.masks_of.in_part.Goals as goal
use Rattle.cal_bytes.proofs.General.{and_true}

pub returns-in-Some : goal.returns-in-Some
returns-in-Some c = λ slot w i.
    let low : c.from-low.result ≡ c.args.part.start - c.args.first = cc in
    let high : c.min-high.result ≡ min (last_number c.args.part.start c.args.part.end c.args.part.step + 1 - c.args.first) c.args.count = cc in
    c.steps.ensures i
    ∙ part_in_slot_values slot c.args.part (Some c.in-Some.step) c.args.first c.args.count c.from-low.result c.min-high.result i w c.in-Some.is low high

pub returns-in-None : goal.returns-in-None
returns-in-None c = λ slot w i.
    let low : c.from-low.result ≡ c.args.part.start - c.args.first = cc in
    let high : c.min-high.result ≡ min (last_number c.args.part.start c.args.part.end c.args.part.step + 1 - c.args.first) c.args.count = cc in
    c.bits_between.ensures i
    ∙ (sym (and_true (nat_le c.from-low.result i && nat_lt i c.min-high.result))
    ∙ part_in_slot_values slot c.args.part None c.args.first c.args.count c.from-low.result c.min-high.result i w c.in-None.is low high)
