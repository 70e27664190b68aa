use Rattle.std.proofs.Common.{◌&&◌, ◌+◌, Bool, List, Option, nat_lt, sym, ap, ◌∙◌}
use Rattle.cal_elapse.specs.computed.Masks.{slot_of}
use Rattle.cal_elapse.proofs.PartLemmas.{members_by, whole_slot_values}
use Rattle.cal_spec.specs.rules.Members.{component_has}
use Rattle.cal_spec.specs.declared.field.Part.{Part}
use Rattle.cal_elapse.proofs.masks_of.members.Goals as goal

pub returns-in-Some : goal.returns-in-Some
returns-in-Some c = λ i.
    let e = c.args.expr.now in
    let slot = slot_of c.args.field e.from_end in
    let v = c.args.first + i in
    c.in_parts.ensures slot c.requires.values i
    ∙ ap (λ (b : Bool). nat_lt i c.args.count && b)
    (ap (λ (parts : Option (List Part)). component_has slot parts v) c.in-Some.ensures.parts ∙ sym (members_by c.args.field e v))

pub returns-in-None : goal.returns-in-None
returns-in-None c = λ i.
    c.bits_between.ensures i ∙ whole_slot_values c.args.field c.args.expr.now c.args.first c.args.count i c.requires.values c.in-None.ensures.parts
