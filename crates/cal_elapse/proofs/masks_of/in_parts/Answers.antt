use Rattle.std.proofs.Common.{◌&&◌, ◌+◌, List, nat_lt, sym, ap, ◌∙◌, arith, Bool, false, ◌≡◌}
use Rattle.std.specs.List.{list_any}
use Rattle.std.proofs.lemmas.List.{take_all}
use Rattle.cal_elapse.specs.computed.Bits.{is_bit}
use Rattle.cal_elapse.proofs.BitLemmas.{is_bit-none, is_bit-or}
use Rattle.cal_elapse.proofs.PartLemmas.{parts_more}
use Rattle.cal_spec.specs.rules.Members.{part_has}
use Rattle.cal_spec.specs.declared.field.Part.{Part}
use Rattle.cal_elapse.proofs.masks_of.in_parts.Goals as goal

and_none : (x : Bool) → (x && false) ≡ false
and_none x = grind arith

pub loop-part-init : goal.loop-part-init
loop-part-init c = λ slot w i. is_bit-none i ∙ sym (and_none (nat_lt i c.args.count))

pub loop-part-preserved : goal.loop-part-preserved
loop-part-preserved c = λ slot w i.
    search
    (is_bit-or c.loop-part.mask c.in_part-mask.result i
    ∙ parts_more (λ part. part_has slot part (c.args.first + i)) c.args.parts.now c.loop-part.part-index (nat_lt i c.args.count)
    (is_bit c.loop-part.mask i) (is_bit c.in_part-mask.result i) c.loop-part-test.true (c.loop-part.invariant slot w i)
    (c.in_part-mask.ensures slot w i))

pub returns : goal.returns
returns c = λ slot w i.
    c.loop-part.invariant slot w i
    ∙ ap (λ (parts : List Part). nat_lt i c.args.count && list_any (λ part. part_has slot part (c.args.first + i)) parts)
    (take_all c.loop-part.part-index c.args.parts.now (omega arith))
