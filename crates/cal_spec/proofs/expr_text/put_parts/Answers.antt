use Rattle.std.proofs.Common.{◌++◌, [], codes, arith, ap, sym, ◌∙◌}
use Rattle.cal_bytes.proofs.PutLemmas.{put_cut, put_next, put_none, puts_nothing, text_respelled}
use Rattle.cal_spec.specs.rules.ExprText.{part_text, parts_text}
use Rattle.cal_spec.proofs.TextLemmas.{parts_text-none, parts_text-first, part_text-comma}
use Rattle.cal_spec.proofs.expr_text.put_parts.Goals as goal
use Rattle.cal_bytes.proofs.General.{item_first}

pub returns-in_default : goal.returns-in_default
returns-in_default g c = text_respelled (puts_nothing c.requires.works) (sym (parts_text-none c.args.width c.args.parts.now c.in_default.ensures.cases))

pub returns-in_err-put_part : goal.returns-in_err-put_part
returns-in_err-put_part g c =
    put_cut _ (ap (parts_text c.args.width) c.in-Some.ensures.cases.0 ∙ parts_text-first c.args.width c.in-Some.first.now c.in-Some.rest.now)
    c.from_residual.ensures.0 (put_none c.requires.works) c.in_err-put_part.ensures

pub loop-part-init : goal.loop-part-init
loop-part-init g c =
    put_next (ap (parts_text c.args.width) c.in-Some.ensures.cases.0 ∙ parts_text-first c.args.width c.in-Some.first.now c.in-Some.rest.now)
    (put_none c.requires.works) c.in_ok-put_part.ensures

pub returns-in_err-put_part-2 : goal.returns-in_err-put_part-2
returns-in_err-put_part-2 g c =
    put_cut _ (item_first (λ p. codes "," ++ part_text [] c.args.width p) c.loop-part.part-index c.in-Some.rest.now _ (omega arith) (part_text-comma _ _))
    c.from_residual-in_err-put_part-2.ensures.0 c.loop-part.invariant c.in_err-put_part-2.ensures

pub loop-part-preserved : goal.loop-part-preserved
loop-part-preserved g c =
    put_next (item_first (λ p. codes "," ++ part_text [] c.args.width p) c.loop-part.part-index c.in-Some.rest.now _ (omega arith) (part_text-comma _ _))
    c.loop-part.invariant c.in_ok-put_part-2.ensures
