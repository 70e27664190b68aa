-- `rest` are the parts after the first part. The writer hasn't failed. What is still to be written is a comma and the
-- text of the part for each part of `rest` from the loop's index on.
use Rattle.std.proofs.Common.{[], ◌++◌, drop, codes}
use Rattle.std.specs.List.{flat_map}
use Rattle.cal_bytes.proofs.PutLemmas.{PutsUpTo}
use Rattle.cal_spec.specs.rules.ExprText.{part_text, parts_text}
use Rattle.cal_spec.proofs.expr_text.put_parts.Given as goal

abbrev pub invariant-loop-part : goal.invariant-loop-part
invariant-loop-part g l =
    PutsUpTo g.W.Sink l.fn.out l.out (flat_map (λ p. codes "," ++ part_text [] l.width p) (drop l.part-index l.rest)) (parts_text l.width l.fn.parts)
