use Rattle.std.proofs.Common.{◌∙◌}
use Rattle.std.proofs.lemmas.List.Filters.{dedup_is}
use Rattle.cal_spec.specs.computed.NormalParts.{part_eq}
use Rattle.cal_spec.specs.rules.NormalForm.{part_cmp}
use Rattle.cal_spec.proofs.NormalLemmas.{sorted_deduped}
use Rattle.cal_spec.proofs.normal_form.normal_parts.Goals as goal

pub returns : goal.returns
unfolding part_cmp
returns c =
    dedup_is part_eq _ _ c.dedup.ensures.filtered
    ∙ sorted_deduped c.args.parts.items _ (rw c.reduce_each.ensures at c.sort_unstable.ensures.permutation) c.sort_unstable.ensures.sorted
