use Rattle.cal_unit_index.proofs.FolderLemmas.{base_fits, base_is_boundary}
use Rattle.cal_unit_index.proofs.folders.push_with_prefix.Goals as goal

pub range_from-instance-requires : goal.range_from-instance-requires
range_from-instance-requires c = rw c.stem_base.ensures (λ positive. (base_fits c.args.stem.now, base_is_boundary c.args.stem.now))
