use Rattle.std.proofs.Common.{◌∙◌}
use Rattle.cal_unit_index.proofs.IndexLemmas.{any_among}
use Rattle.cal_unit_index.proofs.name_sets.has_name.Goals as goal

pub returns : goal.returns
returns c = c.contains.ensures ∙ any_among c.args.name.now c.args.set.now.keys
