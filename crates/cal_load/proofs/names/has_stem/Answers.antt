use Rattle.std.proofs.Common.{◌∙◌}
use Rattle.cal_unit_index.proofs.IndexLemmas.{any_among}
use Rattle.cal_load.proofs.names.has_stem.Goals as goal

pub returns : goal.returns
returns c = c.contains.ensures ∙ any_among c.args.stem.now c.args.stems.now.keys
