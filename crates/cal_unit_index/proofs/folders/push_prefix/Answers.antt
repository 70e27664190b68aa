use Rattle.std.proofs.Common.{◌≡◌, arith, true}
use Rattle.std.proofs.lemmas.Str.{IsCharBoundary-after_ascii}
use Rattle.cal_unit_index.specs.rules.Folders.{is_dash_within}
use Rattle.cal_unit_index.proofs.FolderLemmas.{dash_is_ascii}
use Rattle.cal_unit_index.proofs.folders.push_prefix.Goals as goal

pub range-requires-clause-end_boundary : goal.range-requires-clause-end_boundary
range-requires-clause-end_boundary c =
    let dash : is_dash_within c.args.base.now c.args.index ≡ true = grind arith in
    IsCharBoundary-after_ascii c.args.base.now c.args.index c.utf8.base c.requires (dash_is_ascii c.args.base.now c.args.index dash)
