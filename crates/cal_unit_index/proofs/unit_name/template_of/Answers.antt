use Rattle.std.proofs.Common.{◌<◌, arith, length}
use Rattle.std.proofs.lemmas.Str.{IsCharBoundary-after_ascii}
use Rattle.cal_unit_index.specs.rules.UnitName.{stem_base}
use Rattle.cal_unit_index.proofs.FolderLemmas.{at_sign_is_ascii}
use Rattle.cal_unit_index.proofs.unit_name.template_of.Goals as goal

pub range-requires-clause-end_boundary : goal.range-requires-clause-end_boundary
range-requires-clause-end_boundary c =
    rw c.stem_base-base.ensures
    (let short : length (stem_base c.args.stem.now) < length c.args.stem.now = rw (← c.stem_base-base.ensures) (omega arith) in
    IsCharBoundary-after_ascii c.args.stem.now (length (stem_base c.args.stem.now)) c.utf8.stem short (at_sign_is_ascii c.args.stem.now short))
