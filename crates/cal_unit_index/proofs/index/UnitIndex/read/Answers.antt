use Rattle.std.proofs.Common.{◌∙◌, map, string_bytes}
use Rattle.cal_unit_index.specs.rules.Names.{aliases_named}
use Rattle.cal_unit_index.proofs.IndexLemmas.{each_folder}
use Rattle.cal_unit_index.proofs.index.UnitIndex.read.Goals as goal

pub returns-clause-known : goal.returns-clause-known
returns-clause-known g c machine shows =
    let known = c.in_ok-index.ensures.known machine shows in
    record {
      folders = known.folders;
      destinations = known.destinations;
      aliases = c.in_ok-index-2.ensures ∙ each_folder machine (map string_bytes c.args.search_path.now) c.in_ok-index.index aliases_named known.folders known.destinations;
      unreadable = known.unreadable;
    }
