use Rattle.std.proofs.Common.{arith, map, string_bytes}
use Rattle.cal_unit_index.specs.rules.Folders.{stem_folders}
use Rattle.cal_unit_index.specs.rules.SearchFolders.{path_of}
use Rattle.cal_unit_index.proofs.FolderLemmas.{step_flat}
use Rattle.cal_unit_index.proofs.folders.push_all_folders.Goals as goal

pub loop-stem-preserved : goal.loop-stem-preserved
loop-stem-preserved g c = (
  (λ machine shows all.
      step_flat (stem_folders machine (map (λ root. path_of root.now) c.args.roots.now) c.args.unit_type) (λ stem. string_bytes stem.now) _ _ _ c.args.stems.now c.loop-stem.stem-index c.stem-item.result
      (omega arith) c.stem-item.is (c.loop-stem.invariant.0 machine (c.in_ok-push_stem_folders.ensures.grows machine shows) all)
      (rw c.as_str.ensures.value at (c.in_ok-push_stem_folders.ensures.known machine shows all))),
  (λ machine shows. c.loop-stem.invariant.1 machine (c.in_ok-push_stem_folders.ensures.grows machine shows)),
)
