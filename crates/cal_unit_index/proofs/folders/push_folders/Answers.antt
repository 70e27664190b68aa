use Rattle.std.proofs.Common.{arith, map, string_bytes}
use Rattle.cal_unit_index.specs.rules.Folders.{folders_below}
use Rattle.cal_unit_index.specs.rules.SearchFolders.{IsListing, path_of}
use Rattle.cal_unit_index.proofs.FolderLemmas.{All_item, step_flat}
use Rattle.cal_unit_index.proofs.folders.push_folders.Goals as goal

pub loop-root-preserved : goal.loop-root-preserved
loop-root-preserved g c = (
  (λ machine shows all.
      let here : IsListing machine c.root-item.result.now =
      All_item (IsListing machine) (λ root. root.now) c.args.roots.now c.loop-root.root-index c.root-item.result (omega arith) c.root-item.is all in
      step_flat (folders_below machine (map string_bytes c.args.names.now)) (λ root. path_of root.now) _ _ _ c.args.roots.now c.loop-root.root-index c.root-item.result
      (omega arith) c.root-item.is (c.loop-root.invariant.0 machine (c.in_ok-push_below.ensures.grows machine shows) all)
      (c.in_ok-push_below.ensures.known machine shows here)),
  (λ machine shows. c.loop-root.invariant.1 machine (c.in_ok-push_below.ensures.grows machine shows)),
)
