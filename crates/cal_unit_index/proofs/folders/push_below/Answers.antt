use Rattle.std.proofs.Common.{arith, string_bytes}
use Rattle.cal_unit_index.specs.rules.Folders.{folder_below}
use Rattle.cal_unit_index.specs.rules.SearchFolders.{path_of}
use Rattle.cal_unit_index.proofs.FolderLemmas.{step_flat}
use Rattle.cal_unit_index.proofs.folders.push_below.Goals as goal

pub loop-name-preserved : goal.loop-name-preserved
loop-name-preserved g c = (
  (λ machine shows listing.
      step_flat (folder_below machine (path_of c.args.root.now)) string_bytes _ _ _ c.args.names.now c.loop-name.name-index c.name-item.result
      (omega arith) c.name-item.is (c.loop-name.invariant.0 machine (c.in_ok-push_folder.ensures.grows machine shows) listing)
      (rw c.as_str.ensures.value at (c.in_ok-push_folder.ensures.known machine shows listing))),
  (λ machine shows. c.loop-name.invariant.1 machine (c.in_ok-push_folder.ensures.grows machine shows)),
)
