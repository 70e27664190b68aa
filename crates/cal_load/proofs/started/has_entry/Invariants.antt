-- One of the remaining folders has the name if and only if any folder has it, because the folders so far don't.
use Rattle.std.proofs.Common.{◌≡◌, drop, map}
use Rattle.cal_unit_index.specs.rules.Index.{shown_folder}
use Rattle.cal_load.specs.rules.StartedUnit.{has_entry}
use Rattle.cal_load.proofs.started.has_entry.Given as goal

abbrev pub invariant-loop-folder : goal.invariant-loop-folder
invariant-loop-folder l =
    has_entry (map shown_folder (drop l.folder-index l.folders)) l.name ≡ has_entry (map shown_folder l.folders) l.name
