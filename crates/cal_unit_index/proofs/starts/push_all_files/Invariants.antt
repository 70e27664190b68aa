use Rattle.std.proofs.Common.{◌≡◌, ◌++◌, map, take, string_bytes}
use Rattle.std.specs.List.{flat_map}
use Rattle.cal_machine.specs.rules.Machine.{Machine}
use Rattle.cal_machine.specs.rules.Places.{names_at}
use Rattle.cal_unit_index.specs.rules.DropIns.{shown_drop_in}
use Rattle.cal_unit_index.specs.rules.Index.{faults_of_listing, shown_fault}
use Rattle.cal_unit_index.specs.rules.Starts.{files_in}
use Rattle.cal_unit_index.proofs.starts.push_all_files.Given as goal

-- the files in the folders before the loop's index, and an error for each of these folders that can't be read, have
-- been appended
abbrev pub invariant-loop-folder : goal.invariant-loop-folder
invariant-loop-folder g l =
    ((machine : Machine) → g.T.Tree.shows l.tree machine
    → (map shown_drop_in l.found.items ≡ map shown_drop_in l.fn.found.items
    ++ flat_map (files_in machine) (map string_bytes (take l.folder-index l.folders)))
    × (map shown_fault l.unreadable.items ≡ map shown_fault l.fn.unreadable.items
    ++ flat_map (λ folder. faults_of_listing folder (names_at machine folder)) (map string_bytes (take l.folder-index l.folders))))
    × ((machine : Machine) → g.T.Tree.shows l.tree machine → g.T.Tree.shows l.fn.tree machine)
