use Rattle.std.proofs.Common.{◌≡◌, All, map, reverse, string_bytes}
use Rattle.std.specs.List.{flat_map}
use Rattle.cal_machine.specs.rules.Machine.{Machine}
use Rattle.cal_unit_index.specs.rules.Destinations.{sorted_once}
use Rattle.cal_unit_index.specs.rules.Index.{shown_fault}
use Rattle.cal_unit_index.specs.rules.SearchFolders.{IsListing, path_of}
use Rattle.cal_unit_index.specs.rules.Starts.{started_by, unreadable_named}
use Rattle.cal_unit_index.proofs.starts.find_below.Given as goal

-- the timers that the wants folders with the names so far start have been added, and the errors about these folders
abbrev pub invariant-loop-name : goal.invariant-loop-name
invariant-loop-name g l =
    ((machine : Machine) → g.T.Tree.shows l.tree machine → All (IsListing machine) l.search_path
    → (map string_bytes l.stems.keys ≡ sorted_once (flat_map (started_by machine (reverse (map path_of l.search_path))) (map string_bytes l.yielded)))
    × (map shown_fault l.unreadable.items ≡ flat_map (unreadable_named machine (reverse (map path_of l.search_path))) (map string_bytes l.yielded)))
    × ((machine : Machine) → g.T.Tree.shows l.tree machine → g.T.Tree.shows l.fn.tree machine)
