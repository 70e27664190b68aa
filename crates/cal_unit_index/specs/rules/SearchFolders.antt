-- The folders of a search path, and the names that were listed in them.
use Rattle.std.specs.Prelude.{◌≡◌, ℕ, List, map, string_bytes}
use Rattle.cal_machine.specs.rules.Machine.{Machine}
use Rattle.cal_unit_index.specs.rules.Destinations.{listed}
use Rattle.cal_unit_index.specs.declared.index.SearchFolder.{SearchFolder}

abbrev pub path_of : SearchFolder → List ℕ
path_of folder = string_bytes folder.path

-- the names that were listed in the folder are those that it has on the machine
abbrev pub IsListing : Machine → SearchFolder → Type 0
IsListing machine folder = map string_bytes folder.names.keys ≡ listed machine (path_of folder)
