use Rattle.std.proofs.Common.{◌≡◌, map, string_bytes}
use Rattle.cal_crontabs.specs.rules.Crontabs.{path_in}
use Rattle.cal_crontabs.proofs.folders.paths_of_names.Given as goal

abbrev pub invariant-loop-name : goal.invariant-loop-name
invariant-loop-name l = map string_bytes l.paths.items ≡ map (path_in l.folder) (map string_bytes (map (λ name. name.now) l.yielded))
