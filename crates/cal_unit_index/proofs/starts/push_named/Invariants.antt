use Rattle.std.proofs.Common.{◌≡◌, ◌++◌, map, string_bytes}
use Rattle.cal_unit_index.specs.rules.DropIns.{file_in, shown_drop_in}
use Rattle.cal_unit_index.proofs.starts.push_named.Given as goal

-- the files with the names so far have been appended
abbrev pub invariant-loop-name : goal.invariant-loop-name
invariant-loop-name l = map shown_drop_in l.found.items ≡ map shown_drop_in l.fn.found.items ++ map (file_in l.folder) (map string_bytes l.yielded)
