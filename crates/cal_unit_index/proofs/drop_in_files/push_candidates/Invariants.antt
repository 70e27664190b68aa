use Rattle.std.proofs.Common.{◌≡◌, ◌++◌, map, string_bytes}
use Rattle.cal_unit_index.specs.rules.DropIns.{candidates, shown_drop_in}
use Rattle.cal_unit_index.proofs.drop_in_files.push_candidates.Given as goal

-- the drop-ins among the names so far have been appended
abbrev pub invariant-loop-name : goal.invariant-loop-name
invariant-loop-name l = map shown_drop_in l.found.items ≡ map shown_drop_in l.fn.found.items ++ candidates l.folder (map string_bytes l.yielded)
