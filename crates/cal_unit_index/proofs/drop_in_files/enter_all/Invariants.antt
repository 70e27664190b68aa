use Rattle.std.proofs.Common.{◌≡◌, map}
use Rattle.cal_unit_index.specs.rules.DropIns.{by_name, shown_drop_in, shown_pair}
use Rattle.cal_unit_index.proofs.drop_in_files.enter_all.Given as goal

-- the map has the entries of the files that the loop has visited
abbrev pub invariant-loop-file : goal.invariant-loop-file
invariant-loop-file l = map shown_pair l.entered.entries ≡ by_name (map shown_drop_in l.yielded)
