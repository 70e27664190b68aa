use Rattle.std.proofs.Common.{◌≡◌, ◌++◌, string_bytes}
use Rattle.std.specs.Char.{encode_utf8}
use Rattle.std.specs.List.{flat_map}
use Rattle.cal_timers_report.proofs.cells.push_first.Given as goal

-- the characters that the loop has visited have been appended
abbrev pub invariant-loop-sign : goal.invariant-loop-sign
invariant-loop-sign l = string_bytes l.out ≡ string_bytes l.initial.out ++ flat_map encode_utf8 l.yielded
