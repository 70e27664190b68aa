use Rattle.std.proofs.Common.{◌≡◌, ◌++◌, string_bytes}
use Rattle.std.specs.List.{flat_map}
use Rattle.cal_timers_report.specs.rules.PrintableText.{printable_char}
use Rattle.cal_timers_report.proofs.cells.push_printable.Given as goal

-- the printed forms of the characters that the loop has visited have been appended
abbrev pub invariant-loop-sign : goal.invariant-loop-sign
invariant-loop-sign l = string_bytes l.out ≡ string_bytes l.initial.out ++ flat_map printable_char l.yielded
