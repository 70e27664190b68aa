use Rattle.std.proofs.Common.{◌≡◌, ◌++◌, string_bytes}
use Rattle.cal_timers_report.specs.rules.Columns.{blanks}
use Rattle.cal_timers_report.proofs.cells.push_blanks.Given as goal

abbrev pub invariant-loop : goal.invariant-loop
invariant-loop l = string_bytes l.out ≡ string_bytes l.initial.out ++ blanks l.counter
