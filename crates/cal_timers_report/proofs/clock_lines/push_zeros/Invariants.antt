use Rattle.std.proofs.Common.{◌≡◌, ◌++◌, replicate, string_bytes}
use Rattle.cal_timers_report.proofs.clock_lines.push_zeros.Given as goal

-- one zero has been appended in each iteration
abbrev pub invariant-loop : goal.invariant-loop
invariant-loop l =
    string_bytes l.out ≡ string_bytes l.initial.out ++ replicate l.counter 48
