use Rattle.std.proofs.Common.{◌≡◌, ◌++◌, map, take, string_bytes}
use Rattle.std.specs.List.{flat_map}
use Rattle.cal_timers_report.specs.rules.ShowText.{masked_line}
use Rattle.cal_timers_report.proofs.show.push_masked.Given as goal

-- a line for each masked unit that the loop has visited has been appended
abbrev pub invariant-loop-name : goal.invariant-loop-name
invariant-loop-name l =
    string_bytes l.out ≡ string_bytes l.initial.out ++ flat_map masked_line (map string_bytes (take l.name-index l.masked))
