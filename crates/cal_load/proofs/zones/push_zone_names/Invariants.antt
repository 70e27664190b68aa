use Rattle.std.proofs.Common.{◌≡◌, ◌++◌, map, take, string_bytes}
use Rattle.cal_timer.specs.rules.TimerView.{shown}
use Rattle.cal_load.specs.rules.Loaded.{zone_names_in}
use Rattle.cal_load.proofs.zones.push_zone_names.Given as goal

abbrev pub invariant-loop-line : goal.invariant-loop-line
invariant-loop-line l =
    map string_bytes l.names.items ≡ map string_bytes l.fn.names.items ++ zone_names_in (map shown (take l.line-index l.lines))
