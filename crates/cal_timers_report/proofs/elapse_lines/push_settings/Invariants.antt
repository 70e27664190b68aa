use Rattle.std.proofs.Common.{◌≡◌, ◌++◌, map, take, string_bytes}
use Rattle.std.specs.List.{flat_map}
use Rattle.cal_timers_report.specs.rules.SameText.{setting_line}
use Rattle.cal_timers_report.proofs.elapse_lines.push_settings.Given as goal

-- the lines of the settings that the loop has visited have been appended
abbrev pub invariant-loop-setting : goal.invariant-loop-setting
invariant-loop-setting l =
    string_bytes l.out
    ≡ string_bytes l.fn.out ++ flat_map (setting_line l.side.unit.now) (map (λ setting. setting.now) (take l.setting-index l.setting-items))
