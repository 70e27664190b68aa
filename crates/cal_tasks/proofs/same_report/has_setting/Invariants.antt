-- none of the settings so far is `setting`, so it is among the remaining settings if and only if it is among all
-- settings
use Rattle.std.proofs.Common.{◌≡◌, drop, map, string_bytes}
use Rattle.std.specs.List.{list_any}
use Rattle.std.specs.Str.{bytes_eq}
use Rattle.cal_tasks.proofs.same_report.has_setting.Given as goal

abbrev pub invariant-loop-other : goal.invariant-loop-other
invariant-loop-other l =
    list_any (bytes_eq l.setting) (map string_bytes (drop l.other-index l.settings))
    ≡ list_any (bytes_eq l.setting) (map string_bytes l.settings)
