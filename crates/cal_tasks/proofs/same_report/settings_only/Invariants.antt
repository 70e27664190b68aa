use Rattle.std.proofs.Common.{◌≡◌, map, take, filter, not, string_bytes}
use Rattle.std.specs.List.{list_any}
use Rattle.std.specs.Str.{bytes_eq}
use Rattle.cal_tasks.proofs.same_report.settings_only.Given as goal

-- the settings found so far are those before the loop's index that the other timer doesn't have
abbrev pub invariant-loop-setting : goal.invariant-loop-setting
invariant-loop-setting l =
    map (λ setting. setting.now) l.settings.items
    ≡ filter (λ setting. not (list_any (bytes_eq setting) (map string_bytes l.other.notes.items)))
    (map string_bytes (take l.setting-index l.one.notes.items))
