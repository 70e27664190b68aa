use Rattle.std.proofs.Common.{◌≡◌, ◌++◌, map, take, string_bytes}
use Rattle.std.specs.List.{flat_map}
use Rattle.cal_crontabs.specs.rules.EntryText.{setting_line}
use Rattle.cal_crontabs.proofs.entry_text.push_settings.Given as goal

abbrev pub invariant-loop-setting : goal.invariant-loop-setting
invariant-loop-setting l =
    string_bytes l.out ≡ string_bytes l.initial.out ++ flat_map setting_line (map string_bytes (take l.setting-index l.settings))
