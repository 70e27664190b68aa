use Rattle.std.proofs.Common.{◌≡◌, ◌++◌, map, take}
use Rattle.cal_timers_report.specs.rules.Documents.{setting_json}
use Rattle.cal_timers_report.proofs.JsonLemmas.{values_tokens}
use Rattle.cal_timers_report.proofs.documents.same.put_settings_of.Given as goal

abbrev pub invariant-loop-setting : goal.invariant-loop-setting
invariant-loop-setting l = l.out ≡ l.initial.out ++ values_tokens (map (setting_json l.side.unit.now) (map (λ setting. setting.now) (take l.setting-index l.side.settings.items)))
