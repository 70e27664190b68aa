use Rattle.std.proofs.Common.{◌∙◌, ap, int_eq}
use Rattle.std.specs.Set.{is_member}
use Rattle.cal_elapse.specs.rules.Elapses.{Timed}
use Rattle.cal_elapse.specs.rules.ElapsesAfter.{places}
use Rattle.cal_plan.specs.rules.TimerElapses.{timed_entry, zone_or_utc}
use Rattle.cal_timer.specs.rules.TimerView.{shown}
use Rattle.cal_zone.specs.rules.Setting.{setting_seen}
use Rattle.cal_tasks.proofs.AtInstantLemmas.{same_timed}
use Rattle.cal_tasks.proofs.at_instant.line_elapses_at.Goals as goal

pub returns : goal.returns
unfolding timed_entry
returns c =
    c.is_place.ensures
    ∙ ap (λ (e : Timed). is_member int_eq (places e) c.args.instant.secs)
    (same_timed c.of-masks.result c.zone_or_utc.result (shown c.args.line.now).expr (zone_or_utc (setting_seen c.args.setting) (shown c.args.line.now)) c.of-masks.ensures c.zone_or_utc.ensures)
