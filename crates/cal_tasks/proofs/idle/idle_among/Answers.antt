use Rattle.std.proofs.Common.{◌++◌, ◌∙◌, List, ap, map}
use Rattle.cal_timer.specs.rules.TimerView.{shown}
use Rattle.cal_zone.specs.rules.Setting.{setting_seen}
use Rattle.cal_zone.specs.declared.instant.Instant.{Instant}
use Rattle.cal_tasks.specs.rules.IdleLines.{idle_as, never_elapses, suppresses_nothing}
use Rattle.cal_tasks.specs.declared.idle.IdleKind.TheVariants.{NeverElapses, StopsAtMidnight, SuppressesNothing}
use Rattle.cal_tasks.specs.declared.idle.IdleLine.{IdleLine}
use Rattle.cal_tasks.specs.rules.Midnight.{stops_at_midnight}
use Rattle.cal_tasks.proofs.idle.idle_among.Goals as goal

pub returns : goal.returns
returns c =
    let at = setting_seen c.args.setting in
    let now = c.args.setting.now.secs in
    let elapses = ap (map (λ (instant : Instant). instant.secs)) c.deref.ensures.value ∙ c.in_ok-next.ensures in
    let never = idle_as NeverElapses (never_elapses at now) (map shown c.args.lines.now) in
    let stops = idle_as StopsAtMidnight (stops_at_midnight at now) (map shown c.args.lines.now) in
    c.in_ok-add_unused.ensures
    ∙ ap (λ (found : List IdleLine). found ++ idle_as SuppressesNothing (suppresses_nothing at now (map (λ instant. instant.secs) c.deref.result.now)) (map shown c.args.exceptions.now))
    (c.in_ok-add_stopping.ensures ∙ ap (λ (found : List IdleLine). found ++ stops)
    (c.in_ok-add_never.ensures ∙ ap (λ (found : List IdleLine). found ++ never) c.new-found.ensures.items))
    ∙ (λ j. (never ++ stops) ++ idle_as SuppressesNothing (suppresses_nothing at now (elapses j)) (map shown c.args.exceptions.now))
