use Rattle.std.proofs.Common.{◌≡◌, map, pos, sym, ◌∙◌}
use Rattle.std.proofs.lemmas.Bool.{false≢true}
use Rattle.cal_load.specs.rules.CalendarZones.{expressions_in}
use Rattle.cal_timer.specs.rules.TimerView.{shown}
use Rattle.cal_zone.specs.rules.Setting.{setting_seen}
use Rattle.cal_tasks.proofs.LastElapseLemmas.{elapses_here, last_at_first, none_at_first}
use Rattle.cal_tasks.specs.rules.LastElapse.{timed_lines}
use Rattle.cal_tasks.specs.rules.LoadedElapses.{setting_for}
use Rattle.cal_tasks.proofs.past.last_since_1970.Goals as goal

pub returns-then-elapses_at : goal.returns-then-elapses_at
returns-then-elapses_at c =
    let zero : c.in-Some.first.secs ≡ pos 0 = c.in-Some.ensures.value in
    let test = elapses_here (setting_for c.args.at c.args.timer.now) (setting_seen c.setting_for.result) c.in-Some.first.secs (map shown c.lines.result.now) (expressions_in c.args.timer.now.calendar) (map shown c.args.exceptions.now)
    c.elapses_at.result c.setting_for.ensures.seen c.lines.ensures c.elapses_at.ensures in
    last_at_first c.args.at c.args.timer.now (timed_lines c.args.at c.args.timer.now (map shown c.args.exceptions.now)) c.in-Some.first.secs zero c.args.at.now.in_range (rw c.in_default-2.is at c.in_ok-last.ensures) (test.0 c.if-elapses_at.true)

pub returns-else-elapses_at : goal.returns-else-elapses_at
returns-else-elapses_at c =
    let zero : c.in-Some.first.secs ≡ pos 0 = c.in-Some.ensures.value in
    let test = elapses_here (setting_for c.args.at c.args.timer.now) (setting_seen c.setting_for.result) c.in-Some.first.secs (map shown c.lines.result.now) (expressions_in c.args.timer.now.calendar) (map shown c.args.exceptions.now)
    c.elapses_at.result c.setting_for.ensures.seen c.lines.ensures c.elapses_at.ensures in
    none_at_first c.args.at c.args.timer.now (timed_lines c.args.at c.args.timer.now (map shown c.args.exceptions.now)) c.in-Some.first.secs zero (rw c.in_default-2.is at c.in_ok-last.ensures) (λ e. false≢true (sym c.if-elapses_at.false ∙ test.1 e))
