use Rattle.std.proofs.Common.{◌++◌, ap, map, option_map, refl, string_bytes, subst, ◌∙◌}
use Rattle.std.specs.List.{AllZip}
use Rattle.cal_load.specs.rules.CalendarZones.{expressions_in}
use Rattle.cal_timers_report.specs.rules.ReportView.{line_seen}
use Rattle.cal_zone.specs.declared.instant.Instant.{Instant}
use Rattle.cal_timer.specs.rules.TimerView.{shown}
use Rattle.cal_tasks.proofs.ZonedLemmas.{exceptions_zoned}
use Rattle.cal_tasks.specs.rules.LastElapse.{IsLastOf, timed_lines}
use Rattle.cal_tasks.specs.rules.LoadedElapses.{setting_for}
use Rattle.cal_tasks.specs.rules.Notes.{cron_note, exceptions_note}
use Rattle.cal_tasks.specs.rules.ShowReport.{IsShownLine, clock_time}
use Rattle.cal_tasks.specs.rules.Unguarded.{unguarded_seen}
use Rattle.cal_tasks.proofs.show_report.shown_timer.Goals as goal

pub last_elapse-requires : goal.last_elapse-requires
last_elapse-requires c =
    exceptions_zoned c.args.at c.args.timer.now (setting_for c.args.at c.args.timer.now) (map shown c.exceptions.result.now) refl c.exceptions.ensures

pub returns : goal.returns
returns c =
    record {
      unit = c.as_str.ensures.value;
      files = c.in_ok-files.ensures;
      expressions = subst (λ lines. AllZip (IsShownLine c.args.timer.now) lines (map line_seen c.in_ok-expressions.expressions.items)) c.lines.ensures c.in_ok-expressions.ensures;
      exceptions = subst (λ lines. AllZip (IsShownLine c.args.timer.now) lines (map line_seen c.in_ok-exceptions.exceptions.items)) c.exceptions-2.ensures c.in_ok-exceptions.ensures;
      warned = refl;
      last = subst (λ lines. IsLastOf c.args.at c.args.timer.now (timed_lines c.args.at c.args.timer.now lines) (option_map (λ (instant : Instant). instant.secs) c.in_ok-last.last)) c.exceptions.ensures c.in_ok-last.ensures;
      elapses = c.in_ok-elapses.ensures;
      changes = c.in_ok-notes.notes.first.items;
      noted = record {
        true_ones = c.in_ok-notes.ensures.notes;
        none_missing = c.in_ok-notes.ensures.all;
        few = c.in_ok-notes.ensures.few;
        sorted = c.in_ok-notes.ensures.sorted;
      };
      notes = c.in_ok-settings.ensures ∙ ap (λ changes. exceptions_note (map unguarded_seen c.args.unguarded.now) c.args.timer.now ++ (map string_bytes c.args.timer.now.notes.items ++ cron_note c.args.timer.now changes)) c.as_slice-changes.ensures.value;
      clock = c.in_ok-clock.ensures ∙ ap (map (clock_time (expressions_in c.args.timer.now.calendar))) c.as_slice-changes.ensures.value;
    }
