-- The report of `same`: what only one of two timers has (systemd.timer(5), Options).
use Rattle.std.specs.Prelude.{ℕ, not, if◌then◌else◌, List, [], filter, map, string_bytes}
use Rattle.std.specs.List.{list_any}
use Rattle.std.specs.Str.{bytes_eq}
use Rattle.cal_load.specs.declared.loaded.LoadedTimer.{LoadedTimer}
use Rattle.cal_timers_report.specs.rules.ReportView.{ComparisonView, SideView}
use Rattle.cal_tasks.specs.declared.present.Present.{Present}
use Rattle.cal_tasks.specs.rules.Difference.{first_only_in}
use Rattle.cal_tasks.specs.rules.FromCrontab.{expression_texts, is_from_crontab}
use Rattle.cal_tasks.specs.rules.LoadedElapses.{elapses_in}

-- the settings that `one` has and `other` doesn't
abbrev pub settings_only : LoadedTimer → LoadedTimer → List (List ℕ)
settings_only one other =
    filter (λ setting. not (list_any (bytes_eq setting) (map string_bytes other.notes.items))) (map string_bytes one.notes.items)

-- the expressions of a timer that was made of an entry of a crontab
abbrev pub read_as : LoadedTimer → List (List ℕ)
read_as timer = if is_from_crontab timer then expression_texts timer else []

-- the first instant after the present at which only `one` elapses, and the settings that only `one` has
abbrev pub side_of : Present → LoadedTimer → LoadedTimer → SideView
side_of at one other = record {
  unit = string_bytes one.name;
  read_as = read_as one;
  only = first_only_in (elapses_in at at.now.secs one) (elapses_in at at.now.secs other);
  settings = settings_only one other;
}

abbrev pub comparison_of : Present → LoadedTimer → LoadedTimer → ComparisonView
comparison_of at one other = record { one = side_of at one other; other = side_of at other one }
