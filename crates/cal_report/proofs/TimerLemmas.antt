-- Lemmas on the report of a timer file, and on the headings of its lines.
use Rattle.std.proofs.Common.{Result, Ok, ◌≡◌, ℕ, ◌+◌, ◌<◌, ◌++◌, List, length, map, drop, get_or, ℤ, refl, ap, ◌∙◌, string_bytes}
use Rattle.std.specs.List.{flat_map}
use Rattle.std.proofs.lemmas.List.Folds.{flat_map-map}
use Rattle.cal_rising.specs.rules.Merge.{Merge, merged}
use Rattle.cal_timer.specs.rules.TimerEntries.{Timer, timer_text}
use Rattle.cal_timer.specs.rules.TimerView.{shown}
use Rattle.cal_timer.specs.declared.timer.TimerLine as declared_line
use Rattle.cal_bytes.specs.declared.whole.WholeFault.{WholeFault}
use Rattle.cal_spec.specs.computed.Expr.{expr_in}
use Rattle.cal_spec.specs.rules.Fields.{Fields}
use Rattle.cal_plan.specs.rules.TimerElapses.{IsMergeOf}
use Rattle.cal_request.specs.rules.Request.{Request}
use Rattle.cal_report.specs.rules.Context.{setting_of}
use Rattle.cal_report.specs.computed.TimerPlan.{plan_text}
use Rattle.cal_report.specs.rules.TimerReport.{HadMemory, headings_text, timer_answer, timer_report}
use Rattle.cal_report.specs.rules.ReportLines.{heading_text}
use Rattle.cal_bytes.proofs.General.{item_first}

-- the heading of a line of a timer file, with this label
abbrev pub line_text : List ℕ → declared_line.TimerLine → List ℕ
line_text label line = heading_text label (string_bytes line.text) line.expr

-- the headings of the lines from index `i` on are the heading of `line`, the line at index `i`, followed by the
-- headings of the later lines
pub lines-first : (label : List ℕ) (lines : List declared_line.TimerLine) (i : ℕ) (line : declared_line.TimerLine) (text : List ℕ) → i < length lines
    → line ≡ get_or lines i line → text ≡ string_bytes line.text → flat_map (line_text label) (drop i lines) ≡ heading_text label text line.expr ++ flat_map (line_text label) (drop (i + 1) lines)
lines-first label lines i line text h is so = item_first (line_text label) i lines line h (ap (λ bytes. heading_text label bytes line.expr) so ∙ ap (line_text label) is)

pub headings-all : (label : List ℕ) (lines : List declared_line.TimerLine) → headings_text label (map shown lines) ≡ flat_map (line_text label) lines
unfolding headings_text
headings-all label lines = flat_map-map (λ e. heading_text label e.text e.expr) shown lines

-- if a timer file was parsed to `lists`, and `elapses` are the elapses that the merge of `lists` yields, then the
-- answer is the report that `plan_text` returns for `lists` and `elapses`
pub plan_answers : (asked : Request) (base : ℤ) (read : Result (List ℕ) WholeFault) (lists : Timer Fields) (merge : Merge) (elapses : List ℤ) → timer_text expr_in read ≡ Ok lists
    → IsMergeOf (setting_of asked) base lists merge → elapses ≡ merged merge → (name : List ℕ) → timer_answer asked base name read ≡ Ok (plan_text asked (record { timer = lists; elapses = elapses }))
unfolding timer_answer timer_report
plan_answers asked base read lists merge elapses is m same name = rw (is, m.found, same, m.is) refl

-- if the timer file was parsed to `lists`, then reading it didn't run out of memory
pub had_lists : (read : Result (List ℕ) WholeFault) (lists : Timer Fields) → timer_text expr_in read ≡ Ok lists → HadMemory read
had_lists read lists is none = let never = rw none at is in cc
