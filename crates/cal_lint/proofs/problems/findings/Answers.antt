use Rattle.std.proofs.Common.{◌∙◌, Bor, List, ap, map, rules, ℕ}
use Rattle.std.specs.Str.Lines.{lines}
use Rattle.cal_bytes.specs.rules.Trim.{trim_matches}
use Rattle.cal_timer.specs.rules.Lines.{is_blank_or_return, logical_lines}
use Rattle.cal_timer.specs.rules.TimerText.{without_mark}
use Rattle.cal_lint.specs.rules.Findings.{shown_finding, timer_faults}
use Rattle.cal_lint.proofs.ColumnLemmas.{short_line}
use Rattle.cal_lint.proofs.FindingsLemmas.{one_line_more}
use Rattle.cal_lint.proofs.problems.findings.Goals as goal

abbrev texts : List (Bor (List ℕ)) → List (List ℕ)
texts = map (λ (line : Bor (List ℕ)). line.now)

pub add_line-requires : goal.add_line-requires
add_line-requires c =
    short_line c.args.text.now c.without_mark.result.now c.physical_line.result.now (texts c.deref.result.now) c.in-Some.logical.number
    c.physical_line.ensures (ap texts c.deref.ensures.value ∙ c.in_ok-physical.ensures) c.without_mark.ensures.shorter c.requires

pub loop-found-preserved : goal.loop-found-preserved
loop-found-preserved c =
    let here = rw c.in-Some.is at c.in_ok-logical.ensures.lines in
    record {
      utf8 = search rules;
      problems =
          one_line_more (timer_faults c.args.text.now) c.deref-in-Some.result.now (texts c.deref.result.now) (lines (without_mark c.args.text.now))
          c.loop-found.section c.section_after-section.result c.in-Some.logical.number _ c.trim.result.now c.physical_line.result.now
          (logical_lines c.loop-found.number c.loop-found.rest.now) (logical_lines c.in-Some.logical.next c.in-Some.logical.rest.now)
          (map shown_finding c.loop-found.found.items) (map shown_finding c.add_line.new.found.items) _
          (c.deref-in-Some.ensures.value ∙ c.in_ok-faults.ensures)
          (ap texts c.deref.ensures.value ∙ c.in_ok-physical.ensures ∙ ap lines c.without_mark.ensures.mark)
          c.physical_line.ensures here (c.trim.ensures ∙ ap (trim_matches is_blank_or_return) c.as_str.ensures.value) c.section_after-section.ensures
          c.in_ok-add_line.ensures.problems c.loop-found.invariant.problems;
      suggestions = search rules;
      room = search rules;
    }
