use Rattle.std.proofs.Common.{◌∙◌, ◌++◌, append-nil, ap, map, rules, sym}
use Rattle.cal_timer.specs.rules.LineView.{logical_line}
use Rattle.cal_timer.specs.rules.Lines.{logical_lines}
use Rattle.cal_read.specs.rules.SectionAssignments.{section_assignments, shown_owned_assignment}
use Rattle.cal_read.proofs.SectionAssignmentsLemmas.{no_assignments}
use Rattle.cal_load.specs.rules.Readable.{broken_in, lines_until_broken}
use Rattle.cal_load.proofs.ReadableLemmas.{ends_here, goes_on_here, stops_here}
use Rattle.cal_load.proofs.readable.read_text.Goals as goal

pub loop-assignments-preserved : goal.loop-assignments-preserved
loop-assignments-preserved c =
    let is_cut = c.args.is_cut in
    let line = logical_line c.in-Some.line in
    let after = logical_lines c.in-Some.line.next c.in-Some.line.rest.now in
    let here = rw c.in-Some.is at c.in_ok-line.ensures.lines in
    let reason = rw c.in_default-2.is at c.in_ok-reason.ensures in
    let step = goes_on_here is_cut line after (sym reason) in
    let taken = rw c.as_str.ensures.value at c.in_ok-inside.ensures in
    record {
      utf8 = search rules;
      found =
          sym (taken (lines_until_broken is_cut after))
          ∙ ap (λ lines. map shown_owned_assignment c.loop-assignments.assignments.items ++ section_assignments c.args.name.now c.loop-assignments.inside lines) (sym (ap (lines_until_broken is_cut) here ∙ step.0))
          ∙ c.loop-assignments.invariant.found;
      broken = sym (ap (broken_in is_cut) here ∙ step.1) ∙ c.loop-assignments.invariant.broken;
      bounds = search rules;
    }

pub returns-in-Some-2-clause-assignments : goal.returns-in-Some-2-clause-assignments
returns-in-Some-2-clause-assignments c =
    let line = logical_line c.in-Some.line in
    let here = rw c.in-Some.is at c.in_ok-line.ensures.lines in
    let reason = rw c.in-Some-2.is at c.in_ok-reason.ensures in
    let step = stops_here c.args.is_cut line _ c.in-Some-2.reason (sym reason) in
    let found = map shown_owned_assignment c.loop-assignments.assignments.items in
    sym (append-nil found) ∙ sym (ap (λ more. found ++ more) (ap (section_assignments c.args.name.now c.loop-assignments.inside) (ap (lines_until_broken c.args.is_cut) here ∙ step.0) ∙ no_assignments c.args.name.now c.loop-assignments.inside))
    ∙ c.loop-assignments.invariant.found

pub returns-in-Some-2-clause-broken : goal.returns-in-Some-2-clause-broken
returns-in-Some-2-clause-broken c =
    let line = logical_line c.in-Some.line in
    let here = rw c.in-Some.is at c.in_ok-line.ensures.lines in
    let reason = rw c.in-Some-2.is at c.in_ok-reason.ensures in
    let step = stops_here c.args.is_cut line _ c.in-Some-2.reason (sym reason) in
    sym (ap (broken_in c.args.is_cut) here ∙ step.1) ∙ c.loop-assignments.invariant.broken

pub returns-clause-assignments : goal.returns-clause-assignments
returns-clause-assignments c =
    let here = rw c.in_default.is at c.in_ok-line.ensures.lines in
    let found = map shown_owned_assignment c.loop-assignments.assignments.items in
    sym (append-nil found)
    ∙ sym (ap (λ more. found ++ more) (ap (section_assignments c.args.name.now c.loop-assignments.inside) (ap (lines_until_broken c.args.is_cut) here ∙ (ends_here c.args.is_cut).0) ∙ no_assignments c.args.name.now c.loop-assignments.inside))
    ∙ c.loop-assignments.invariant.found

pub returns-clause-broken : goal.returns-clause-broken
returns-clause-broken c =
    let here = rw c.in_default.is at c.in_ok-line.ensures.lines in
    sym (ap (broken_in c.args.is_cut) here ∙ (ends_here c.args.is_cut).1) ∙ c.loop-assignments.invariant.broken
