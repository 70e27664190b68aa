use Rattle.std.proofs.Common.{rules, string_bytes}
use Rattle.cal_timer.specs.rules.LineView.{plain_line}
use Rattle.cal_timer.specs.rules.Lines.{plain_lines}
use Rattle.cal_timer.proofs.GroupLemmas.{logical_begins, logical_ends, logical_goes_on, logical_none, logical_stops}
use Rattle.cal_timer.proofs.lines.first_logical.Goals as goal
use Rattle.cal_timer.proofs.lines.first_logical.Goals.{else-loop-goes_on-test, then-loop-goes_on-test+in_default-first_plain}

pub returns-in_default-clause-lines : goal.returns-in_default-clause-lines
returns-in_default-clause-lines c = logical_none c.args.number c.args.text.now (search rules)

pub loop-goes_on-init : goal.loop-goes_on-init
loop-goes_on-init c = record {
  utf8 = search rules;
  lines = logical_begins c.args.number c.args.text.now (plain_line c.in-Some.first) (plain_lines c.in-Some.first.next c.in-Some.first.rest.now) (string_bytes c.push_part.new.joined) c.in_ok-goes_on.goes_on (search rules) (search rules) (search rules);
  bounds = search rules;
  shorter = search rules;
}

pub loop-goes_on-preserved : goal.loop-goes_on-preserved
loop-goes_on-preserved c = record {
  utf8 = search rules;
  lines = logical_goes_on c.in-Some.first.number (string_bytes c.loop-goes_on.joined) c.loop-goes_on.goes_on _ (plain_lines c.loop-goes_on.next c.loop-goes_on.rest.now) (plain_line c.in-Some-first_plain.line) (plain_lines c.in-Some-first_plain.line.next c.in-Some-first_plain.line.rest.now) (string_bytes c.push_part-in-loop-goes_on.new.joined) c.in_ok-goes_on-2.goes_on c.loop-goes_on.invariant.lines c.loop-goes_on-test.true (search rules) (search rules) (search rules);
  bounds = search rules;
  shorter = search rules;
}

pub returns-clause-lines : goal.returns-clause-lines
returns-clause-lines c =
    elim c.loop-goes_on-test.branch [
      | else-loop-goes_on-test w ↦ search (logical_ends c.in-Some.first.number (string_bytes c.loop-goes_on.joined) c.loop-goes_on.goes_on _ c.loop-goes_on.next c.loop-goes_on.rest.now c.loop-goes_on.invariant.lines w.loop-goes_on-test.false)
      | then-loop-goes_on-test+in_default-first_plain w ↦ logical_stops c.in-Some.first.number (string_bytes c.loop-goes_on.joined) c.loop-goes_on.goes_on _ c.loop-goes_on.next c.loop-goes_on.rest.now c.loop-goes_on.invariant.lines (search rules)
    ]
