use Rattle.std.proofs.Common.{◌∙◌, ap, sym}
use Rattle.std.specs.Str.{bytes_eq}
use Rattle.cal_timer.specs.rules.LineView.{line_at}
use Rattle.cal_read.specs.rules.SectionAssignments.{section_assignments}
use Rattle.cal_read.proofs.SectionAssignmentsLemmas.{header_opens, inside_gives, outside_none}
use Rattle.cal_read.proofs.section_assignments.read_section_line.Goals as goal

pub returns-in-Some : goal.returns-in-Some
returns-in-Some c = λ after.
    let opens = rw c.trim-line.ensures at c.in-Some.ensures in
    header_opens c.args.name.now c.args.inside (line_at c.args.number c.args.line.now) after opens.0
    ∙ ap (λ inside. section_assignments c.args.name.now inside after) (sym (c.eq.ensures ∙ ap (bytes_eq c.in-Some.opened.now) c.as_bytes.ensures.value ∙ ap (λ opened. bytes_eq opened c.args.name.now) opens.1))

pub returns-then-not-inside : goal.returns-then-not-inside
returns-then-not-inside c =
    let none = rw (c.in_default.is, c.trim-line.ensures) at c.section.ensures in
    rw c.if-not-inside.true (λ after. outside_none c.args.name.now (line_at c.args.number c.args.line.now) after none)

pub returns : goal.returns
returns c =
    let none = rw (c.in_default.is, c.trim-line.ensures) at c.section.ensures in
    let read = rw c.trim-line.ensures at c.read_assignment.ensures in
    rw c.if-not-inside.false (λ after. inside_gives c.args.name.now (line_at c.args.number c.args.line.now) _ after none (sym read))
