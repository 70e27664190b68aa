use Rattle.std.proofs.Common.{◌≡◌, ◌∙◌, ◌++◌, ◌∷◌, [], Some, None, true, append_assoc, ap, map, sym}
use Rattle.std.specs.Str.{bytes_eq}
use Rattle.std.proofs.lemmas.List.{map-append}
use Rattle.cal_timer.specs.rules.LineView.{line_at}
use Rattle.cal_timer.specs.rules.TimerView.{shown_assignment}
use Rattle.cal_read.specs.rules.SectionAssignments.{section_assignments, shown_owned_assignment}
use Rattle.cal_read.proofs.SectionAssignmentsLemmas.{header_opens, inside_gives, outside_none}
use Rattle.cal_load.proofs.readable.take_line.Goals as goal

pub returns-in-Some : goal.returns-in-Some
returns-in-Some c = λ after.
    let opens = rw c.trim-line.ensures at c.in-Some.ensures in
    ap (λ more. map shown_owned_assignment c.args.assignments.now.items ++ more)
    (header_opens c.args.name.now c.args.inside (line_at c.args.number c.args.line.now) after opens.0
    ∙ ap (λ inside. section_assignments c.args.name.now inside after) (sym (c.eq.ensures ∙ ap (bytes_eq c.in-Some.opened.now) c.as_bytes.ensures.value ∙ ap (λ opened. bytes_eq opened c.args.name.now) opens.1)))

pub returns-then-not-inside : goal.returns-then-not-inside
returns-then-not-inside c =
    let none = rw (c.in_default.is, c.trim-line.ensures) at c.section.ensures in
    rw c.if-not-inside.true (λ after. ap (λ more. map shown_owned_assignment c.args.assignments.now.items ++ more) (outside_none c.args.name.now (line_at c.args.number c.args.line.now) after none))

pub returns-in_ok-push : goal.returns-in_ok-push
returns-in_ok-push c =
    let none = rw (c.in_default.is, c.trim-line.ensures) at c.section.ensures in
    let some = rw (c.in-Some-read_assignment.is, c.trim-line.ensures) at c.read_assignment.ensures in
    let before = c.args.assignments.now.items in
    let a = shown_assignment c.in-Some-read_assignment.assignment in
    let pushed : map shown_owned_assignment c.push.new.self.items ≡ map shown_owned_assignment before ++ a ∷ [] =
    ap (map shown_owned_assignment) c.in_ok-push.ensures.items ∙ map-append shown_owned_assignment before (c.in_ok-owned.field-0 ∷ []) ∙ ap (λ a. map shown_owned_assignment before ++ a ∷ []) c.in_ok-owned.ensures in
    rw c.if-not-inside.false (λ after.
    ap (λ more. map shown_owned_assignment before ++ more) (inside_gives c.args.name.now (line_at c.args.number c.args.line.now) (Some a) after none (sym some))
    ∙ sym (append_assoc (map shown_owned_assignment before) (a ∷ []) (section_assignments c.args.name.now true after))
    ∙ ap (λ all. all ++ section_assignments c.args.name.now true after) (sym pushed))

pub returns-in_default-read_assignment : goal.returns-in_default-read_assignment
returns-in_default-read_assignment c =
    let none = rw (c.in_default.is, c.trim-line.ensures) at c.section.ensures in
    let nothing = rw (c.in_default-read_assignment.is, c.trim-line.ensures) at c.read_assignment.ensures in
    rw c.if-not-inside.false (λ after.
    ap (λ more. map shown_owned_assignment c.args.assignments.now.items ++ more) (inside_gives c.args.name.now (line_at c.args.number c.args.line.now) None after none (sym nothing)))
