use Rattle.std.proofs.Common.{◌≡◌, ◌∙◌, ◌+◌, ◌<◌, ◌∷◌, [], Err, arith, ap, drop, length, map, rules, subst, sym, take}
use Rattle.std.specs.Str.Lines.{lines}
use Rattle.std.proofs.lemmas.List.{length-append, length-map}
use Rattle.cal_read.specs.rules.SectionAssignments.{shown_owned_assignment}
use Rattle.cal_unit_index.specs.rules.Files.{shown_unit_text}
use Rattle.cal_load.specs.rules.Loaded.{assignments_from, broken_from}
use Rattle.cal_load.specs.rules.Position.{total_lines}
use Rattle.cal_load.specs.rules.Readable.{assignments_read}
use Rattle.cal_load.specs.rules.TextFaults.{IsReadFault}
use Rattle.cal_load.proofs.PositionLemmas.{divided_at, first_lines_more, shown_at, total_lines_more}
use Rattle.cal_load.proofs.TextLemmas.{assignments_step, broken_in_one, broken_step, found_all, found_more, no_assignments, none_broken}
use Rattle.cal_load.proofs.texts.read_files.Goals as goal

pub loop-file-preserved : goal.loop-file-preserved
loop-file-preserved c =
    let files = map shown_unit_text c.args.files.now in
    let index = c.loop-file.file-index in
    let file = c.file-item.result in
    let old = c.loop-file.read in
    let new = c.read_file.new.read in
    let here : index < length c.args.files.now = omega arith in
    let inside : index < length files = omega (arith, length-map c.args.files.now shown_unit_text) in
    let more : total_lines (take (index + 1) files) ≡ total_lines (take index files) + length (lines (shown_unit_text file).bytes) =
    total_lines_more files index (shown_unit_text file) inside (shown_at c.args.files.now index file here c.file-item.is) in
    record {
      assignments = found_more assignments_read assignments_from assignments_step no_assignments
          (map shown_owned_assignment old.assignments.items) (map shown_owned_assignment new.assignments.items) c.args.files.now index file
          c.loop-file.first _ _ here c.file-item.is c.in_ok-first.ensures.next c.in_ok-first.ensures.assignments c.loop-file.invariant.assignments;
      broken = found_more broken_in_one broken_from broken_step none_broken
          old.broken.items new.broken.items c.args.files.now index file
          c.loop-file.first _ _ here c.file-item.is c.in_ok-first.ensures.next c.in_ok-first.ensures.broken c.loop-file.invariant.broken;
      count = omega (arith, ap length c.in_ok-first.ensures.lines, length-append old.first_lines.items (c.loop-file.first ∷ []));
      next = omega (arith, c.in_ok-first.ensures.next, c.loop-file.invariant.next);
      numbers = first_lines_more files old.first_lines.items new.first_lines.items index c.loop-file.first
          c.loop-file.invariant.count c.loop-file.invariant.next c.in_ok-first.ensures.lines c.loop-file.invariant.numbers;
    }

pub returns-clause-assignments : goal.returns-clause-assignments
returns-clause-assignments c =
    let all : c.loop-file.file-index ≡ length c.args.files.now = omega arith in
    found_all assignments_read assignments_from assignments_step no_assignments
    (map shown_owned_assignment c.loop-file.read.assignments.items) c.loop-file.first c.args.files.now c.loop-file.file-index _ all c.loop-file.invariant.assignments

pub returns-clause-broken : goal.returns-clause-broken
returns-clause-broken c =
    let all : c.loop-file.file-index ≡ length c.args.files.now = omega arith in
    found_all broken_in_one broken_from broken_step none_broken
    c.loop-file.read.broken.items c.loop-file.first c.args.files.now c.loop-file.file-index _ all c.loop-file.invariant.broken

pub returns-clause-lines : goal.returns-clause-lines
returns-clause-lines c =
    let all : c.loop-file.file-index ≡ length (map shown_unit_text c.args.files.now) = omega (arith, length-map c.args.files.now shown_unit_text) in (
      c.loop-file.invariant.count ∙ all,
      λ k h. c.loop-file.invariant.numbers k (omega (arith, all)),
    )

pub returns-in_err-first-clause-fault : goal.returns-in_err-first-clause-fault
returns-in_err-first-clause-fault c =
    let here : c.loop-file.file-index < length c.args.files.now = omega arith in
    let same : c.from_residual.result ≡ Err c.in_err-first.field-0.0 = search rules in
    let files = map shown_unit_text c.args.files.now in
    let file = c.file-item.result in
    let inside : c.loop-file.file-index < length files = omega (arith, length-map c.args.files.now shown_unit_text) in
    let divided = divided_at files c.loop-file.file-index (shown_unit_text file) inside (shown_at c.args.files.now c.loop-file.file-index file here c.file-item.is) in
    rw same (subst (λ all. IsReadFault all c.in_err-first.field-0.0) (sym divided)
    (c.in_err-first.ensures.fault (take c.loop-file.file-index files) (drop (c.loop-file.file-index + 1) files) c.loop-file.invariant.next))
