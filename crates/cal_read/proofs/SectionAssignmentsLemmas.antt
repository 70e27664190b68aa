-- Lemmas on what each logical line adds to the assignments of a section.
use Rattle.std.proofs.Common.{◌≡◌, Bool, true, false, List, [], ◌∷◌, ◌++◌, ℕ, codes, map, refl, ap, Option, Some, None}
use Rattle.std.specs.List.{filter_map}
use Rattle.std.specs.Option.{option_to_list}
use Rattle.std.specs.Str.{bytes_eq}
use Rattle.cal_bytes.specs.rules.Trim.{trim_matches}
use Rattle.cal_timer.specs.rules.Lines.{Line, is_blank_or_return}
use Rattle.cal_timer.specs.rules.Assignments.{Assignment, assignment_of, assignments_in, is_header, section_of, timer_lines, trimmed}
use Rattle.cal_read.specs.rules.SectionAssignments.{section_assignments, section_lines}

-- the assignments of the section `Timer` are those of a timer file (the induction step)
lines_by : (headed inside : Bool) (line : Line) (lines : List Line) → is_header line.text ≡ headed → ((inside : Bool) → section_lines (codes "Timer") inside lines ≡ timer_lines inside lines)
    → section_lines (codes "Timer") inside (line ∷ lines) ≡ timer_lines inside (line ∷ lines)
unfolding section_lines timer_lines
lines_by true inside line lines e next = rw e (next (bytes_eq (section_of line.text) (codes "Timer")))
lines_by false true line lines e next = rw e (ap (λ ls. line ∷ ls) (next true))
lines_by false false line lines e next = rw e (next false)

lines_of_timer : (inside : Bool) (lines : List Line) → section_lines (codes "Timer") inside lines ≡ timer_lines inside lines
unfolding section_lines timer_lines
lines_of_timer inside [] = refl
lines_of_timer inside (line ∷ lines) = lines_by (is_header line.text) inside line lines refl (λ inside. lines_of_timer inside lines)

pub assignments_of_timer : (inside : Bool) (lines : List Line) → section_assignments (codes "Timer") inside lines ≡ assignments_in inside lines
unfolding section_assignments assignments_in
assignments_of_timer inside lines = ap (filter_map assignment_of) (lines_of_timer inside (map trimmed lines))

-- without lines there are no assignments
pub no_assignments : (name : List ℕ) (inside : Bool) → section_assignments name inside [] ≡ []
unfolding section_assignments section_lines
no_assignments name inside = refl

-- after a header, the lines up to the next header belong to the section that the header opens
pub header_opens : (name : List ℕ) (inside : Bool) (line : Line) (after : List Line) → is_header (trim_matches is_blank_or_return line.text) ≡ true
    → section_assignments name inside (line ∷ after) ≡ section_assignments name (bytes_eq (section_of (trim_matches is_blank_or_return line.text)) name) after
unfolding section_assignments section_lines
header_opens name inside line after e = rw e refl

-- outside the section, a line that isn't a header adds nothing
pub outside_none : (name : List ℕ) (line : Line) (after : List Line) → is_header (trim_matches is_blank_or_return line.text) ≡ false → section_assignments name false (line ∷ after) ≡ section_assignments name false after
unfolding section_assignments section_lines
outside_none name line after e = rw e refl

some_or_none : (line : Line) (o : Option Assignment) (lines : List Line) → assignment_of (trimmed line) ≡ o → filter_map assignment_of (trimmed line ∷ lines) ≡ option_to_list o ++ filter_map assignment_of lines
some_or_none line (Some a) lines e = rw e refl
some_or_none line None lines e = rw e refl

-- in the section, a line that isn't a header adds its assignment, if it has one
pub inside_gives : (name : List ℕ) (line : Line) (o : Option Assignment) (after : List Line) → is_header (trim_matches is_blank_or_return line.text) ≡ false → assignment_of (trimmed line) ≡ o
    → section_assignments name true (line ∷ after) ≡ option_to_list o ++ section_assignments name true after
unfolding section_assignments section_lines
inside_gives name line o after e f = rw e (some_or_none line o (section_lines name true (map trimmed after)) f)
