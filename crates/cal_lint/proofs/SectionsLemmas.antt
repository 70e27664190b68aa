-- An assignment has the number of its line, and the problems of the assignment are those of the line. The problems of a
-- line that begins with `[` begin after the line's leading blanks.
use Rattle.std.proofs.Common.{◌≡◌, ◌==◌, ℕ, Bool, true, false, List, None, Some, ap, length, map, refl, sym}
use Rattle.std.specs.Prelude.{if◌then◌else◌}
use Rattle.std.specs.Option.{option_to_list}
use Rattle.cal_read.specs.declared.texts.FileFault.{FileFault}
use Rattle.cal_timer.specs.rules.Assignments.{Assignment, assignment_of, section_of}
use Rattle.cal_timer.specs.rules.Lines.{Line}
use Rattle.cal_lint.specs.declared.problems.Problem.TheVariants.{BadHeader, UnknownSection}
use Rattle.cal_lint.specs.declared.sections.Section.{Section}
use Rattle.cal_lint.specs.rules.Columns.{first_column, value_in}
use Rattle.cal_lint.specs.rules.Findings.{assigned_problems, header_problem, problem_at, problem_in, problems_of}
use Rattle.cal_lint.specs.rules.Sections.{is_bad_header, is_unknown_section}

number_by : (has : Bool) (a b : Assignment) → (if has then Some b else None) ≡ Some a → a.number ≡ b.number
number_by true a b h = let same : b ≡ a = cc in ap (λ (x : Assignment). x.number) (sym same)
number_by false a b h = absurd (cc)

number_stays : (line : Line) (a : Assignment) → assignment_of line ≡ Some a → a.number ≡ line.number
unfolding assignment_of
number_stays line a h = number_by _ a _ h

pub assigned_are : (faults : List FileFault) (section : Section) (line : Line) (physical : List ℕ) (a : Assignment)
    → assignment_of line ≡ Some a → (length a.key == 0) ≡ false
    → map (problem_in line.number physical (value_in line)) (assigned_problems faults section (assignment_of line))
    ≡ map (problem_in a.number physical a.value) (problems_of faults section a)
assigned_are faults section line physical a is key = rw (is, key, number_stays line a is) refl

header_by : (bad unknown : Bool) (number : ℕ) (physical value : List ℕ)
    → map (problem_at number (first_column physical)) (option_to_list (if bad then Some BadHeader else (if unknown then Some UnknownSection else None)))
    ≡ map (problem_in number physical value) (option_to_list (if bad then Some BadHeader else (if unknown then Some UnknownSection else None)))
header_by true unknown number physical value = refl
header_by false true number physical value = refl
header_by false false number physical value = refl

pub header_columns : (text : List ℕ) (number : ℕ) (physical value : List ℕ)
    → map (problem_at number (first_column physical)) (option_to_list (header_problem text))
    ≡ map (problem_in number physical value) (option_to_list (header_problem text))
header_columns text number physical value = header_by (is_bad_header text) (is_unknown_section (section_of text)) number physical value
