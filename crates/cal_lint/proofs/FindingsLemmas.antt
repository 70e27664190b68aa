-- If a unit has only one file, and the first line of this file has the number 1, `timer_faults` lists all errors of the
-- unit. The problems of the lines of a file are those of its first line, followed by those of the other lines.
use Rattle.std.proofs.Common.{◌≡◌, ◌∙◌, ◌++◌, ℕ, List, false, [], ◌∷◌, ap, append-nil, append_assoc, map, sym}
use Rattle.std.specs.List.{flat_map}
use Rattle.cal_bytes.specs.rules.Trim.{trim_matches}
use Rattle.cal_timer.specs.rules.Lines.{Line, is_blank_or_return, logical_lines}
use Rattle.cal_timer.specs.rules.LineView.{line_at}
use Rattle.cal_spec.specs.computed.Expr.{expr_in}
use Rattle.cal_timer.specs.rules.Assignments.{assignments_in, trimmed}
use Rattle.cal_timer.specs.rules.TimerText.{without_mark}
use Rattle.cal_read.specs.rules.TimerFaults.{all_faults, faults_of, in_file}
use Rattle.cal_read.specs.rules.TimerTexts.{assignments_at}
use Rattle.cal_read.specs.declared.texts.FileFault.{FileFault}
use Rattle.cal_read.specs.declared.texts.NumberedText.{NumberedText}
use Rattle.cal_read.proofs.SectionAssignmentsLemmas.{assignments_of_timer}
use Rattle.cal_lint.specs.declared.sections.OpenSection.{OpenSection}
use Rattle.cal_lint.specs.rules.Columns.{physical_line, value_in}
use Rattle.cal_lint.specs.rules.Findings.{FoundProblem, found_problems, line_problems, problem_in, timer_faults}
use Rattle.cal_lint.specs.rules.Sections.{PlacedLine, placed_lines, section_after}

pub faults_of_one : (file : NumberedText) → file.first ≡ 1 → faults_of expr_in [] 0 (file ∷ []) ≡ timer_faults file.text.now
unfolding faults_of
faults_of_one file e =
    append-nil (map (in_file 0) (all_faults expr_in [] (assignments_at file)))
    ∙ ap (λ all. map (in_file 0) (all_faults expr_in [] all))
    (ap (λ n. assignments_in false (logical_lines n (without_mark file.text.now))) e
    ∙ sym (assignments_of_timer false (logical_lines 1 (without_mark file.text.now))))

abbrev placed : OpenSection → ℕ → List ℕ → PlacedLine
placed section n text = record { section = section; line = line_at n text }

-- if the problems so far, followed by those of the remaining lines, are all problems, this is still true after the
-- problems of the next line were added
pub one_line_more : (faults shown : List FileFault) (physical lines : List (List ℕ)) (section after : OpenSection) (n : ℕ) (logical text line : List ℕ)
    (here rest : List Line) (old new all : List FoundProblem)
    → shown ≡ faults → physical ≡ lines → line ≡ physical_line physical n
    → here ≡ line_at n logical ∷ rest → text ≡ trim_matches is_blank_or_return logical → after ≡ section_after section text
    → new ≡ old ++ map (problem_in n line (value_in (line_at n text))) (line_problems shown (placed section n text))
    → old ++ flat_map (found_problems faults lines) (placed_lines section (map trimmed here)) ≡ all
    → new ++ flat_map (found_problems faults lines) (placed_lines after (map trimmed rest)) ≡ all
one_line_more faults shown physical lines section after n logical text line here rest old new all same_faults same_lines is_line is_here is_text is_after added before =
    let found : List PlacedLine → List FoundProblem = flat_map (found_problems faults lines) in
    let next : found (placed_lines section (map trimmed here)) ≡ found_problems faults lines (placed section n text) ++ found (placed_lines after (map trimmed rest)) =
    ap (λ (ls : List Line). found (placed_lines section (map trimmed ls))) is_here
    ∙ ap (λ (t : List ℕ). found (placed section n t ∷ placed_lines (section_after section t) (map trimmed rest))) (sym is_text)
    ∙ ap (λ (s : OpenSection). found (placed section n text ∷ placed_lines s (map trimmed rest))) (sym is_after) in
    let own : map (problem_in n line (value_in (line_at n text))) (line_problems shown (placed section n text)) ≡ found_problems faults lines (placed section n text) =
    ap (λ (fs : List FileFault). map (problem_in n line (value_in (line_at n text))) (line_problems fs (placed section n text))) same_faults
    ∙ ap (λ (l : List ℕ). map (problem_in n l (value_in (line_at n text))) (line_problems faults (placed section n text)))
    (is_line ∙ ap (λ (ls : List (List ℕ)). physical_line ls n) same_lines) in
    ap (λ (xs : List FoundProblem). xs ++ found (placed_lines after (map trimmed rest))) (added ∙ ap (λ (xs : List FoundProblem). old ++ xs) own)
    ∙ append_assoc old (found_problems faults lines (placed section n text)) (found (placed_lines after (map trimmed rest)))
    ∙ ap (λ (xs : List FoundProblem). old ++ xs) (sym next)
    ∙ before
