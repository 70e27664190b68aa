-- Examples of sections and of the problems of lines, checked by computation.
use Rattle.std.proofs.Common.{◌≡◌, true, false, [], ◌∷◌, codes, refl, Some}
use Rattle.cal_bytes.specs.rules.Trim.{trim_end_matches, trim_matches, trim_start_matches}
use Rattle.cal_timer.specs.rules.Assignments.{assignment_of}
use Rattle.cal_timer.specs.rules.LineView.{line_at}
use Rattle.cal_lint.specs.rules.Findings.{header_problem, line_problems}
use Rattle.cal_lint.specs.rules.Sections.{is_unknown_section, section_after}
use Rattle.cal_lint.specs.declared.problems.Problem.TheVariants.{BadHeader, UnknownSection, OutsideSection, NoEquals, NoKey}
use Rattle.cal_lint.specs.declared.sections.OpenSection.TheVariants.{Outside, Known, Ignored}
use Rattle.cal_lint.specs.declared.sections.Section.TheVariants.{Unit, Timer}

known : is_unknown_section (codes "Install") ≡ false
known = refl

other_case : is_unknown_section (codes "timer") ≡ true
other_case = refl

vendor : is_unknown_section (codes "X-Vendor") ≡ false
vendor = refl

empty_name : header_problem (codes "[]") ≡ Some UnknownSection
empty_name = refl

with_a_comment : header_problem (codes "[Timer] # x") ≡ Some BadHeader
with_a_comment = refl

quoted : header_problem (codes "[Ti\"mer]") ≡ Some BadHeader
quoted = refl

timer : section_after Outside (codes "[Timer]") ≡ Known Timer
timer = refl

vendor_section : section_after (Known Timer) (codes "[X-Vendor]") ≡ Ignored
vendor_section = refl

outside : line_problems [] (record { section = Outside; line = line_at 1 (codes "a=b") }) ≡ OutsideSection ∷ []
outside = refl

no_equals : line_problems [] (record { section = Known Unit; line = line_at 1 (codes "Wants") }) ≡ NoEquals ∷ []
unfolding assignment_of
no_equals = refl

no_key : line_problems [] (record { section = Known Timer; line = line_at 1 (codes "=x") }) ≡ NoKey ∷ []
unfolding assignment_of trim_matches trim_start_matches trim_end_matches
no_key = refl

ignored : line_problems [] (record { section = Ignored; line = line_at 1 (codes "Wants") }) ≡ []
ignored = refl
