-- The exit status of `lint`, by the numbers of errors and warnings that it found.
use Rattle.std.specs.Prelude.{ℕ, nat_lt, Bool, ◌&&◌, ◌||◌, if◌then◌else◌}
use Rattle.cal_timers_text.specs.declared.finding_lines.ProblemCounts.{ProblemCounts}

-- 1 if something couldn't be read, or if there is an error or, with `--strict`, a warning
abbrev pub lint_status : Bool → ProblemCounts → Bool → ℕ
lint_status is_strict counts is_incomplete =
    if is_incomplete || nat_lt 0 counts.errors || (is_strict && nat_lt 0 counts.warnings) then 1 else 0
