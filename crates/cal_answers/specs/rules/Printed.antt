-- What a run prints, and its exit status.
use Rattle.std.specs.Prelude.{◌≡◌, ◌++◌, ◌==◌, ℕ, List, [], codes, length, max, string_bytes, if◌then◌else◌}
use Rattle.cal_answers.specs.declared.answer.Answer.{Answer}

-- the texts for standard output and standard error, and the exit status
pub record Printed : Type 0 where
  pub out : List ℕ
  pub err : List ℕ
  pub status : ℕ

abbrev pub printed_of : Answer → Printed
printed_of answer = record { out = string_bytes answer.out; err = string_bytes answer.err; status = answer.status }

-- an error line that isn't about a timer, a file or a zone
abbrev pub program_line : List ℕ → List ℕ
program_line reason = codes "calendar-timers: " ++ reason ++ codes "\n"

-- What is printed if a question can't be answered at all: only an error line, with the reason. The exit status is 2.
abbrev pub IsStopped : List ℕ → Printed → Type 0
IsStopped reason printed = (printed.out ≡ []) × (printed.err ≡ program_line reason) × (printed.status ≡ 2)

-- the exit status of an answer whose status depends only on these error lines
abbrev pub status_by : List ℕ → ℕ
status_by lines = if length lines == 0 then 0 else 1

-- what is printed, with more error lines at the end; if there are any, the exit status is at least 1
abbrev pub with_errors : List ℕ → Printed → Printed
with_errors lines printed = record {
  out = printed.out;
  err = printed.err ++ lines;
  status = if length lines == 0 then printed.status else max printed.status 1;
}

-- what is printed, with more lines for standard error at the end, which don't change the exit status
abbrev pub with_notes : List ℕ → Printed → Printed
with_notes lines printed = record { out = printed.out; err = printed.err ++ lines; status = printed.status }
