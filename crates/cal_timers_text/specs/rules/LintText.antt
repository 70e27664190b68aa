-- What `lint` prints about the problems of timers.
use Rattle.std.specs.Prelude.{ℕ, ◌-◌, ◌^◌, min, ◌==◌, ◌&&◌, ◌||◌, nat_le, nat_lt, Bool, true, false, not, List, [], ◌∷◌, ◌++◌, codes, drop, length, replicate, slice_get, take, Option, None, Some, string_bytes, if◌then◌else◌}
use Rattle.std.specs.Fmt.{decimal}
use Rattle.std.specs.List.{before_first}
use Rattle.std.specs.Option.{option_map, unwrap_or}
use Rattle.std.specs.Str.{is_utf8}
use Rattle.std.specs.Str.Lines.{lines}
use Rattle.cal_bytes.specs.rules.Separators.{is_blank, is_equals, words}
use Rattle.cal_bytes.specs.rules.Trim.{trim_end_matches}
use Rattle.cal_lint.specs.declared.problems.Finding.{Finding}
use Rattle.cal_lint.specs.declared.problems.Problem.{Problem}
use Rattle.cal_lint.specs.declared.problems.Problem.TheVariants.{Invalid, NoInstanceFits, UnknownKey, Rejected, Ambiguous, BadHeader, UnknownSection, OutsideSection, NoEquals, NoKey, BadUnitName, IgnoredValue, OpenStep}
use Rattle.cal_lint.specs.declared.problems.ProblemKind.{ProblemKind}
use Rattle.cal_lint.specs.declared.problems.ProblemKind.TheVariants as kinds
use Rattle.cal_timer.specs.rules.TimerText.{without_mark}
use Rattle.cal_timers_report.specs.declared.style.Emphasis.TheVariants as emphases
use Rattle.cal_timers_report.specs.declared.style.Style.{Style}
use Rattle.cal_timers_report.specs.rules.Columns.{blanks}
use Rattle.cal_timers_report.specs.rules.Emphasis.{begin_text, end_text}
use Rattle.cal_timers_report.specs.rules.PrintableText.{printable_text, shown_width}
use Rattle.cal_timers_text.specs.rules.Messages.{finding_message}

-- ## Problems without a column

-- the word for the kind of a problem, a colon and a space; the word and colon of an error are emphasized
unfoldable pub kind_text : Style → ProblemKind → List ℕ
kind_text style kinds.Error = begin_text style emphases.Error ++ (codes "error:" ++ (end_text style ++ codes " "))
kind_text style kinds.Warning = codes "warning: "

-- the number of the line, if the problem has one, and what separates it from the message
abbrev pub after_file : Option ℕ → List ℕ
after_file None = codes ": "
after_file (Some line) = codes ":" ++ (decimal line ++ codes ": ")

-- the line about a problem without a column; `file` is a path, or the name of a timer
unfoldable pub problem_line : Style → List ℕ → Option ℕ → ProblemKind → List ℕ → List ℕ
problem_line style file line kind message =
    printable_text file ++ (after_file line ++ (kind_text style kind ++ (message ++ codes "\n")))

-- ## Counts

-- a number and a noun in the form for this number, or nothing if the number is 0
unfoldable pub counted : ℕ → List ℕ → List ℕ
counted count noun =
    if count == 0 then []
    else (if count == 1 then codes "1 " ++ noun else decimal count ++ (codes " " ++ (noun ++ codes "s")))

-- what separates the numbers of errors and warnings; nothing if one of them is 0
abbrev pub counts_separator : ℕ → ℕ → List ℕ
counts_separator errors warnings = if nat_lt 0 errors && nat_lt 0 warnings then codes ", " else []

abbrev pub counts_end : ℕ → ℕ → List ℕ
counts_end errors warnings = if nat_lt 0 errors || nat_lt 0 warnings then codes "\n" else []

-- the line with the numbers of errors and warnings; nothing if both are 0
unfoldable pub counts_line : ℕ → ℕ → List ℕ
counts_line errors warnings =
    counted errors (codes "error")
    ++ (counts_separator errors warnings ++ (counted warnings (codes "warning") ++ counts_end errors warnings))

-- ## Problems with a column

-- the physical line with this number, counted from 1, or nothing if the text has no such line
unfoldable pub physical_line : List ℕ → ℕ → List ℕ
physical_line text number = unwrap_or (slice_get (lines (without_mark text)) (number - 1)) []

-- whether a problem is in the value of a setting
abbrev pub is_in_value : Problem → Bool
is_in_value (Invalid fault) = true
is_in_value NoInstanceFits = true
is_in_value (UnknownKey section) = false
is_in_value (Rejected rejection) = true
is_in_value (Ambiguous ambiguity) = true
is_in_value BadHeader = false
is_in_value UnknownSection = false
is_in_value OutsideSection = false
is_in_value NoEquals = false
is_in_value NoKey = false
is_in_value BadUnitName = true
is_in_value (IgnoredValue kind) = true
is_in_value (OpenStep flaw) = true

-- the text before the first `=`, or all of the text if it has no `=`, without blanks at its end
unfoldable pub key_of : List ℕ → List ℕ
key_of setting = trim_end_matches is_blank (before_first is_equals setting)

abbrev pub first_or_empty : List (List ℕ) → List ℕ
first_or_empty [] = []
first_or_empty (word ∷ others) = word

-- what is at fault in the text from the column on: the first word of a value, or else the key, which is the whole line
-- if there is no `=`
abbrev pub word_from : Problem → List ℕ → List ℕ
word_from problem after = if is_in_value problem then first_or_empty (words after) else key_of after

-- whether a text can be cut after its first `count` bytes
abbrev pub can_cut : List ℕ → ℕ → Bool
can_cut text count = nat_le count (length text) && is_utf8 (take count text)

-- whether a line has the column of a problem; if the problem is in a value, column 1 means that the column isn't known
abbrev pub has_column : List ℕ → Finding → Bool
has_column line finding =
    not (is_in_value finding.problem && nat_le finding.column 1) && can_cut line (finding.column - 1)

-- the text before the word at fault, and this word; None if the line doesn't have the column
unfoldable pub word_at_fault : List ℕ → Finding → Option (List ℕ × List ℕ)
word_at_fault line finding =
    if has_column line finding
    then Some (take (finding.column - 1) line, word_from finding.problem (drop (finding.column - 1) line)) else None

-- the number of characters that are printed for a text, limited to the greatest number of 64 bits
abbrev pub bounded_width : List ℕ → ℕ
bounded_width text = min (shown_width text) (2 ^ 64 - 1)

-- a line with `^` below the first character of the word, and `~` below its other characters
unfoldable pub caret_line : List ℕ → List ℕ → List ℕ
caret_line before word =
    blanks (bounded_width before) ++ (codes "^" ++ (replicate (bounded_width word - 1) 126 ++ codes "\n"))

-- the line with the caret, if the column of the problem is known
abbrev pub caret_lines : Option (List ℕ × List ℕ) → List ℕ
caret_lines None = []
caret_lines (Some fault) = caret_line fault.0 fault.1

-- a line with what to write instead
unfoldable pub suggestion_line : List ℕ → List ℕ
suggestion_line suggestion = codes "  write instead: " ++ (printable_text suggestion ++ codes "\n")

-- the line with what to write instead, if that is known
abbrev pub suggestion_lines : Option (List ℕ) → List ℕ
suggestion_lines None = []
suggestion_lines (Some suggestion) = suggestion_line suggestion

-- the line of the file that has the problem, and below it the caret and what to write instead
unfoldable pub excerpt : List ℕ → Finding → List ℕ
excerpt text finding =
    let line = physical_line text finding.line in
    printable_text line
    ++ (codes "\n" ++ (caret_lines (word_at_fault line finding) ++ suggestion_lines (option_map string_bytes finding.suggestion)))

-- the path, the number of the line and the column
unfoldable pub finding_place : List ℕ → ℕ → ℕ → List ℕ
finding_place path line column =
    printable_text path ++ (codes ":" ++ (decimal line ++ (codes ":" ++ (decimal column ++ codes ": "))))

-- the lines about a problem in the file at `path`, whose content is `text`: the place and the message, and the excerpt
unfoldable pub finding_lines : Style → List ℕ → List ℕ → Finding → List ℕ
finding_lines style path text finding =
    finding_place path finding.line finding.column
    ++ (kind_text style finding.kind
    ++ (finding_message finding.problem finding.mistake ++ (codes "\n" ++ excerpt text finding)))

-- the line about a problem in a file whose lines aren't shown: the place and the message
unfoldable pub placed_line : Style → List ℕ → ℕ → ℕ → ProblemKind → List ℕ → List ℕ
placed_line style file line column kind message =
    finding_place file line column ++ (kind_text style kind ++ (message ++ codes "\n"))
