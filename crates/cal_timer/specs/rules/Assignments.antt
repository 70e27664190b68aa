-- The assignments in the section `Timer` of a unit file: systemd.syntax(7).
use Rattle.std.specs.Prelude.{ℕ, ◌-◌, ◌==◌, Bool, ◌&&◌, if◌then◌else◌, List, [], ◌∷◌, length, map, take, drop, slice_index, codes, Option, None, Some}
use Rattle.std.specs.List.{after_first, before_first, filter_map, list_any}
use Rattle.std.specs.Str.{bytes_eq}
use Rattle.cal_bytes.specs.rules.Trim.{trim_matches}
use Rattle.cal_timer.specs.rules.Lines.{Line, is_blank_or_return}
use Rattle.cal_bytes.specs.rules.Separators.{is_equals}

-- whether a logical line opens a section: it begins with `[` and ends with `]`, and the name of the section is between
-- the brackets
abbrev pub is_header : List ℕ → Bool
is_header text = (slice_index text 0 == 91) && (slice_index text (length text - 1) == 93)

abbrev pub section_of : List ℕ → List ℕ
section_of text = take (length text - 2) (drop 1 text)

-- a line without leading and trailing blanks and carriage returns
abbrev pub trimmed : Line → Line
trimmed line = record { number = line.number; text = trim_matches is_blank_or_return line.text }

-- The lines of the section `Timer` without headers; `inside` says whether the lines before the first header are in the
-- section. The name of the section must match exactly.
unfoldable pub timer_lines : Bool → List Line → List Line
timer_lines inside [] = []
timer_lines inside (line ∷ lines) =
    if is_header line.text then timer_lines (bytes_eq (section_of line.text) (codes "Timer")) lines
    else (if inside then line ∷ timer_lines inside lines else timer_lines inside lines)

-- an assignment: its key, its value, and the number of its line
pub record Assignment : Type 0 where
  pub number : ℕ
  pub key : List ℕ
  pub value : List ℕ

-- the assignment in a line: the key is before the first `=`, and the value after it; `None` if the line has no `=`
unfoldable pub assignment_of : Line → Option Assignment
assignment_of line =
    if list_any is_equals line.text
    then Some (record {
      number = line.number;
      key = trim_matches is_blank_or_return (before_first is_equals line.text);
      value = trim_matches is_blank_or_return (after_first is_equals line.text);
    })
    else None

-- the assignments of the section `Timer` in these logical lines; `inside` says whether the lines before the first
-- header are in the section
unfoldable pub assignments_in : Bool → List Line → List Assignment
assignments_in inside lines = filter_map assignment_of (timer_lines inside (map trimmed lines))
