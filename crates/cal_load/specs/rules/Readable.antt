-- Which lines of a unit file systemd reads (systemd.syntax(7), and the parser of systemd 252). It stops at the first
-- line that isn't UTF-8, that begins with `[` but isn't a section header, or that is too long: what comes before this
-- line counts, and the rest of the file is lost. The lines are logical lines, without leading and trailing blanks.
-- Comments aren't among them, so they can contain any bytes.
use Rattle.std.specs.Prelude.{◌≡◌, ℕ, ◌==◌, nat_le, nat_lt, Bool, false, true, not, ◌&&◌, ◌||◌, ◌%◌, if◌then◌else◌, List, [], ◌∷◌, Option, None, Some, length, slice_get, slice_index}
use Rattle.std.specs.List.{before_first, filter_map, list_any}
use Rattle.std.specs.Option.{is_some, option_map, option_or}
use Rattle.std.specs.Str.{chars, is_utf8}
use Rattle.cal_bytes.specs.rules.Trim.{trim_start_matches}
use Rattle.cal_timer.specs.rules.Assignments.{Assignment, assignments_in, is_header, trimmed}
use Rattle.cal_timer.specs.rules.Lines.{Line, is_blank_or_return, is_comment, logical_lines}
use Rattle.cal_timer.specs.rules.TimerText.{without_mark}
use Rattle.cal_read.specs.rules.SectionAssignments.{section_assignments}
use Rattle.cal_load.specs.declared.readable.BrokenLine.{BrokenLine}
use Rattle.cal_load.specs.declared.readable.BrokenReason.{BrokenReason}
use Rattle.cal_load.specs.declared.readable.BrokenReason.TheVariants.{NotUtf8, BadHeader, TooLong}

-- whether a section header can't have this byte: a control character, a quote or a backslash
abbrev pub is_bad_in_header : ℕ → Bool
is_bad_in_header b = nat_lt b 32 || (b == 34) || (b == 39) || (b == 92) || (b == 127)

-- an invalid section header: the line begins with `[`, but doesn't end with `]` or has a byte that a header can't have
abbrev pub is_bad_header : List ℕ → Bool
is_bad_header text = (slice_index text 0 == 91) && (not (is_header text) || list_any is_bad_in_header text)

-- the noncharacters of Unicode, which systemd rejects like bytes that aren't UTF-8: U+FDD0 to U+FDEF, and the last two
-- code points of each plane
abbrev pub is_noncharacter : ℕ → Bool
is_noncharacter c = (nat_le 0xFDD0 c && nat_le c 0xFDEF) || nat_le 0xFFFE (c % 0x1_0000)

-- whether systemd accepts the bytes as UTF-8
unfoldable pub is_clean_utf8 : List ℕ → Bool
is_clean_utf8 text = is_utf8 text && not (list_any is_noncharacter (chars text))

-- the length in bytes of the shortest line that is too long
abbrev pub line_limit : ℕ
line_limit = 1_048_576

-- why systemd stops at a line with this text, or None if it doesn't; if there are several reasons, the first of
-- `NotUtf8`, `BadHeader` and `TooLong` counts
unfoldable pub broken_reason : List ℕ → Option BrokenReason
broken_reason text =
    if is_clean_utf8 text
    then (if is_bad_header text then Some BadHeader else (if nat_le line_limit (length text) then Some TooLong else None))
    else Some NotUtf8

abbrev pub reason_at : Line → Option BrokenReason
reason_at line = broken_reason (trimmed line).text

-- whether systemd stops at the line
abbrev pub is_broken : Line → Bool
is_broken line = is_some (reason_at line)

abbrev pub broken_at : Line → BrokenReason → BrokenLine
broken_at line reason = record { number = line.number; reason = reason }

-- all lines at which systemd would stop, with the reasons
abbrev pub broken_lines : List Line → List BrokenLine
broken_lines = filter_map (λ line. option_map (broken_at line) (reason_at line))

-- the logical lines of a file whose first line has the number `first`
abbrev pub file_lines : ℕ → List ℕ → List Line
file_lines first bytes = logical_lines first (without_mark bytes)

-- the assignments of the sections with this name that systemd reads: those before the first line at which it stops
unfoldable pub section_read : List ℕ → ℕ → List ℕ → List Assignment
section_read name first bytes = section_assignments name false (before_first is_broken (file_lines first bytes))

-- the assignments of the section `Timer` that systemd reads
unfoldable pub assignments_read : ℕ → List ℕ → List Assignment
assignments_read first bytes = assignments_in false (before_first is_broken (file_lines first bytes))

-- the line at which systemd stops, or None if it reads the whole file
unfoldable pub broken_line : ℕ → List ℕ → Option BrokenLine
broken_line first bytes = slice_get (broken_lines (file_lines first bytes)) 0

-- ## Steps

-- The code reads a text in place of the file, which may not be UTF-8. In this text, a comment `#` replaces each comment
-- that isn't UTF-8. If another physical line isn't UTF-8, a line `?` replaces it, and is the last line: the text is
-- cut.

-- whether a physical line is UTF-8 or a comment
abbrev pub is_readable : List ℕ → Bool
is_readable line = if is_utf8 line then true else is_comment (trim_start_matches is_blank_or_return line)

-- what replaces a physical line, which ends with its line feed if it has one
abbrev pub line_in_text : List ℕ → List ℕ
line_in_text line =
    if is_utf8 line then line
    else (if is_comment (trim_start_matches is_blank_or_return line) then 35 ∷ 10 ∷ [] else 63 ∷ [])

abbrev pub no_lines : List Line → Bool
no_lines [] = true
no_lines (line ∷ lines) = false

-- Why systemd stops at a logical line of the text, or None if it doesn't; `after` are the lines after it. The last line
-- of a cut text replaces a line that isn't UTF-8.
unfoldable pub reason_in : Bool → Line → List Line → Option BrokenReason
reason_in is_cut line after = if is_cut && no_lines after then Some NotUtf8 else reason_at line

-- the logical lines before the one at which systemd stops
unfoldable pub lines_until_broken : Bool → List Line → List Line
lines_until_broken is_cut [] = []
lines_until_broken is_cut (line ∷ after) =
    if is_some (reason_in is_cut line after) then [] else line ∷ lines_until_broken is_cut after

-- the logical line at which systemd stops
unfoldable pub broken_in : Bool → List Line → Option BrokenLine
broken_in is_cut [] = None
broken_in is_cut (line ∷ after) = option_or (option_map (broken_at line) (reason_in is_cut line after)) (broken_in is_cut after)

-- reading a text with the logical lines `shown` has the same results as reading a file with the logical lines `lines`
abbrev pub StandFor : Bool → List Line → List Line → Type 0
StandFor is_cut shown lines =
    (lines_until_broken is_cut shown ≡ before_first is_broken lines) × (broken_in is_cut shown ≡ slice_get (broken_lines lines) 0)
