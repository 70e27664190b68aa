-- Examples that check the definitions of timer files. In each example, either every expression is valid and is parsed
-- as its own text (`reads`), or every expression is invalid (`rejects`).
use Rattle.std.proofs.Common.{◌≡◌, ℕ, List, [], ◌∷◌, ◌++◌, codes, refl, Result, Ok, Err}
use Rattle.std.specs.Prelude.{map}
use Rattle.std.specs.List.{flat_map}
use Rattle.std.specs.Str.{chars, is_utf8}
use Rattle.std.specs.Str.Lossy.{utf8_valid_len}
use lib.Utf8.{encode}
use Rattle.cal_spec.specs.declared.spec_fault.SpecFault.{SpecFault}
use Rattle.cal_spec.specs.declared.spec_fault.SpecFault.TheVariants.{NoRepeat}
use Rattle.cal_timer.specs.rules.Assignments.{assignment_of, assignments_in, timer_lines}
use Rattle.cal_bytes.specs.rules.Trim.{trim_matches, trim_end_matches, trim_start_matches}
use Rattle.cal_timer.specs.rules.Keys.{keys_of, kind_of}
use Rattle.cal_timer.specs.rules.Lines.{groups, is_continued, logical_lines, part_of_line, physical_lines, plain_lines}
use Rattle.cal_timer.specs.rules.TimerEntries.{Timer, TimerLine, broken_line, entries, fault_following, fault_joining, first_fault, lists_of, timer_in, timer_of}
use Rattle.cal_timer.specs.rules.TimerText.{excepted, is_exception, is_exception_reset, is_expression, is_reset, listed, without_mark}
use Rattle.cal_timer.specs.declared.fault.TimerFault.{TimerFault}
use Rattle.cal_timer.specs.declared.fault.TimerFault.TheVariants.{BadLine, NothingToDo, NotUtf8}

-- a file with these lines, each ended by a line feed
abbrev file : List (List ℕ) → List ℕ
file = flat_map (λ line. line ++ 10 ∷ [])

-- a line that ends with a backslash, so that it continues on the next line
abbrev continued : List ℕ → List ℕ
continued line = line ++ 92 ∷ []

-- an entry whose expression is its own text
abbrev entry : ℕ → List ℕ → TimerLine (List ℕ)
entry number text = record { number = number; text = text; expr = text }

abbrev reads : List ℕ → Result (List ℕ) SpecFault
reads text = Ok text

abbrev rejects : List ℕ → Result (List ℕ) SpecFault
rejects text = Err NoRepeat

-- the result for a file with these expressions and these exceptions
abbrev gives : List (TimerLine (List ℕ)) → List (TimerLine (List ℕ)) → Result (Timer (List ℕ)) TimerFault
gives es xs = Ok (record { expressions = es; exceptions = xs })

-- how expressions are parsed, a file, and its result
abbrev Row : Type 0
Row = (List ℕ → Result (List ℕ) SpecFault) × List ℕ × Result (Timer (List ℕ)) TimerFault

abbrev rows : List Row
rows =
    -- in the next row: a list that is cleared, and a line that is continued after a comment
    (reads, file (codes "[Unit]" ∷ codes "Description=x" ∷ codes "[Timer]" ∷ codes "OnCalendar=daily" ∷ codes "OnBootSec=" ∷ continued (codes "OnCalendar=Mon ") ∷ codes "# the minutes" ∷ codes "  *:0/30" ∷ codes "OnCalendar=hourly" ∷ []), gives (entry 6 (codes "Mon  *:0/30") ∷ entry 9 (codes "hourly") ∷ []) [])
    -- in the next five rows: line endings, byte order marks, sections and backslashes
    ∷ (reads, 239 ∷ 187 ∷ 191 ∷ codes "[Timer]" ++ 13 ∷ 10 ∷ codes "OnCalendar= a " ++ 13 ∷ 13 ∷ 10 ∷ [], gives (entry 2 (codes "a") ∷ []) [])
    ∷ (reads, file (codes "OnCalendar=a" ∷ codes " [Timer] " ∷ codes "OnCalendar=b" ∷ codes "[Unit]" ∷ codes "OnCalendar=" ∷ []), gives (entry 3 (codes "b") ∷ []) [])
    ∷ (reads, codes "[Timer]" ++ 10 ∷ continued (codes "OnCalendar=a"), gives (entry 2 (codes "a") ∷ []) [])
    ∷ (reads, file (codes "[Timer]" ∷ continued (continued (codes "OnCalendar=a")) ∷ codes "OnCalendar=b" ∷ []), gives (entry 2 (codes "a" ++ 92 ∷ 92 ∷ []) ∷ entry 3 (codes "b") ∷ []) [])
    ∷ (reads, file (codes "[Timer]" ∷ continued (codes "; x ") ∷ codes "OnCalendar=a=b" ∷ []), gives (entry 3 (codes "a=b") ∷ []) [])
    -- in the next three rows: exceptions; only `X-ExceptOnCalendar=` without a value clears the list of exceptions, and
    -- a file that has no expressions is invalid even if it has exceptions
    ∷ (reads, file (codes "[Timer]" ∷ codes "OnCalendar=daily" ∷ codes "X-ExceptOnCalendar=Sat,Sun 12:00" ∷ codes "OnBootSec=" ∷ codes "OnCalendar=12:00" ∷ []), gives (entry 5 (codes "12:00") ∷ []) (entry 3 (codes "Sat,Sun 12:00") ∷ []))
    ∷ (reads, file (codes "[Timer]" ∷ codes "OnCalendar=a" ∷ codes "X-ExceptOnCalendar=b" ∷ codes "X-ExceptOnCalendar=" ∷ codes "X-ExceptOnCalendar=c" ∷ []), gives (entry 2 (codes "a") ∷ []) (entry 5 (codes "c") ∷ []))
    ∷ (reads, file (codes "[Timer]" ∷ codes "X-ExceptOnCalendar=b" ∷ []), Err NothingToDo)
    -- in the remaining rows: errors
    ∷ (rejects, [], Err NothingToDo)
    ∷ (rejects, codes "[Timer]" ++ 10 ∷ codes "OnCalendar=20/4:00", Err (BadLine 2 NoRepeat))
    ∷ (rejects, file (codes "[Timer]" ∷ codes "OnCalendar=daily" ∷ (codes "x" ++ 255 ∷ []) ∷ []), Err (NotUtf8 3))
    ∷ (rejects, 10 ∷ 195 ∷ 10 ∷ [], Err (NotUtf8 2))
    ∷ (rejects, file (codes "[Timer]" ∷ codes "OnCalendar=x" ∷ codes "OnCalendar=" ∷ codes "OnCalendar=y" ∷ []), Err (BadLine 2 NoRepeat))
    ∷ (rejects, codes "[Timer]" ++ 10 ∷ codes "X-ExceptOnCalendar=20/4:00", Err (BadLine 2 NoRepeat))
    ∷ []

rows_read : map (λ (row : Row). timer_in row.0 row.1) rows ≡ map (λ (row : Row). row.2) rows
unfolding timer_in timer_of lists_of first_fault fault_following fault_joining listed excepted entries is_reset is_expression is_exception is_exception_reset kind_of keys_of assignments_in timer_lines assignment_of logical_lines groups plain_lines physical_lines part_of_line is_continued trim_matches trim_end_matches trim_start_matches without_mark broken_line is_utf8 chars encode utf8_valid_len
rows_read = refl
