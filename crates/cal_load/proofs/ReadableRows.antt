-- Examples of the assignments that systemd reads in a file, and of the lines at which it stops.
use Rattle.std.proofs.Common.{◌≡◌, ℕ, List, [], ◌∷◌, ◌++◌, Option, Some, None, codes, map, refl}
use Rattle.std.specs.List.{flat_map}
use Rattle.std.specs.Str.{chars, is_utf8}
use lib.Utf8.{encode}
use Rattle.cal_bytes.specs.rules.Trim.{trim_end_matches, trim_matches, trim_start_matches}
use Rattle.cal_timer.specs.rules.Assignments.{Assignment, assignment_of, assignments_in, timer_lines}
use Rattle.cal_timer.specs.rules.Lines.{groups, is_continued, logical_lines, part_of_line, physical_lines, plain_lines}
use Rattle.cal_timer.specs.rules.TimerText.{without_mark}
use Rattle.cal_load.specs.declared.readable.BrokenLine.{BrokenLine}
use Rattle.cal_load.specs.declared.readable.BrokenReason.TheVariants.{NotUtf8, BadHeader}
use Rattle.cal_load.specs.rules.Readable.{assignments_read, broken_line, broken_reason, is_clean_utf8}

-- a file with these lines, each ended by a line feed
abbrev file : List (List ℕ) → List ℕ
file = flat_map (λ line. line ++ 10 ∷ [])

-- a line that ends with a backslash, so that it continues on the next line
abbrev continued : List ℕ → List ℕ
continued line = line ++ 92 ∷ []

-- a line that ends with a byte that isn't UTF-8
abbrev garbled : List ℕ → List ℕ
garbled line = line ++ 255 ∷ []

-- OnCalendar= with this value
abbrev calendar : ℕ → List ℕ → Assignment
calendar number value = record { number = number; key = codes "OnCalendar"; value = value }

-- a file, the assignments that are read in it, and the line at which systemd stops
abbrev Row : Type 0
Row = List ℕ × List Assignment × Option BrokenLine

abbrev rows : List Row
rows =
    -- in the next four rows: headers; in a continued line, what looks like a header is part of the value
    (file (codes "[Timer] # x" ∷ codes "OnCalendar=a" ∷ []), [], Some (record { number = 1; reason = BadHeader }))
    ∷ (file (codes "[Timer]" ∷ codes "OnCalendar=a" ∷ codes "[Install" ∷ codes "OnCalendar=b" ∷ []), calendar 2 (codes "a") ∷ [], Some (record { number = 3; reason = BadHeader }))
    ∷ (file (codes "[Timer]" ∷ continued (codes "OnCalendar=") ∷ codes "[Install" ∷ codes "OnCalendar=b" ∷ []), calendar 2 (codes "[Install") ∷ calendar 4 (codes "b") ∷ [], None)
    ∷ (file (codes " [Timer] " ∷ codes "OnCalendar=a" ∷ continued (codes "[X-Foo ") ∷ codes "] x" ∷ codes "[" ∷ []), calendar 2 (codes "a") ∷ [], Some (record { number = 3; reason = BadHeader }))
    -- in the next two rows: comments that aren't UTF-8
    ∷ (239 ∷ 187 ∷ 191 ∷ file (codes "[Timer]" ∷ garbled (codes " # ") ∷ codes "OnCalendar=a" ∷ []), calendar 3 (codes "a") ∷ [], None)
    ∷ (file (codes "[Timer]" ∷ continued (codes "OnCalendar=a") ∷ continued (garbled (codes ";")) ∷ codes "b" ∷ codes "OnCalendar=c" ∷ []), calendar 2 (codes "a b") ∷ calendar 5 (codes "c") ∷ [], None)
    -- in the remaining rows: other lines that aren't UTF-8, or have the noncharacter U+FDD0
    ∷ (file (codes "[Timer]" ∷ codes "OnCalendar=a" ∷ garbled (codes "OnCalendar=b") ∷ codes "OnCalendar=c" ∷ []), calendar 2 (codes "a") ∷ [], Some (record { number = 3; reason = NotUtf8 }))
    ∷ (file (codes "[Timer]" ∷ codes "OnCalendar=a" ∷ continued (codes "X-Foo=b") ∷ garbled (codes "# ") ∷ continued (garbled (codes "c")) ∷ codes "OnCalendar=d" ∷ []), calendar 2 (codes "a") ∷ [], Some (record { number = 3; reason = NotUtf8 }))
    ∷ (file (codes "[Timer]" ∷ codes "OnCalendar=a" ∷ (codes "# " ++ 239 ∷ 183 ∷ 144 ∷ []) ∷ (codes "X-Foo=" ++ 239 ∷ 183 ∷ 144 ∷ []) ∷ []), calendar 2 (codes "a") ∷ [], Some (record { number = 4; reason = NotUtf8 }))
    ∷ (garbled (codes "[Timer"), [], Some (record { number = 1; reason = NotUtf8 }))
    ∷ []

rows_read : map (λ (row : Row). assignments_read 1 row.0) rows ≡ map (λ (row : Row). row.1) rows
unfolding assignments_read broken_reason is_clean_utf8 assignments_in timer_lines assignment_of logical_lines groups plain_lines physical_lines part_of_line is_continued trim_matches trim_end_matches trim_start_matches without_mark is_utf8 chars encode
rows_read = refl

rows_broken : map (λ (row : Row). broken_line 1 row.0) rows ≡ map (λ (row : Row). row.2) rows
unfolding broken_line broken_reason is_clean_utf8 logical_lines groups plain_lines physical_lines part_of_line is_continued trim_matches trim_end_matches trim_start_matches without_mark is_utf8 chars encode
rows_broken = refl
