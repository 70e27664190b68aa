-- The part of a report that lists elapses (systemd-analyze(1), calendar).
use Rattle.std.specs.Prelude.{ℕ, ◌+◌, ◌-◌, ◌==◌, ℤ, List, [], ◌∷◌, ◌++◌, length, replicate, if◌then◌else◌, codes, decimal}
use Rattle.cal_bytes.specs.rules.Bytes.{joined}
use Rattle.cal_zone.specs.rules.InstantText.{instant_text}
use Rattle.cal_zone.specs.declared.zone.Zone.{Zone}
use Rattle.cal_zone.specs.rules.Instant.{micros_of}
use Rattle.cal_report.specs.rules.ReportLines.{distance_text, utc_line}

-- the label of the elapse with this number, counted from 1; the text before the colon is right-aligned in 15 columns
unfoldable pub label_text : ℕ → List ℕ
label_text number =
    if number == 1 then codes "    Next elapse: "
    else joined (replicate (8 - length (decimal number)) 32 ∷ codes "Iter. #" ∷ decimal number ∷ codes ": " ∷ [])

-- the lines of one elapse: in the local zone, in UTC unless the local zone is UTC, and its distance from the present
unfoldable pub elapse_text : Zone → ℤ → ℕ → ℤ → List ℕ
elapse_text local now number elapse =
    joined (label_text number ∷ instant_text local elapse ∷ codes "\n" ∷ utc_line local elapse ∷ codes "       From now: " ∷ distance_text (micros_of now) (micros_of elapse) ∷ codes "\n" ∷ [])

-- the lines of these elapses, with labels that count from `number`
abbrev pub elapse_texts : Zone → ℤ → ℕ → List ℤ → List ℕ
elapse_texts local now number [] = []
elapse_texts local now number (elapse ∷ elapses) = elapse_text local now number elapse ++ elapse_texts local now (number + 1) elapses

-- the lines of these elapses, with labels that count from 1, or a line with `never` if there are none
abbrev pub elapses_text : Zone → ℤ → List ℤ → List ℕ
elapses_text local now [] = codes "    Next elapse: never\n"
elapses_text local now (elapse ∷ elapses) = elapse_texts local now 1 (elapse ∷ elapses)
