-- The report of one timestamp (systemd-analyze(1), timestamp).
use Rattle.std.specs.Prelude.{ℕ, ◌/◌, ◌%◌, ◌==◌, ℤ, pos, unsigned_abs, List, [], ◌∷◌, Result, if◌then◌else◌, codes, decimal}
use Rattle.std.specs.Result.{result_map_both}
use Rattle.cal_bytes.specs.rules.Bytes.{joined}
use Rattle.cal_civil.specs.rules.OffsetText.{zeros}
use Rattle.cal_zone.specs.rules.InstantText.{instant_text}
use Rattle.cal_zone.specs.declared.zone.Zone.{Zone}
use Rattle.cal_stamp.specs.computed.Stamp.{moment_in}
use Rattle.cal_stamp.specs.rules.StampFault.{message_of}
use Rattle.cal_stamp.specs.declared.fault.StampFault.{StampFault}
use Rattle.cal_report.specs.rules.Answer.{Answer}
use Rattle.cal_report.specs.rules.Context.{setting_of}
use Rattle.cal_zone.specs.rules.Instant.{micros_of, micros_per_second}
use Rattle.cal_report.specs.rules.ReportLines.{distance_text, original_label, text_line, utc_line}
use Rattle.cal_request.specs.rules.Request.{Request}

-- the second in which a moment lies; `unsigned_abs` changes nothing, since moments are never negative
abbrev pub second_at : ℤ → ℤ
second_at micros = pos (unsigned_abs micros / micros_per_second)

-- `@` and the Unix time in seconds, followed by a point and six digits of microseconds unless these are 0
unfoldable pub unix_text : ℕ → List ℕ
unix_text micros =
    let fraction = micros % micros_per_second in
    if fraction == 0 then joined (codes "@" ∷ decimal (micros / micros_per_second) ∷ [])
    else joined (codes "@" ∷ decimal (micros / micros_per_second) ∷ codes "." ∷ zeros 6 fraction ∷ decimal fraction ∷ [])

-- the lines that describe a moment, without the label of the first line: its instant in the local zone, and also in UTC
-- unless the local zone is UTC; its Unix time; and its distance from the present
unfoldable pub moment_lines : Zone → ℤ → ℤ → List ℕ
moment_lines local now micros =
    joined (instant_text local (second_at micros) ∷ codes "\n" ∷ utc_line local (second_at micros) ∷ codes "   UNIX seconds: " ∷ unix_text (unsigned_abs micros) ∷ codes "\n       From now: " ∷ distance_text (micros_of now) micros ∷ codes "\n" ∷ [])

-- the timestamp as the user gave it, and the lines that describe its moment
unfoldable pub timestamp_report : Request → List ℕ → ℤ → List ℕ
timestamp_report asked text micros = joined (text_line original_label text ∷ moment_lines asked.local asked.now micros ∷ [])

-- the moment that a timestamp resolves to, in microseconds of Unix time, or why the timestamp is invalid
unfoldable pub stamp_in : Request → List ℕ → Result ℤ StampFault
stamp_in asked text = moment_in asked.now (setting_of asked) text

-- the report of a timestamp, or the error message
unfoldable pub timestamp_answer : Request → List ℕ → Answer
timestamp_answer asked text = result_map_both (timestamp_report asked text) message_of (stamp_in asked text)
