-- Lines and phrases that several reports share (systemd-analyze(1), calendar and timestamp): the heading of an
-- expression, a text as the user gave it, an instant in UTC, and the distance of an instant from the present; and
-- the result of a run.
use Rattle.std.specs.Prelude.{ℕ, ℤ, ◌-ℤ◌, int_lt, unsigned_abs, List, [], ◌∷◌, if◌then◌else◌, codes}
use Rattle.cal_bytes.specs.rules.Bytes.{joined}
use Rattle.cal_zone.specs.rules.InstantText.{instant_text}
use Rattle.cal_span.specs.rules.SpanText.{span_text}
use Rattle.cal_zone.specs.rules.Zone.{is_utc, utc}
use Rattle.cal_zone.specs.declared.zone.Zone.{Zone}
use Rattle.cal_spec.specs.rules.ExprText.{expr_text}
use Rattle.cal_spec.specs.rules.Fields.{Fields}
use Rattle.cal_request.specs.declared.request.Status.{Status}

-- the label before an expression or a timestamp in its original form: as the user gave it, or as it is written in the
-- timer file
abbrev pub original_label : List ℕ
original_label = codes "  Original form: "

-- the label before an exception in its original form, as it is written in the timer file
abbrev pub except_label : List ℕ
except_label = codes "    Except form: "

-- a line with the label and the text as it was given, and then the label `Normalized form:`, with which the next line
-- begins
unfoldable pub text_line : List ℕ → List ℕ → List ℕ
text_line label text = joined (label ∷ text ∷ codes "\nNormalized form: " ∷ [])

-- the line with an instant in UTC, or nothing if the local zone is UTC; here, a zone with the fixed offset 0 doesn't
-- count as UTC
unfoldable pub utc_line : Zone → ℤ → List ℕ
utc_line local secs =
    if is_utc local then []
    else joined (codes "       (in UTC): " ∷ instant_text utc secs ∷ codes "\n" ∷ [])

-- ` ago` if the moment is earlier than the present, and ` left` otherwise
abbrev pub direction_text : ℤ → ℤ → List ℕ
direction_text now micros = if int_lt micros now then codes " ago" else codes " left"

-- the time span between the present and a moment, both given in microseconds, followed by ` left` or ` ago`
unfoldable pub distance_text : ℤ → ℤ → List ℕ
distance_text now micros = joined (span_text (unsigned_abs (micros -ℤ now)) ∷ direction_text now micros ∷ [])

-- the line of the normal form, without its label
unfoldable pub normal_line : Fields → List ℕ
normal_line fields = joined (expr_text fields ∷ codes "\n" ∷ [])

-- the heading: a line with the label and the expression as given, and a line with the normal form
unfoldable pub heading_text : List ℕ → List ℕ → Fields → List ℕ
heading_text label text fields = joined (text_line label text ∷ normal_line fields ∷ [])

-- the bytes that a run writes to standard output and to standard error, and its status
pub record Report : Type 0 where
  pub out : List ℕ
  pub err : List ℕ
  pub status : Status
