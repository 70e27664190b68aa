-- The answer to one text, and to several in order: reports on standard output, error lines on standard error, and
-- the status.
use Rattle.std.specs.Prelude.{ℕ, ◌<◌, Bool, List, [], ◌∷◌, length, take, Option, Result, Ok, Err, is_err, if◌then◌else◌, codes}
use Rattle.std.specs.Io.KnownBytes.{Appends}
use Rattle.std.specs.List.{list_any, flat_map, join_by}
use Rattle.cal_bytes.specs.rules.Bytes.{joined}
use Rattle.cal_request.specs.declared.request.Status.{Status}
use Rattle.cal_request.specs.declared.request.Status.TheVariants.{Fine, Refused}

-- the report of a valid text, or the error message for an invalid one
abbrev pub Answer : Type 0
Answer = Result (List ℕ) (List ℕ)

-- a list with the report of a valid text, or the empty list for an invalid text
abbrev pub report_in : Answer → List (List ℕ)
report_in (Ok report) = report ∷ []
report_in (Err message) = []

-- the error line: `TEXT: MESSAGE`
abbrev pub error_line : List ℕ → List ℕ → List ℕ
error_line text message = joined (text ∷ codes ": " ∷ message ∷ codes "\n" ∷ [])

-- the error line if the text is invalid, and otherwise nothing
abbrev pub error_line_in : List ℕ → Answer → List ℕ
error_line_in text (Ok report) = []
error_line_in text (Err message) = error_line text message

-- what comes before a report: an empty line, or nothing if no report precedes it
abbrev pub lead_text : Bool → List ℕ
lead_text follows_report = if follows_report then codes "\n" else []

-- the report, or nothing if the text is invalid; an empty line comes before the report unless it is the first one
abbrev pub later_text : Bool → Answer → List ℕ
later_text follows_report (Ok report) = joined (lead_text follows_report ∷ report ∷ [])
later_text follows_report (Err message) = []

-- `Refused` if the text is invalid, and otherwise `Fine`
abbrev pub status_in : Answer → Status
status_in (Ok report) = Fine
status_in (Err message) = Refused

-- the reports in the order of the texts, with an empty line between consecutive reports
unfoldable pub reports_text : (List ℕ → Answer) → List (List ℕ) → List ℕ
reports_text answer texts = join_by (λ report. report) (codes "\n") (flat_map (λ text. report_in (answer text)) texts)

-- the error lines in the order of the texts
unfoldable pub error_lines : (List ℕ → Answer) → List (List ℕ) → List ℕ
error_lines answer = flat_map (λ text. error_line_in text (answer text))

-- `Refused` if at least one text is invalid, and otherwise `Fine`
unfoldable pub texts_status : (List ℕ → Answer) → List (List ℕ) → Status
texts_status answer texts = if list_any (λ text. is_err (answer text)) texts then Refused else Fine

-- The run stopped at one of the texts: the answers to the texts before it are written completely, and nothing
-- else is written.
pub record IsAnsweredBefore (answer : List ℕ → Answer) (texts : List (List ℕ)) (out_old out_new err_old err_new : Option (List ℕ)) : Type 0 where
  pub count : ℕ
  pub before : count < length texts
  pub out : Appends out_old out_new (reports_text answer (take count texts))
  pub err : Appends err_old err_new (error_lines answer (take count texts))
