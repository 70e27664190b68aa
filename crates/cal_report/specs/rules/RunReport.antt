-- The report of a request: what goes to standard output, what goes to standard error, and the status.
use Rattle.std.specs.Prelude.{◌≡◌, ℕ, ℤ, Bool, List, [], Option, None, Some, Result, Ok, Err, IfOk, codes}
use Rattle.std.specs.Result.{result_map_both}
use Rattle.cal_bytes.specs.rules.Writes.{Writes}
use Rattle.cal_bytes.specs.rules.Whole.{is_read_failed}
use Rattle.cal_bytes.specs.declared.whole.WholeFault.{WholeFault}
use Rattle.cal_bytes.specs.declared.whole.WholeFault.TheVariants.{NoMemory}
use Rattle.cal_zone.specs.declared.instant.Instant.{Instant}
use Rattle.cal_timer.specs.rules.TimerEntries.{ReadsWhole, timer_file_limit}
use Rattle.cal_stamp.specs.rules.StampFault.{message_of}
use Rattle.cal_stamp.specs.declared.fault.StampFault.{StampFault}
use Rattle.cal_report.specs.rules.BaseTime.{IsBase}
use Rattle.cal_report.specs.rules.Answer.{Answer, IsAnsweredBefore, error_line, reports_text, error_lines, texts_status}
use Rattle.cal_request.specs.rules.RequestKind.{RequestKind, for_file, for_texts, kind_of}
use Rattle.cal_request.specs.rules.Request.{Request}
use Rattle.cal_report.specs.rules.TimerReport.{HadMemory, timer_answer}
use Rattle.cal_report.specs.rules.TextReport.{answer_by}
use Rattle.cal_report.specs.rules.TextReport.TimestampReport.{second_at, stamp_in}
use Rattle.cal_request.specs.declared.request.RunFault.{RunFault}
use Rattle.cal_request.specs.declared.request.Status.{Status}
use Rattle.cal_request.specs.declared.request.Status.TheVariants.{Fine, Refused}
use Rattle.cal_request.specs.declared.verb.TextVerb.{TextVerb}
use Rattle.cal_report.specs.rules.ReportLines.{Report}

-- the second in which the moment of a timestamp lies, or why the timestamp is invalid
abbrev pub second_or_fault : Result ℤ StampFault → Result ℤ StampFault
second_or_fault = result_map_both second_at (λ fault. fault)

-- the base time: the second of this timestamp, or the present if no timestamp is given
abbrev pub base_from : Request → Option (List ℕ) → Result ℤ StampFault
base_from asked None = Ok asked.now
base_from asked (Some text) = second_or_fault (stamp_in asked text)

-- the result of parsing the base time, with the instant replaced by its seconds
abbrev pub secs_or_fault : Result Instant StampFault → Result ℤ StampFault
secs_or_fault = result_map_both (λ instant. instant.secs) (λ fault. fault)

-- the base time of the request, or why it is invalid
unfoldable pub base_in : Request → Result ℤ StampFault
base_in asked = base_from asked asked.base

-- the report of texts, in order; `answer` returns the answer to a text
unfoldable pub answers_report : (List ℕ → Answer) → List (List ℕ) → Report
answers_report answer texts = record {
  out = reports_text answer texts;
  err = error_lines answer texts;
  status = texts_status answer texts;
}

-- the result of a run that writes a single report (`Ok`) or a single error line (`Err`)
abbrev pub whole_report : Result (List ℕ) (List ℕ) → Report
whole_report (Ok text) = record { out = text; err = []; status = Fine }
whole_report (Err line) = record { out = []; err = line; status = Refused }

-- the report for a valid base time, or one error line if the base time is invalid
abbrev pub report_from : (ℤ → Report) → Result ℤ StampFault → Report
report_from report_after (Err fault) = whole_report (Err (error_line (codes "--base-time") (message_of fault)))
report_from report_after (Ok base) = report_after base

-- the report of texts, with the options of the request
abbrev pub texts_report : Request → TextVerb → List (List ℕ) → Report
texts_report asked verb texts = report_from (λ base. answers_report (answer_by verb asked base) texts) (base_in asked)

-- the report of the timer file `name`, with the options of the request; `read` is what reading the file returned
abbrev pub file_report : Request → List ℕ → Result (List ℕ) WholeFault → Report
file_report asked name read = report_from (λ base. whole_report (timer_answer asked base name read)) (base_in asked)

abbrev pub report_on : Request → Result (List ℕ) WholeFault → RequestKind → Report
report_on asked read (for_texts verb texts) = texts_report asked verb texts
report_on asked read (for_file name) = file_report asked name read

-- the report of a request; `read` is what reading the input returned
unfoldable pub report : Request → Result (List ℕ) WholeFault → Report
report asked read = report_on asked read (kind_of asked)

-- the input stays unchanged, and `read` is an empty list of bytes
abbrev pub IsUnread : Option (List ℕ) → Option (List ℕ) → Result (List ℕ) WholeFault → Type 0
IsUnread old new read = (new ≡ old) × (read ≡ Ok [])

-- `read` is what reading a timer file returned, given the result of parsing the base time: all bytes of the file, or
-- why reading them failed. If the base time is invalid, the file stays unchanged, and `read` is an empty list of bytes.
abbrev pub ReadsFile : Result ℤ StampFault → Option (List ℕ) → Option (List ℕ) → Result (List ℕ) WholeFault → Type 0
ReadsFile (Ok base) old new read = ReadsWhole old new timer_file_limit read
ReadsFile (Err fault) old new read = IsUnread old new read

-- `read` is what reading the timer file returned: all of its bytes, or why reading them failed. The file is read if and
-- only if the base time of the request is valid.
pub record ReadsIfBased (asked : Request) (old new : Option (List ℕ)) (read : Result (List ℕ) WholeFault) : Type 0 where
  pub based : (base : ℤ) → IsBase asked base → ReadsWhole old new timer_file_limit read
  pub baseless : ((base : ℤ) → IsBase asked base → ⊥) → IsUnread old new read

-- `read` is what reading the input returned; only a request for a timer file reads it
abbrev pub ReadsFor : RequestKind → Request → Option (List ℕ) → Option (List ℕ) → Result (List ℕ) WholeFault → Type 0
ReadsFor (for_texts verb texts) asked old new read = IsUnread old new read
ReadsFor (for_file name) asked old new read = ReadsIfBased asked old new read

-- The bytes that a run wrote and its `result` agree with `report`. If the run returns `Ok`, it wrote the whole report
-- and returns the report's status, and reading the input didn't run out of memory. If the run returns an error, it
-- wrote a prefix of the report, and nothing at all if reading the input ran out of memory.
pub record IsReported (result : Result Status RunFault) (out_old out_new err_old err_new : Option (List ℕ)) (read : Result (List ℕ) WholeFault) (report : Report) : Type 0 where
  pub status : IfOk result (λ status. status ≡ report.status)
  pub had : IfOk result (λ status. HadMemory read)
  pub out : Writes out_old out_new result report.out
  pub err : Writes err_old err_new result report.err
  pub unread : read ≡ Err NoMemory → (out_new ≡ out_old) × (err_new ≡ err_old)

-- There is a `read`, a possible result of reading the input, with two properties. First, `holds_of` is true of `read`
-- and of the report that the request has if reading returns `read`. Second, `failed`, which says whether the source of
-- the input has failed, is true if and only if `read` says that a read failed.
pub record ByReading (asked : Request) (old new : Option (List ℕ)) (failed : Bool) (holds_of : Result (List ℕ) WholeFault → Report → Type 0) : Type 0 where
  pub read : Result (List ℕ) WholeFault
  pub input : ReadsFor (kind_of asked) asked old new read
  pub fails : failed ≡ is_read_failed read
  pub holds : holds_of read (report asked read)

-- What a run for this base time has written if it returns `NoMemory`. If the request is for texts: the complete answers
-- to the texts before the one for which allocation failed, and nothing more. If it is for a timer file: nothing.
abbrev pub IsCutAt : Request → ℤ → RequestKind → Option (List ℕ) → Option (List ℕ) → Option (List ℕ) → Option (List ℕ) → Type 0
IsCutAt asked base (for_texts verb texts) out_old out_new err_old err_new =
    IsAnsweredBefore (answer_by verb asked base) texts out_old out_new err_old err_new
IsCutAt asked base (for_file name) out_old out_new err_old err_new = (out_new ≡ out_old) × (err_new ≡ err_old)

-- the base time is valid, and the run has written what `IsCutAt` says
pub record IsCut (asked : Request) (out_old out_new err_old err_new : Option (List ℕ)) : Type 0 where
  pub base : ℤ
  pub sought : base_in asked ≡ Ok base
  pub answered : IsCutAt asked base (kind_of asked) out_old out_new err_old err_new
