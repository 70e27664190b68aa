-- Lemmas on what a whole run wrote and what it returned: when `IsReported`, `ByReading` and `IsCut` hold.
use Rattle.std.proofs.Common.{arith, ◌≡◌, ℕ, ℤ, Bool, true, false, List, [], Option, Result, Ok, Err, IfOk, refl, sym, ◌∙◌, subst}
use Rattle.std.proofs.lemmas.List.{append-nil}
use Rattle.std.proofs.KnownBytes.{Appends-nil}
use Rattle.std.specs.Io.KnownBytes.{Appends}
use Rattle.cal_bytes.specs.rules.Whole.{is_read_failed}
use Rattle.cal_bytes.specs.declared.whole.WholeFault.{WholeFault}
use Rattle.cal_report.specs.rules.TimerReport.{HadMemory}
use Rattle.cal_request.specs.rules.Verb.{seeks_elapses}
use Rattle.cal_request.specs.rules.RequestKind.{RequestKind, for_file, for_texts, kind_by, kind_of}
use Rattle.cal_request.specs.rules.Request.{Request}
use Rattle.cal_bytes.specs.rules.Writes.{AppendsFront, Writes}
use Rattle.cal_report.specs.rules.RunReport.{ByReading, IsCut, IsCutAt, IsReported, ReadsFile, ReadsFor, ReadsIfBased, base_in, file_report, report, report_on, texts_report, whole_report}
use Rattle.cal_request.specs.declared.request.RunFault.{RunFault}
use Rattle.cal_request.specs.declared.request.Status.{Status}
use Rattle.cal_request.specs.declared.request.Status.TheVariants.{Fine, Refused}
use Rattle.cal_request.specs.declared.verb.Verb.{Verb}
use Rattle.cal_request.specs.declared.verb.Verb.TheVariants as verbs
use Rattle.cal_request.specs.declared.verb.TextVerb.{TextVerb}
use Rattle.cal_request.specs.declared.verb.TextVerb.TheVariants.{Calendar}
use Rattle.cal_report.proofs.AnswerLemmas.{writes_nothing}
use Rattle.cal_report.proofs.BaseLemmas.{base_found, base_is}
use Rattle.cal_stamp.specs.declared.fault.StampFault.{StampFault}

if_ok : {T E : Type 0} (r : Result T E) (P : Type 0) → P → IfOk r (λ x. P)
if_ok (Ok x) P h = h
if_ok (Err e) P h = tt

-- `IsReported` holds if the answer is a report, reading the input didn't run out of memory, and the run returned `Fine`
-- and wrote the report to standard output and nothing to standard error. If the run failed, it is enough that it wrote
-- a prefix of the report.
pub report_reported : (r : Result Status RunFault) (a b e : Option (List ℕ)) (read : Result (List ℕ) WholeFault) (text : List ℕ) (answer : Result (List ℕ) (List ℕ))
    → answer ≡ Ok text → IfOk r (λ status. status ≡ Fine) → HadMemory read → Writes a b r text → IsReported r a b e e read (whole_report answer)
report_reported r a b e read text answer is status had out = rw is (record { status = status; had = if_ok r (HadMemory read) had; out = out; err = writes_nothing e r; unread = λ h. absurd (had h) })

-- `IsReported` holds if the answer is an error line, reading the input didn't run out of memory, and the run returned
-- `Refused` and wrote the error line to standard error and nothing to standard output. If the run failed, it is enough
-- that it wrote a prefix of the error line.
pub error_reported : (r : Result Status RunFault) (a d e : Option (List ℕ)) (read : Result (List ℕ) WholeFault) (line : List ℕ) (answer : Result (List ℕ) (List ℕ))
    → answer ≡ Err line → IfOk r (λ status. status ≡ Refused) → HadMemory read → Writes d e r line → IsReported r a a d e read (whole_report answer)
error_reported r a d e read line answer is status had err = rw is (record { status = status; had = if_ok r (HadMemory read) had; out = writes_nothing a r; err = err; unread = λ h. absurd (had h) })

-- ## The contract of `run` for each kind of request

pub nothing_had : HadMemory (Ok [])
nothing_had h = cc

-- `ByReading` holds if the request is for these texts, the input hasn't failed and wasn't read, and the run either
-- wrote the reports and the error lines of all texts and returned their status, or wrote the error line about the base
-- time and returned `Refused`. If the run failed, it is enough that it wrote a prefix of this to each output.
pub texts_reported : (asked : Request) (verb : TextVerb) (texts : List (List ℕ)) (a b c d e : Option (List ℕ)) (failed : Bool) (r : Result Status RunFault) → for_texts verb texts ≡ kind_of asked
    → failed ≡ false → IfOk r (λ status. status ≡ (texts_report asked verb texts).status) → Writes b c r (texts_report asked verb texts).out → Writes d e r (texts_report asked verb texts).err
    → ByReading asked a a failed (IsReported r b c d e)
unfolding report
texts_reported asked verb texts a b c d e failed r is works status out err =
    record {
      read = Ok [];
      input = subst (λ kind. ReadsFor kind asked a a (Ok [])) is (refl, refl);
      fails = works;
      holds = subst (λ kind. IsReported r b c d e (Ok []) (report_on asked (Ok []) kind)) is
          (record { status = status; had = if_ok r (HadMemory (Ok [])) nothing_had; out = out; err = err; unread = λ h. absurd (nothing_had h) });
    }

reads_if_based : (asked : Request) (a b : Option (List ℕ)) (read : Result (List ℕ) WholeFault) (found : Result ℤ StampFault) → base_in asked ≡ found → ReadsFile found a b read → ReadsIfBased asked a b read
reads_if_based asked a b read (Ok base) is reads =
    record { based = λ other is_base. reads; baseless = λ none. absurd (none base (base_found asked base is)) }
reads_if_based asked a b read (Err fault) is reads =
    record { based = λ base is_base. (let e = sym (base_is asked base is_base) ∙ is in cc); baseless = λ none. reads }

-- `ByReading` holds if the request is for this timer file, and the run agrees with the report for what it read from
-- the file
pub file_reported : (asked : Request) (name : List ℕ) (read : Result (List ℕ) WholeFault) (a b : Option (List ℕ)) (failed : Bool) (r : Result Status RunFault) (out out' err err' : Option (List ℕ))
    → for_file name ≡ kind_of asked → ReadsFile (base_in asked) a b read → failed ≡ is_read_failed read → IsReported r out out' err err' read (file_report asked name read)
    → ByReading asked a b failed (IsReported r out out' err err')
unfolding report
file_reported asked name read a b failed r out out' err err' is reads fails reported =
    record {
      read = read;
      input = subst (λ kind. ReadsFor kind asked a b read) is (reads_if_based asked a b read (base_in asked) refl reads);
      fails = fails;
      holds = subst (λ kind. IsReported r out out' err err' read (report_on asked read kind)) is reported;
    }

-- `IsCut` holds if the base time is valid, and the run wrote what `IsCutAt` says for the kind of the request
pub is_cut : (asked : Request) (base : ℤ) (kind : RequestKind) (out out' err err' : Option (List ℕ)) → base_in asked ≡ Ok base → kind ≡ kind_of asked → IsCutAt asked base kind out out' err err'
    → IsCut asked out out' err err'
is_cut asked base kind out out' err err' sought is cut =
    record { base = base; sought = sought; answered = subst (λ k. IsCutAt asked base k out out' err err') is cut }

-- if a request is for texts of the verb `calendar`, then its verb computes elapses
pub sought_by : (verb : Verb) (texts all : List (List ℕ)) → for_texts Calendar texts ≡ kind_by verb all → seeks_elapses verb ≡ true
sought_by verb texts all is = grind arith

-- if a request is for a timer file, then its verb is `timer`
pub timer_by : (verb : Verb) (name : List ℕ) (all : List (List ℕ)) → for_file name ≡ kind_by verb all → verb ≡ verbs.Timer
timer_by verb name all is = grind arith

-- a call that wrote nothing wrote a prefix of every text
pub nothing_front : (a : Option (List ℕ)) (text : List ℕ) → AppendsFront a a text
nothing_front a text = record { front = []; rest = text; whole = refl; written = Appends-nil a }

-- a call that wrote a whole text wrote a prefix of this text
pub whole_front : (a b : Option (List ℕ)) (text : List ℕ) → Appends a b text → AppendsFront a b text
whole_front a b text h = record { front = text; rest = []; whole = sym (append-nil text); written = h }
