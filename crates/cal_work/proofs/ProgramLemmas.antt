-- Lemmas for the clause `headline` of `work`: if the arguments make a request for elapses, what is printed is the
-- report that answers it, or nothing.
use Rattle.std.proofs.Common.{◌≡◌, ◌⊎◌, inl, inr, ◌++◌, ℕ, ℤ, Bool, true, List, [], ◌∷◌, Option, None, Some, Result, Ok, Err, refl, sym, ap, subst, ◌∙◌, append-nil, append_assoc, codes, decimal}
use Rattle.std.specs.Io.KnownBytes.{Appends, Keeps, append_known}
use Rattle.std.specs.Prelude.{IsTrue}
use Rattle.std.proofs.KnownBytes.{Appends-kept}
use Rattle.std.proofs.lemmas.Bool.{false≢true}
use Rattle.std.proofs.lemmas.List.{append_cancel_left}
use Rattle.cal_bytes.specs.rules.Bytes.{joined}
use Rattle.cal_bytes.specs.rules.Writes.{AppendsFront}
use Rattle.cal_bytes.specs.declared.whole.WholeFault.{WholeFault}
use Rattle.cal_spec.specs.computed.Expr.{expr_in}
use Rattle.cal_spec.specs.rules.Fields.{Fields}
use Rattle.cal_stamp.specs.declared.fault.StampFault.{StampFault}
use Rattle.cal_timer.specs.declared.fault.TimerFault.{TimerFault}
use Rattle.cal_timer.specs.rules.TimerFault.{line_of, message_of}
use Rattle.cal_timer.specs.rules.TimerEntries.{Timer, timer_text}
use Rattle.cal_plan.specs.rules.ZoneFor.{unzoned}
use Rattle.cal_command.specs.rules.Ask.{Ask}
use Rattle.cal_command.specs.rules.CommandLine.{IsAskOf}
use Rattle.cal_report.specs.rules.Context.{setting_of}
use Rattle.cal_report.specs.rules.BaseTime.{IsBase}
use Rattle.cal_report.specs.rules.Headline.{IsAcceptedFile, IsReportOf}
use Rattle.cal_report.specs.rules.ReportLines.{Report}
use Rattle.cal_report.specs.rules.Resume.{Begins}
use Rattle.cal_report.specs.rules.RunReport.{base_in, file_report, report, report_from, report_on, whole_report}
use Rattle.cal_report.specs.rules.TimerReport.{answer_of_timer, answer_unless, error_line_at, timer_answer}
use Rattle.cal_report.proofs.AmongLemmas.{some_among}
use Rattle.cal_report.proofs.BaseLemmas.{base_found}
use Rattle.cal_report.proofs.HeadlineAccepted.{fine_file_is_accepted}
use Rattle.cal_report.proofs.HeadlineEach.{each_is_answered}
use Rattle.cal_report.proofs.HeadlineLemmas.{timer_report_is}
use Rattle.cal_report.proofs.ManyLemmas.{texts_resume}
use Rattle.cal_report.proofs.ResumeLemmas.{file_resumes}
use Rattle.cal_request.specs.rules.Request.{Request}
use Rattle.cal_request.specs.rules.RequestKind.{for_file, kind_by, timer_path}
use Rattle.cal_request.specs.rules.Verb.{seeks_elapses}
use Rattle.cal_request.specs.declared.request.RunFault.{RunFault}
use Rattle.cal_request.specs.declared.request.RunFault.TheVariants.{OutFailed, ErrFailed, NoMemory}
use Rattle.cal_request.specs.declared.request.Status.{Status}
use Rattle.cal_request.specs.declared.request.Status.TheVariants.{Fine, Refused}
use Rattle.cal_request.specs.declared.verb.Verb.{Verb}
use Rattle.cal_request.specs.declared.verb.Verb.TheVariants as verb
use Rattle.cal_work.specs.declared.arguments_to_bytes.Ended.{Ended}
use Rattle.cal_work.specs.rules.Outcome.{World, ended_status, err_text, out_text, outcome, outcome_status, run_by, run_on}
use Rattle.cal_work.specs.rules.ProgramHeadline.{Answers, AnswersTexts, HasReached, IsAnswerToFile, PrintsAnswer, PrintsNothing}
use Rattle.cal_work.specs.rules.Stop.{Stop, exit_status, memory_stop, unopened_stop}
use Rattle.cal_machine.specs.rules.Told.{Contents, FileHolds, Told, Unopened}
use Rattle.cal_work.specs.rules.FileAnswer.{FileAnswer, Gave}
use Rattle.cal_work.specs.rules.Works.{Reaches, SeesFile, SeesFor, Works, WritesErr}
use Rattle.cal_work.proofs.AskedLemmas.{Ends, IsFault, Ran, is_fault, one, work_ends}

-- ## The status

never_fine : Refused ≡ Fine → ⊥
never_fine h = cc

fine_of : (status : Status) → exit_status status ≡ 0 → status ≡ Fine
fine_of Fine h = refl
fine_of Refused h = absurd (one h)

-- everything was written, and the report's status is `Fine`
record EndsFine (written : Result Unit RunFault) (it : Report) : Type 0 where
  all : written ≡ Ok tt
  fine : it.status ≡ Fine

ends_fine : (written : Result Unit RunFault) (it : Report) → ended_status written (Ok it) ≡ 0 → EndsFine written it
ends_fine (Ok done) it h = record { all = refl; fine = fine_of it.status h }
ends_fine (Err OutFailed) it h = absurd (one h)
ends_fine (Err ErrFailed) it h = absurd (one h)
ends_fine (Err NoMemory) it h = absurd (one h)

status_of : (written : Result Unit RunFault) (end : Result Report Stop) → written ≡ Ok tt → ended_status written end ≡ outcome_status end
status_of (Ok done) end all = refl
status_of (Err fault) end all = cc

-- ## What is on the outputs

-- if nothing failed, the whole text was written to standard error, and nothing else
err_written : (old new : Option (List ℕ)) (failed : Bool) (written : Result Unit RunFault) (text : List ℕ) → written ≡ Ok tt → WritesErr old new failed written text → Appends old new text
err_written old new failed (Ok done) text all w = Appends-kept old w.before new text w.text_bytes w.line
err_written old new failed (Err fault) text all w = cc

out_reached : (old reached : Option (List ℕ)) (written : Result Unit RunFault) (text : List ℕ) → written ≡ Ok tt → Reaches old reached written text → Appends old reached text
out_reached old reached (Ok done) text all r = r
out_reached old reached (Err fault) text all r = cc

-- the bytes that reached an output, with the bytes that a buffer holds, are a prefix of the text
front_begins : (old front held : List ℕ) (text : List ℕ) → (there : AppendsFront (Some old) (Some ((old ++ front) ++ held)) text) → Begins text front
front_begins old front held text there =
    let same : front ++ held ≡ there.front = append_cancel_left old (front ++ held) there.front (sym (append_assoc old front held) ∙ there.written) in
    record {
      rest = held ++ there.rest;
      is = there.whole ∙ ap (λ (f : List ℕ). f ++ there.rest) (sym same) ∙ append_assoc front held there.rest;
    }

prefix_by : (old reached front text : List ℕ) (written : Result Unit RunFault) → reached ≡ old ++ front → Reaches (Some old) (Some reached) written text → Begins text front
prefix_by old reached front text (Ok done) at h =
    let same : front ≡ text = append_cancel_left old front text (sym at ∙ h) in
    record { rest = []; is = sym same ∙ sym (append-nil front) }
prefix_by old reached front text (Err fault) at h =
    front_begins old front h.0 text (subst (λ (r : List ℕ). AppendsFront (Some old) (append_known (Some r) h.0) text) at h.1)

prefix_of : (out reached : Option (List ℕ)) (front text : List ℕ) (written : Result Unit RunFault) → HasReached out reached front → Reaches out reached written text → Begins text front
prefix_of (Some old) (Some reached) front text written at h = prefix_by old reached front text written at h
prefix_of (Some old) None front text written at h = absurd at
prefix_of None reached front text written at h = absurd at

none_of : (front text : List ℕ) → text ≡ [] → Begins text front → front ≡ []
none_of [] text none cut = refl
none_of (x ∷ front) text none cut = let never : ◌≡◌ {A = List ℕ} [] (x ∷ (front ++ cut.rest)) = sym none ∙ cut.is in cc

keeps : (old new : Option (List ℕ)) → Appends old new [] → Keeps old new
keeps None new h = tt
keeps (Some xs) None h = h
keeps (Some xs) (Some ys) h = h ∙ append-nil xs

-- ## How the run of a request ends

-- the work ended with a report that answers the request
record EndsAnswered (gives : Told → Bool) (asked : Request) (taking : Verb) (end : Result Report Stop) : Type 0 where
  base : ℤ
  sought : IsBase asked base
  report : Report
  is : end ≡ Ok report
  answers : Answers taking gives asked base report

-- if the work ends with `end`, nothing is printed on standard output, and the status isn't 0
record EndsBlank (end : Result Report Stop) : Type 0 where
  out : out_text end ≡ []
  failed : (written : Result Unit RunFault) → ended_status written end ≡ 0 → ⊥

EndsRun : (Told → Bool) → Request → Verb → Result Report Stop → Type 0
EndsRun gives asked taking end = EndsAnswered gives asked taking end ⊎ EndsBlank end

stop_status : (written : Result Unit RunFault) (stop : Stop) → IsFault stop → ended_status written (Err stop) ≡ 0 → ⊥
stop_status (Ok done) stop fault h = fault.status h
stop_status (Err OutFailed) stop fault h = one h
stop_status (Err ErrFailed) stop fault h = fault.status h
stop_status (Err NoMemory) stop fault h = one h

stop_blank : (stop : Stop) → IsFault stop → EndsBlank (Err stop)
stop_blank stop fault = record { out = fault.out; failed = λ written. stop_status written stop fault }

-- if the report is a single error line, nothing is printed on standard output, and the status isn't 0
refused_blank : (line : List ℕ) → EndsBlank (Ok (whole_report (Err line)))
refused_blank line = record { out = refl; failed = λ written zero. never_fine (ends_fine written (whole_report (Err line)) zero).fine }

baseless : (after : ℤ → Report) (based : Result ℤ StampFault) (fault : StampFault) → based ≡ Err fault → EndsBlank (Ok (report_from after based))
baseless after (Ok base) fault is = cc
baseless after (Err other) fault is = refused_blank _

-- ## Requests for `calendar`

calendar_runs : (asked : Request) (answer : FileAnswer) (read : Result (List ℕ) WholeFault) → asked.verb ≡ verb.Calendar → run_by asked answer ≡ Ok (report asked read)
unfolding run_by report
calendar_runs asked answer read is =
    subst (λ v. ◌≡◌ {A = Result Report Stop} (run_on asked answer (kind_by v asked.texts)) (Ok (report_on asked read (kind_by v asked.texts)))) (sym is) refl

calendar_blank : (asked : Request) (read : Result (List ℕ) WholeFault) (fault : StampFault) → asked.verb ≡ verb.Calendar → base_in asked ≡ Err fault → EndsBlank (Ok (report asked read))
unfolding report
calendar_blank asked read fault is none =
    subst (λ v. EndsBlank (Ok (report_on asked read (kind_by v asked.texts)))) (sym is) (baseless _ (base_in asked) fault none)

-- if the verb is `calendar`, standard output doesn't depend on what reading a file returned
same_out : (asked : Request) (read other : Result (List ℕ) WholeFault) → asked.verb ≡ verb.Calendar → (report asked read).out ≡ (report asked other).out
unfolding report
same_out asked read other is =
    subst (λ v. (report_on asked read (kind_by v asked.texts)).out ≡ (report_on asked other (kind_by v asked.texts)).out) (sym is) refl

answers_texts : (asked : Request) (base : ℤ) → asked.verb ≡ verb.Calendar → base_in asked ≡ Ok base → AnswersTexts asked base (report asked (Ok []))
answers_texts asked base is based =
    let among = some_among asked is in
    record {
      each = each_is_answered asked (Ok []) base is based;
      expressions = among.0;
      among = among.1;
      cut = λ front rest read cut any. texts_resume asked read base is based among.0 front rest among.1 any (same_out asked read (Ok []) is ∙ cut);
    }

calendar_ends : (gives : Told → Bool) (asked : Request) (answer : FileAnswer) (based : Result ℤ StampFault) → asked.verb ≡ verb.Calendar → base_in asked ≡ based
    → EndsRun gives asked verb.Calendar (run_by asked answer)
unfolding EndsRun
calendar_ends gives asked answer (Ok base) is based = inl (record {
  base = base;
  sought = base_found asked base based;
  report = report asked (Ok []);
  is = calendar_runs asked answer (Ok []) is;
  answers = answers_texts asked base is based;
})
calendar_ends gives asked answer (Err fault) is none =
    inr (subst EndsBlank (sym (calendar_runs asked answer (Ok []) is)) (calendar_blank asked (Ok []) fault is none))

-- ## Requests for `timer`

line_begins : (name rest : List ℕ) → Begins (name ++ (codes ":" ++ rest)) (name ++ codes ":")
line_begins name rest = record { rest = rest; is = sym (append_assoc name (codes ":") rest) }

error_line_begins : (name : List ℕ) (line : Option ℕ) (message : List ℕ) → Begins (error_line_at name line message) (name ++ codes ":")
unfolding error_line_at
error_line_begins name None message = line_begins name (joined (codes " " ∷ message ∷ codes "\n" ∷ []))
error_line_begins name (Some number) message = line_begins name (joined (decimal number ∷ codes ": " ∷ message ∷ codes "\n" ∷ []))

unless_begins : (asked : Request) (base : ℤ) (name line : List ℕ) (lists : Timer Fields) (missing : Option ℕ) → answer_unless asked base name lists missing ≡ Err line
    → Begins line (name ++ codes ":")
unless_begins asked base name line lists None h = cc
unless_begins asked base name line lists (Some number) h =
    let same : error_line_at name (Some number) (codes "no such zone") ≡ line = cc in
    subst (λ (l : List ℕ). Begins l (name ++ codes ":")) same (error_line_begins name (Some number) (codes "no such zone"))

answer_begins : (asked : Request) (base : ℤ) (name line : List ℕ) (r : Result (Timer Fields) TimerFault) → answer_of_timer asked base name r ≡ Err line
    → Begins line (name ++ codes ":")
answer_begins asked base name line (Ok lists) h = unless_begins asked base name line lists (unzoned (setting_of asked) lists) h
answer_begins asked base name line (Err fault) h =
    let same : error_line_at name (line_of fault) (message_of fault) ≡ line = cc in
    subst (λ (l : List ℕ). Begins l (name ++ codes ":")) same (error_line_begins name (line_of fault) (message_of fault))

refusal_begins : (asked : Request) (base : ℤ) (name line : List ℕ) (read : Result (List ℕ) WholeFault) → timer_answer asked base name read ≡ Err line
    → Begins line (name ++ codes ":")
unfolding timer_answer
refusal_begins asked base name line read h = answer_begins asked base name line (timer_text expr_in read) h

never_read : (asked : Request) (base : ℤ) (name text : List ℕ) (fault : WholeFault) → timer_answer asked base name (Err fault) ≡ Ok text → ⊥
unfolding timer_answer
never_read asked base name text fault h = cc

-- if the base time is valid, the report of a request for a timer file is the answer to the file
timer_is : (asked : Request) (base : ℤ) (read : Result (List ℕ) WholeFault) → asked.verb ≡ verb.Timer → base_in asked ≡ Ok base
    → report asked read ≡ whole_report (timer_answer asked base (timer_path asked.texts) read)
unfolding report
timer_is asked base read is based =
    subst (λ v. report_on asked read (kind_by v asked.texts) ≡ whole_report (timer_answer asked base (timer_path asked.texts) read)) (sym is)
    (subst (λ b. report_from (λ at. whole_report (timer_answer asked at (timer_path asked.texts) read)) b ≡ whole_report (timer_answer asked base (timer_path asked.texts) read)) (sym based) refl)

accepted_answer : (asked : Request) (bytes : List ℕ) (base : ℤ) (text : List ℕ) → asked.verb ≡ verb.Timer → base_in asked ≡ Ok base
    → report asked (Ok bytes) ≡ whole_report (Ok text) → IsAnswerToFile asked base (Ok bytes) (Ok text)
accepted_answer asked bytes base text is based same =
    let file = fine_file_is_accepted asked bytes base is based (ap (λ (r : Report). r.status) same) in
    let printed = timer_report_is asked bytes base file.schedule is based file.lists file.each in
    let out = ap (λ (r : Report). r.out) same in (
      file,
      subst (IsReportOf asked base file.schedule) out printed.0,
      λ front rest cut. file_resumes asked bytes base file.schedule front rest is based file.lists file.each (out ∙ cut),
    )

never_accepted : (asked : Request) (bytes : List ℕ) (base : ℤ) (line : List ℕ) → asked.verb ≡ verb.Timer → base_in asked ≡ Ok base
    → report asked (Ok bytes) ≡ whole_report (Err line) → IsAcceptedFile asked bytes → ⊥
never_accepted asked bytes base line is based same file =
    let printed = timer_report_is asked bytes base file.schedule is based file.lists file.each in
    never_fine (sym (ap (λ (r : Report). r.status) same) ∙ printed.1.status)

answer_to_file : (asked : Request) (base : ℤ) (read : Result (List ℕ) WholeFault) (answer : Result (List ℕ) (List ℕ)) → asked.verb ≡ verb.Timer → base_in asked ≡ Ok base
    → timer_answer asked base (timer_path asked.texts) read ≡ answer → IsAnswerToFile asked base read answer
answer_to_file asked base (Ok bytes) (Ok text) is based h =
    accepted_answer asked bytes base text is based (timer_is asked base (Ok bytes) is based ∙ ap whole_report h)
answer_to_file asked base (Ok bytes) (Err line) is based h = (
  never_accepted asked bytes base line is based (timer_is asked base (Ok bytes) is based ∙ ap whole_report h),
  refusal_begins asked base (timer_path asked.texts) line (Ok bytes) h,
)
answer_to_file asked base (Err fault) (Ok text) is based h = never_read asked base (timer_path asked.texts) text fault h
answer_to_file asked base (Err fault) (Err line) is based h = refusal_begins asked base (timer_path asked.texts) line (Err fault) h

file_ends_by : (gives : Told → Bool) (asked : Request) (read : Result (List ℕ) WholeFault) (based : Result ℤ StampFault) → asked.verb ≡ verb.Timer
    → IsTrue (gives (FileHolds (timer_path asked.texts) (Contents read))) → base_in asked ≡ based
    → EndsRun gives asked verb.Timer (Ok (report_from (λ base. whole_report (timer_answer asked base (timer_path asked.texts) read)) based))
unfolding EndsRun
file_ends_by gives asked read (Ok base) is given based = inl (record {
  base = base;
  sought = base_found asked base based;
  report = whole_report (timer_answer asked base (timer_path asked.texts) read);
  is = refl;
  answers = record {
    read = read;
    given = given;
    answer = timer_answer asked base (timer_path asked.texts) read;
    right = answer_to_file asked base read _ is based refl;
    whole = refl;
  };
})
file_ends_by gives asked read (Err fault) is given based = inr (refused_blank _)

file_ends : (gives : Told → Bool) (asked : Request) (read : Result (List ℕ) WholeFault) → asked.verb ≡ verb.Timer
    → IsTrue (gives (FileHolds (timer_path asked.texts) (Contents read))) → EndsRun gives asked verb.Timer (Ok (file_report asked (timer_path asked.texts) read))
file_ends gives asked read is given = file_ends_by gives asked read (base_in asked) is given refl

given_ends : (gives : Told → Bool) (asked : Request) (answer : FileAnswer) → asked.verb ≡ verb.Timer → Gave gives (timer_path asked.texts) answer
    → EndsRun gives asked verb.Timer (run_on asked answer (for_file (timer_path asked.texts)))
unfolding EndsRun
given_ends gives asked None is given = inr (stop_blank memory_stop (is_fault _ 1 one))
given_ends gives asked (Some Unopened) is given = inr (stop_blank (unopened_stop (timer_path asked.texts)) (is_fault _ 1 one))
given_ends gives asked (Some (Contents read)) is given = file_ends gives asked read is given

timer_ends : (gives : Told → Bool) (asked : Request) (answer : FileAnswer) → asked.verb ≡ verb.Timer → SeesFile gives asked answer → EndsRun gives asked verb.Timer (run_by asked answer)
unfolding run_by
timer_ends gives asked answer is sees =
    subst (λ v. EndsRun gives asked verb.Timer (run_on asked answer (kind_by v asked.texts))) (sym is)
    (given_ends gives asked answer is (subst (λ v. SeesFor (kind_by v asked.texts) gives answer) is sees))

run_ends : (gives : Told → Bool) (asked : Request) (answer : FileAnswer) (taking : Verb) → asked.verb ≡ taking → seeks_elapses taking ≡ true → SeesFile gives asked answer
    → EndsRun gives asked taking (run_by asked answer)
run_ends gives asked answer verb.Calendar is seeks sees = calendar_ends gives asked answer (base_in asked) is refl
run_ends gives asked answer verb.Timer is seeks sees = timer_ends gives asked answer is sees
run_ends gives asked answer verb.Timestamp is seeks sees = absurd (false≢true seeks)
run_ends gives asked answer verb.Timespan is seeks sees = absurd (false≢true seeks)

-- ## What the program prints

nothing : (ended : Ended) (out reached : Option (List ℕ)) (end : Result Report Stop) → EndsBlank end → ended.status ≡ ended_status ended.written end
    → Reaches out reached ended.written (out_text end) → PrintsNothing ended out reached
nothing ended out reached end blank status o = record {
  failed = λ zero. blank.failed ended.written (sym status ∙ zero);
  printed = λ all. keeps out reached (subst (Appends out reached) blank.out (out_reached out reached ended.written _ all o));
  prefix = λ front at. none_of front _ blank.out (prefix_of out reached front _ ended.written at o);
}

answer_is_printed : (gives : Told → Bool) (ask : Ask) (world : World) (ended : Ended) (out reached err err' : Option (List ℕ)) (failed : Bool) (end : Result Report Stop)
    → (ran : Ran gives ask world end) → (a : EndsAnswered gives ran.asked ask.verb (run_by ran.asked world.file)) → ended.status ≡ ended_status ended.written end
    → Reaches out reached ended.written (out_text end) → WritesErr err err' failed ended.written (err_text end) → PrintsAnswer gives ask ended out reached err err'
answer_is_printed gives ask world ended out reached err err' failed end ran a status o e =
    let same = ran.is ∙ a.is in
    let o_report = rw same at o in
    let at_end = status ∙ ap (ended_status ended.written) same in
    record {
      asked = ran.asked;
      request = ran.request;
      base = a.base;
      sought = a.sought;
      report = a.report;
      answers = a.answers;
      success = λ zero. (ends_fine ended.written a.report (sym at_end ∙ zero)).all;
      printed = λ all. (
        out_reached out reached ended.written a.report.out all o_report,
        err_written err err' failed ended.written a.report.err all (rw same at e),
        at_end ∙ status_of ended.written (Ok a.report) all,
      );
      prefix = λ front at. prefix_of out reached front a.report.out ended.written at o_report;
    }

run_is_printed : (gives : Told → Bool) (ask : Ask) (world : World) (ended : Ended) (out reached err err' : Option (List ℕ)) (failed : Bool) (end : Result Report Stop)
    → (ran : Ran gives ask world end) → EndsRun gives ran.asked ask.verb (run_by ran.asked world.file) → ended.status ≡ ended_status ended.written end
    → Reaches out reached ended.written (out_text end) → WritesErr err err' failed ended.written (err_text end)
    → PrintsAnswer gives ask ended out reached err err' ⊎ PrintsNothing ended out reached
unfolding EndsRun
run_is_printed gives ask world ended out reached err err' failed end ran (inl a) status o e =
    inl (answer_is_printed gives ask world ended out reached err err' failed end ran a status o e)
run_is_printed gives ask world ended out reached err err' failed end ran (inr blank) status o e =
    inr (nothing ended out reached end (subst EndsBlank (sym ran.is) blank) status o)

end_is_printed : (gives : Told → Bool) (ask : Ask) (world : World) (ended : Ended) (out reached err err' : Option (List ℕ)) (failed : Bool) (end : Result Report Stop)
    → seeks_elapses ask.verb ≡ true → Ends gives ask world end → ended.status ≡ ended_status ended.written end
    → Reaches out reached ended.written (out_text end) → WritesErr err err' failed ended.written (err_text end)
    → PrintsAnswer gives ask ended out reached err err' ⊎ PrintsNothing ended out reached
unfolding Ends
end_is_printed gives ask world ended out reached err err' failed end seeks (inl ran) status o e =
    run_is_printed gives ask world ended out reached err err' failed end ran (run_ends gives ran.asked world.file ask.verb ran.request.verb seeks ran.file) status o e
end_is_printed gives ask world ended out reached err err' failed end seeks (inr stopped) status o e =
    inr (nothing ended out reached end (subst EndsBlank (sym stopped.is) (stop_blank stopped.stop stopped.fault)) status o)

pub answers_are_printed : (gives : Told → Bool) (is_unread : List ℕ → Bool) (arguments : List (List ℕ)) (ask : Ask) (out reached err err' : Option (List ℕ)) (failed : Bool) (ended : Ended)
    → Works gives is_unread arguments out reached err err' failed ended → IsAskOf arguments (Ok ask) → seeks_elapses ask.verb ≡ true
    → PrintsAnswer gives ask ended out reached err err' ⊎ PrintsNothing ended out reached
answers_are_printed gives is_unread arguments ask out reached err err' failed ended w asks seeks =
    end_is_printed gives ask w.world ended out reached err err' failed (outcome w.world) seeks (work_ends gives arguments ask w.world w.fits asks) w.status w.out_bytes w.err_bytes
