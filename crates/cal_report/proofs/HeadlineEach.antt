-- Lemmas for the law `headline`: the answer to each text, whether or not other texts are rejected. A law is the
-- contract of a function that does nothing.
use Rattle.std.proofs.Common.{◌≡◌, ◌++◌, ◌∙◌, ◌||◌, ℕ, ℤ, Bool, List, [], ◌∷◌, Option, Result, Ok, Err, map, codes, refl, rules, sym, ap, subst}
use Rattle.std.specs.Prelude.{is_err, if◌then◌else◌}
use Rattle.std.specs.Io.KnownBytes.{Appends}
use Rattle.std.specs.List.{AllZip, cons_option, filter_map, flat_map, join_by, list_any}
use Rattle.std.specs.Result.{result_err, result_ok}
use Rattle.cal_bytes.specs.declared.whole.WholeFault.{WholeFault}
use Rattle.cal_report.specs.rules.Answer.{Answer, error_line_in, error_line, error_lines, report_in, reports_text, texts_status}
use Rattle.cal_report.specs.rules.TextReport.CalendarReport.{calendar_answer}
use Rattle.cal_report.specs.rules.Headline.{AreAnswered, IsAnswerTo, IsReportOf, alone}
use Rattle.cal_report.specs.rules.RunReport.{ByReading, IsReported, answers_report, base_in, report}
use Rattle.cal_report.specs.rules.ReportLines.{Report}
use Rattle.cal_request.specs.rules.Request.{Request}
use Rattle.cal_request.specs.declared.request.Status.{Status}
use Rattle.cal_request.specs.declared.request.Status.TheVariants.{Fine, Refused}
use Rattle.cal_request.specs.declared.verb.Verb.TheVariants.{Calendar}
use Rattle.cal_report.proofs.HeadlineAccepted.{text_accepted}
use Rattle.cal_report.proofs.HeadlineLemmas.{is_answered, is_report, report_of, report_of_texts}

-- an answer, with the whole error line instead of the error message
abbrev lined : List ℕ → Answer → Result (List ℕ) (List ℕ)
lined text (Ok report) = Ok report
lined text (Err message) = Err (error_line text message)

abbrev lined_by : (List ℕ → Answer) → List ℕ → Result (List ℕ) (List ℕ)
lined_by answer text = lined text (answer text)

same_report : (a b : List ℕ) → ◌≡◌ {A = Answer} (Ok a) (Ok b) → b ≡ a
same_report a b h = cc

never_both : (message report : List ℕ) → ◌≡◌ {A = Answer} (Err message) (Ok report) → ⊥
never_both message report h = cc

answered_so : (asked : Request) (base : ℤ) (text : List ℕ) (a : Answer)
    → calendar_answer asked base text ≡ a → IsAnswerTo asked base text (lined text a)
answered_so asked base text (Ok report) is =
    let it = text_accepted asked base text (ap is_err is) in
    let whole = is_answered asked base it.expression it.accepted in
    let same = same_report report (report_of asked base it.expression) (sym is ∙ (ap (calendar_answer asked base) it.same ∙ whole)) in (
      it.expression,
      sym it.same,
      it.accepted,
      subst (IsReportOf asked base (alone it.expression)) same (is_report asked base it.expression),
    )
answered_so asked base text (Err message) is = (
  λ e same accepted. never_both message (report_of asked base e) (sym is ∙ (ap (calendar_answer asked base) (sym same) ∙ is_answered asked base e accepted)),
  (message, search rules),
)

pub each_answered : (asked : Request) (base : ℤ) (texts : List (List ℕ))
    → AllZip (IsAnswerTo asked base) texts (map (lined_by (calendar_answer asked base)) texts)
each_answered asked base [] = tt
each_answered asked base (text ∷ texts) =
    (answered_so asked base text (calendar_answer asked base text) refl, each_answered asked base texts)

-- ## The reports, the error lines and the status are the same for `lined` answers as for the answers themselves

report_more : (text : List ℕ) (a : Answer) (xs ys : List (List ℕ)) → xs ≡ ys → report_in a ++ xs ≡ cons_option (result_ok (lined text a)) ys
report_more text (Ok report) xs ys h = ap (λ (l : List (List ℕ)). report ∷ l) h
report_more text (Err message) xs ys h = h

reports_are : (answer : List ℕ → Answer) (texts : List (List ℕ))
    → flat_map (λ text. report_in (answer text)) texts ≡ filter_map result_ok (map (lined_by answer) texts)
reports_are answer [] = refl
reports_are answer (text ∷ texts) = report_more text (answer text) _ _ (reports_are answer texts)

line_more : (text : List ℕ) (a : Answer) (xs : List ℕ) (ys : List (List ℕ)) → xs ≡ flat_map (λ line. line) ys
    → error_line_in text a ++ xs ≡ flat_map (λ line. line) (cons_option (result_err (lined text a)) ys)
line_more text (Ok report) xs ys h = h
line_more text (Err message) xs ys h = ap (λ (l : List ℕ). error_line text message ++ l) h

lines_are : (answer : List ℕ → Answer) (texts : List (List ℕ))
    → flat_map (λ text. error_line_in text (answer text)) texts ≡ flat_map (λ line. line) (filter_map result_err (map (lined_by answer) texts))
lines_are answer [] = refl
lines_are answer (text ∷ texts) = line_more text (answer text) _ _ (lines_are answer texts)

fails_so : (text : List ℕ) (a : Answer) → is_err a ≡ is_err (lined text a)
fails_so text (Ok report) = refl
fails_so text (Err message) = refl

some_fails : (answer : List ℕ → Answer) (texts : List (List ℕ))
    → list_any (λ text. is_err (answer text)) texts ≡ list_any is_err (map (lined_by answer) texts)
some_fails answer [] = refl
some_fails answer (text ∷ texts) =
    ap (λ b. b || list_any (λ text. is_err (answer text)) texts) (fails_so text (answer text)) ∙ ap (λ b. is_err (lined_by answer text) || b) (some_fails answer texts)

texts_answered : (asked : Request) (base : ℤ) → AreAnswered asked base asked.texts (answers_report (calendar_answer asked base) asked.texts)
unfolding answers_report reports_text error_lines texts_status
texts_answered asked base =
    let answer = calendar_answer asked base in
    record {
      answers = map (lined_by answer) asked.texts;
      each = each_answered asked base asked.texts;
      out = ap (join_by (λ report. report) (codes "\n")) (reports_are answer asked.texts);
      err = lines_are answer asked.texts;
      status = ap (λ b. if b then Refused else Fine) (some_fails answer asked.texts);
    }

pub each_is_answered : (asked : Request) (read : Result (List ℕ) WholeFault) (base : ℤ)
    → asked.verb ≡ Calendar → base_in asked ≡ Ok base → AreAnswered asked base asked.texts (report asked read)
each_is_answered asked read base verb sought =
    rw (report_of_texts asked read base verb sought) (texts_answered asked base)

pub each_is_written : (asked : Request) (base : ℤ) (old new : Option (List ℕ)) (failed : Bool) (status : Status)
    (out_old out_new err_old err_new : Option (List ℕ)) → asked.verb ≡ Calendar → base_in asked ≡ Ok base
    → ByReading asked old new failed (IsReported (Ok status) out_old out_new err_old err_new)
    → (it : Report) × AreAnswered asked base asked.texts it × Appends out_old out_new it.out × Appends err_old err_new it.err × (status ≡ it.status)
each_is_written asked base old new failed status out_old out_new err_old err_new verb sought run =
    (report asked run.read, each_is_answered asked run.read base verb sought, run.holds.out, run.holds.err, run.holds.status)
