-- Lemmas for the law `cut_output_resumes`, about requests with several texts: the whole output consists of the reports
-- of the accepted texts. A law is the contract of a function that does nothing.
use Rattle.std.proofs.Common.{◌≡◌, ◌∙◌, ℕ, ℤ, List, [], ◌∷◌, Option, None, Some, Result, Ok, Err, map, codes, refl, sym, ap}
use Rattle.std.specs.Prelude.{is_err}
use Rattle.std.specs.List.{AllByRecursion, AllZip, filter_map, flat_map, join_by}
use Rattle.cal_bytes.specs.declared.whole.WholeFault.{WholeFault}
use Rattle.cal_report.specs.rules.Answer.{Answer, report_in, reports_text}
use Rattle.cal_report.specs.rules.TextReport.CalendarReport.{calendar_answer}
use Rattle.cal_report.specs.rules.RunReport.{answers_report, base_in, report}
use Rattle.cal_report.specs.rules.Resume.{AreAcceptedAmong, IsReadAs}
use Rattle.cal_report.specs.rules.Headline.{AreReportsOf, Expression, IsAccepted, IsAnswerTo, IsRejected, IsReportOf, alone}
use Rattle.cal_report.specs.rules.ReportLines.{Report}
use Rattle.cal_report.proofs.HeadlineAccepted.{text_accepted}
use Rattle.cal_report.proofs.HeadlineEach.{each_answered}
use Rattle.cal_report.proofs.HeadlineLemmas.{each_report, is_answered, one_meaning, report_of, report_of_texts}
use Rattle.cal_request.specs.rules.Request.{Request}
use Rattle.cal_request.specs.declared.verb.Verb.TheVariants.{Calendar}

-- ## The expressions that `AreAcceptedAmong` selects are accepted

all_found : (asked : Request) (texts : List (List ℕ)) (found : List (Option Expression)) → AllZip (IsReadAs asked) texts found
    → AllByRecursion (IsAccepted asked) (filter_map (λ it. it) found)
all_found asked [] [] each = tt
all_found asked [] (it ∷ found) each = absurd each
all_found asked (text ∷ texts) [] each = absurd each
all_found asked (text ∷ texts) (None ∷ found) each = all_found asked texts found each.1
all_found asked (text ∷ texts) (Some e ∷ found) each = (each.0.1, all_found asked texts found each.1)

pub all_accepted : (asked : Request) (texts : List (List ℕ)) (es : List Expression) → AreAcceptedAmong asked texts es → AllByRecursion (IsAccepted asked) es
all_accepted asked texts es among = rw among.kept (all_found asked texts among.found among.each)

-- ## The output consists of the reports of the accepted expressions

none_reported : (asked : Request) (base : ℤ) (text : List ℕ) (a : Answer) → IsRejected asked text
    → calendar_answer asked base text ≡ a → report_in a ≡ []
none_reported asked base text (Ok report) rejected is =
    let it = text_accepted asked base text (ap is_err is) in
    absurd (rejected it.expression (sym it.same) it.accepted)
none_reported asked base text (Err message) rejected is = refl

reports_found : (asked : Request) (base : ℤ) (texts : List (List ℕ)) (found : List (Option Expression))
    → AllZip (IsReadAs asked) texts found → flat_map (λ text. report_in (calendar_answer asked base text)) texts ≡ map (report_of asked base) (filter_map (λ it. it) found)
reports_found asked base [] [] each = refl
reports_found asked base [] (it ∷ found) each = absurd each
reports_found asked base (text ∷ texts) [] each = absurd each
reports_found asked base (text ∷ texts) (None ∷ found) each =
    rw (none_reported asked base text (calendar_answer asked base text) each.0 refl) (reports_found asked base texts found each.1)
reports_found asked base (text ∷ texts) (Some e ∷ found) each =
    let here : calendar_answer asked base text ≡ Ok (report_of asked base e) = ap (calendar_answer asked base) each.0.0 ∙ is_answered asked base e each.0.1 in
    rw here (ap (λ (rs : List (List ℕ)). report_of asked base e ∷ rs) (reports_found asked base texts found each.1))

pub reports_are_among : (asked : Request) (read : Result (List ℕ) WholeFault) (base : ℤ) (es : List Expression)
    → asked.verb ≡ Calendar → base_in asked ≡ Ok base → AreAcceptedAmong asked asked.texts es → AreReportsOf asked base es (report asked read).out
unfolding answers_report reports_text
reports_are_among asked read base es verb sought among = record {
  reports = map (report_of asked base) es;
  each = each_report asked base es;
  layout = ap (λ (r : Report). r.out) (report_of_texts asked read base verb sought)
      ∙ ap (join_by (λ report. report) (codes "\n")) (reports_found asked base asked.texts among.found among.each ∙ ap (map (report_of asked base)) (sym among.kept));
}

no_reports : (P : Expression → List ℕ → Type 0) (reports : List (List ℕ)) (out : List ℕ) → AllZip P [] reports
    → out ≡ join_by (λ report. report) (codes "\n") reports → out ≡ []
no_reports P [] out each layout = layout
no_reports P (report ∷ reports) out each layout = absurd each

pub none_among : (asked : Request) (read : Result (List ℕ) WholeFault) (base : ℤ)
    → asked.verb ≡ Calendar → base_in asked ≡ Ok base → AreAcceptedAmong asked asked.texts [] → (report asked read).out ≡ []
none_among asked read base verb sought among =
    let none = reports_are_among asked read base [] verb sought among in
    no_reports (λ e report. IsReportOf asked base (alone e) report) none.reports (report asked read).out none.each none.layout

-- ## There is exactly one list of accepted expressions

found_in : (asked : Request) (base : ℤ) (text : List ℕ) (answer : Result (List ℕ) (List ℕ)) → IsAnswerTo asked base text answer → (it : Option Expression) × IsReadAs asked text it
found_in asked base text (Ok report) h = (Some h.0, (sym h.1, h.2))
found_in asked base text (Err line) h = (None, h.0)

each_found : (asked : Request) (base : ℤ) (texts : List (List ℕ)) (answers : List (Result (List ℕ) (List ℕ))) → AllZip (IsAnswerTo asked base) texts answers
    → (found : List (Option Expression)) × AllZip (IsReadAs asked) texts found
each_found asked base [] [] each = ([], tt)
each_found asked base [] (answer ∷ answers) each = absurd each
each_found asked base (text ∷ texts) [] each = absurd each
each_found asked base (text ∷ texts) (answer ∷ answers) each =
    let here = found_in asked base text answer each.0 in
    let later = each_found asked base texts answers each.1 in
    (here.0 ∷ later.0, (here.1, later.1))

pub some_among : (asked : Request) → asked.verb ≡ Calendar → (es : List Expression) × AreAcceptedAmong asked asked.texts es
some_among asked verb =
    let found = each_found asked asked.now asked.texts _ (each_answered asked asked.now asked.texts) in
    (filter_map (λ it. it) found.0, record { found = found.0; each = found.1; kept = refl })

same_read : (asked : Request) (text : List ℕ) (it other : Option Expression) → IsReadAs asked text it → IsReadAs asked text other → it ≡ other
same_read asked text None None h k = refl
same_read asked text None (Some f) h k = absurd (h f (sym k.0) k.1)
same_read asked text (Some e) None h k = absurd (k e (sym h.0) h.1)
same_read asked text (Some e) (Some f) h k = ap Some (one_meaning asked e f h.1 k.1 (sym h.0 ∙ k.0))

same_found : (asked : Request) (texts : List (List ℕ)) (found other : List (Option Expression)) → AllZip (IsReadAs asked) texts found
    → AllZip (IsReadAs asked) texts other → found ≡ other
same_found asked [] [] [] each again = refl
same_found asked [] [] (o ∷ other) each again = absurd again
same_found asked [] (it ∷ found) other each again = absurd each
same_found asked (text ∷ texts) [] other each again = absurd each
same_found asked (text ∷ texts) (it ∷ found) [] each again = absurd again
same_found asked (text ∷ texts) (it ∷ found) (o ∷ other) each again =
    let here = same_read asked text it o each.0 again.0 in
    let later = same_found asked texts found other each.1 again.1 in
    cc

pub one_among : (asked : Request) (texts : List (List ℕ)) (es fs : List Expression) → AreAcceptedAmong asked texts es → AreAcceptedAmong asked texts fs
    → es ≡ fs
one_among asked texts es fs among again =
    among.kept ∙ ap (filter_map (λ it. it)) (same_found asked texts among.found again.found among.each again.each) ∙ sym again.kept
