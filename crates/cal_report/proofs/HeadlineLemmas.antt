-- Lemmas for the law `headline`: what is printed for accepted expressions and timer files, and that nothing else can be
-- printed. A law is the contract of a function that does nothing.
use Rattle.std.proofs.Common.{◌≡◌, ◌<◌, ◌++◌, ◌∙◌, ℕ, ℤ, Bool, true, false, List, [], ◌∷◌, Option, None, Some, Result, Ok, map, take, length, codes, refl, sym, ap, subst, arith, append-nil}
use Rattle.std.specs.Prelude.{is_err, nat_le, if◌then◌else◌}
use Rattle.std.specs.Io.KnownBytes.{Appends}
use Rattle.std.specs.List.{AllByRecursion, AllZip, filter_map, find, flat_map, join_by, list_any}
use Rattle.jiff.specs.Types.{TimeZone}
use Rattle.cal_bytes.specs.declared.whole.WholeFault.{WholeFault}
use Rattle.cal_spec.specs.computed.Expr.{expr_in}
use Rattle.cal_spec.specs.rules.Fields.{Fields}
use Rattle.cal_spec.specs.rules.NormalForm.{Spells}
use Rattle.cal_spec.specs.declared.spec_fault.SpecFault.{SpecFault}
use Rattle.cal_spec.proofs.ExprRule.{spelled_is_read}
use Rattle.cal_bytes.specs.rules.Bytes.{joined}
use Rattle.cal_elapse.specs.rules.ElapsesAfter.{elapses_after, elapses_except}
use Rattle.cal_elapse.specs.rules.Elapses.{AreElapses, Timed}
use Rattle.cal_elapse.proofs.ElapsesLemmas.{AreElapses-elapses_except, AreElapses-only, elapses_except-none}
use Rattle.cal_timer.specs.rules.Assignments.{Assignment}
use Rattle.cal_timer.specs.rules.TimerRule.{AreFine}
use Rattle.cal_timer.specs.rules.TimerEntries.{TimerLine, Timer, entries, entry_of, fault_following, fault_joining, timer_in, timer_of}
use Rattle.cal_timer.specs.rules.TimerText.{excepted, is_exception, is_expression, listed, max_expressions}
use Rattle.cal_timer.proofs.TimerRuleLemmas.{only_judged}
use Rattle.cal_plan.specs.rules.TimerElapses.{elapses_of_lists, timed_entry}
use Rattle.cal_plan.specs.rules.ZoneFor.{lacks_zone, unzoned, zone_for}
use Rattle.cal_report.specs.rules.Context.{setting_of}
use Rattle.cal_report.specs.rules.Answer.{error_lines, report_in, reports_text, texts_status}
use Rattle.cal_spec.specs.rules.ZoneSuffix.{ZoneSuffix, of_name, at_offset}
use Rattle.cal_report.specs.rules.TextReport.CalendarReport.{answer_in, answer_with, calendar_answer, calendar_report}
use Rattle.cal_report.specs.rules.ReportLines.{heading_text, except_label, original_label}
use Rattle.cal_report.specs.rules.ElapseLines.{elapses_text}
use Rattle.cal_report.specs.rules.Headline.{AreAllAccepted, AreReportsOf, AreSpelled, Expression, IsAccepted, IsFileOf, IsFine, IsReportOf, IsZoneFor, Schedule, alone, assigned_in, headings, meaning}
use Rattle.cal_report.specs.rules.RunReport.{ByReading, IsReported, answers_report, base_in, report, report_from, report_on, whole_report}
use Rattle.cal_report.specs.rules.TimerReport.{headings_text, timer_answer, timer_report}
use Rattle.cal_request.specs.rules.RequestKind.{timer_path, kind_by}
use Rattle.cal_request.specs.rules.Request.{Request}
use Rattle.cal_request.specs.declared.request.Status.{Status}
use Rattle.cal_request.specs.declared.request.Status.TheVariants.{Fine, Refused}
use Rattle.cal_request.specs.declared.verb.Verb.TheVariants as verb

-- ## Accepted expressions

zone_is_found : (asked : Request) (suffix : Option ZoneSuffix) (tz : TimeZone) → IsZoneFor asked suffix tz → zone_for (setting_of asked) suffix ≡ Some tz
unfolding zone_for
zone_is_found asked None tz h = ap Some (sym h)
zone_is_found asked (Some (of_name name)) tz h = h
zone_is_found asked (Some (at_offset seconds)) tz h = ap Some (sym h)

-- ## Reports of expressions

-- the report of an accepted expression
abbrev pub report_of : Request → ℤ → Expression → List ℕ
report_of asked base e = calendar_report asked base e.text e.fields e.tz

pub is_answered : (asked : Request) (base : ℤ) (e : Expression) → IsAccepted asked e
    → calendar_answer asked base e.text ≡ Ok (report_of asked base e)
unfolding calendar_answer
is_answered asked base e h =
    ap (answer_with asked base e.text) (spelled_is_read e.text e.fields h.spelled)
    ∙ ap (answer_in asked base e.text e.fields) (zone_is_found asked e.fields.zone e.tz h.zone)

-- if there are no exceptions, `elapses_after` computes exactly the elapses of an expression
alone_elapses : (t : Timed) (base : ℤ) → AreElapses (t ∷ []) [] base (elapses_after (t ∷ []) base)
alone_elapses t base = subst (AreElapses (t ∷ []) [] base) (elapses_except-none (t ∷ []) base) (AreElapses-elapses_except (t ∷ []) [] base)

pub is_report : (asked : Request) (base : ℤ) (e : Expression) → IsReportOf asked base (alone e) (report_of asked base e)
unfolding calendar_report
is_report asked base e = record {
  elapses = elapses_after (meaning e ∷ []) base;
  these = alone_elapses (meaning e) base;
  layout = rw (append-nil (heading_text original_label e.text e.fields), append-nil (heading_text original_label e.text e.fields)) (ap (λ (t : List ℕ). heading_text original_label e.text e.fields ++ t) (append-nil _));
}

pub each_report : (asked : Request) (base : ℤ) (es : List Expression)
    → AllZip (λ e report. IsReportOf asked base (alone e) report) es (map (report_of asked base) es)
each_report asked base [] = tt
each_report asked base (e ∷ es) = (is_report asked base e, each_report asked base es)

abbrev pub text_of : Expression → List ℕ
text_of e = e.text

reports_are : (asked : Request) (base : ℤ) (es : List Expression) → AllByRecursion (IsAccepted asked) es
    → flat_map (λ text. report_in (calendar_answer asked base text)) (map text_of es) ≡ map (report_of asked base) es
reports_are asked base [] all = refl
reports_are asked base (e ∷ es) all =
    rw (is_answered asked base e all.0) (ap (λ (rs : List (List ℕ)). report_of asked base e ∷ rs) (reports_are asked base es all.1))

none_refused : (asked : Request) (base : ℤ) (es : List Expression) → AllByRecursion (IsAccepted asked) es
    → error_lines (calendar_answer asked base) (map text_of es) ≡ []
unfolding error_lines
none_refused asked base [] all = refl
none_refused asked base (e ∷ es) all =
    rw (is_answered asked base e all.0) (none_refused asked base es all.1)

none_fails : (asked : Request) (base : ℤ) (es : List Expression) → AllByRecursion (IsAccepted asked) es
    → list_any (λ text. is_err (calendar_answer asked base text)) (map text_of es) ≡ false
none_fails asked base [] all = refl
none_fails asked base (e ∷ es) all =
    rw (is_answered asked base e all.0) (none_fails asked base es all.1)

-- if the base time is valid, the report of a request for calendar expressions consists of the answers to them
pub report_of_texts : (asked : Request) (read : Result (List ℕ) WholeFault) (base : ℤ) → asked.verb ≡ verb.Calendar → base_in asked ≡ Ok base
    → report asked read ≡ answers_report (calendar_answer asked base) asked.texts
unfolding report
report_of_texts asked read base verb sought =
    ap (λ v. report_on asked read (kind_by v asked.texts)) verb
    ∙ ap (report_from (λ b. answers_report (calendar_answer asked b) asked.texts)) sought

answers_report_is : (asked : Request) (base : ℤ) (es : List Expression)
    → asked.texts ≡ map text_of es → AllByRecursion (IsAccepted asked) es
    → AreReportsOf asked base es (answers_report (calendar_answer asked base) asked.texts).out × IsFine (answers_report (calendar_answer asked base) asked.texts)
unfolding answers_report reports_text texts_status
answers_report_is asked base es texts all =
    let answer = calendar_answer asked base in (
      record {
        reports = map (report_of asked base) es;
        each = each_report asked base es;
        layout = ap (reports_text answer) texts ∙ ap (join_by (λ report. report) (codes "\n")) (reports_are asked base es all);
      },
      record {
        err = ap (error_lines answer) texts ∙ none_refused asked base es all;
        status = ap (texts_status answer) texts ∙ ap (λ b. if b then Refused else Fine) (none_fails asked base es all);
      },
    )

pub calendar_report_is : (asked : Request) (read : Result (List ℕ) WholeFault) (base : ℤ) (es : List Expression)
    → asked.verb ≡ verb.Calendar → base_in asked ≡ Ok base → asked.texts ≡ map (λ (e : Expression). e.text) es → AllByRecursion (IsAccepted asked) es
    → AreReportsOf asked base es (report asked read).out × IsFine (report asked read)
calendar_report_is asked read base es verb sought texts all =
    rw (report_of_texts asked read base verb sought) (answers_report_is asked base es texts all)

-- ## Timer files

-- assigning a valid expression or exception isn't an error if the list of its kind has fewer than `max_expressions`
-- entries
joins_well : (list : List Assignment) (a : Assignment) → (length list < max_expressions) × ((fields : Fields) × Spells a.value fields)
    → fault_joining expr_in list a ≡ None
unfolding fault_joining
joins_well list a spelled =
    let few : nat_le max_expressions (length list) ≡ false = grind (arith, spelled.0) in
    rw (few, spelled_is_read a.value spelled.1.0 spelled.1.1) refl

no_fault : (before : List Assignment) (a : Assignment) (expresses excepts : Bool) → is_expression a ≡ expresses → is_exception a ≡ excepts
    → (is_expression a ≡ true → (length (listed before) < max_expressions) × ((fields : Fields) × Spells a.value fields))
    × (is_exception a ≡ true → (length (excepted before) < max_expressions) × ((fields : Fields) × Spells a.value fields))
    → fault_following expr_in before a ≡ None
unfolding fault_following
no_fault before a true excepts e f h = rw e (joins_well (listed before) a (h.0 e))
no_fault before a false true e f h = rw (e, f) (joins_well (excepted before) a (h.1 f))
no_fault before a false false e f h = rw (e, f) refl

all_fine : (all : List Assignment) → AreSpelled all → AreFine expr_in all
all_fine all h before a after split = no_fault before a (is_expression a) (is_exception a) refl refl (h before a after split)

-- `entry`, a line of a parsed timer file, has the text and the fields of the expression `e`, and the zone suffix of `e`
-- stands for the zone of `e`
record IsEntryOf (asked : Request) (entry : TimerLine Fields) (e : Expression) : Type 0 where
  text : entry.text ≡ e.text
  expr : entry.expr ≡ e.fields
  zone : zone_for (setting_of asked) e.fields.zone ≡ Some e.tz

entries_are : (asked : Request) (list : List Assignment) (es : List Expression)
    → map (λ (a : Assignment). a.value) list ≡ map text_of es → AllByRecursion (IsAccepted asked) es
    → AllZip (IsEntryOf asked) (filter_map (λ a. entry_of a (expr_in a.value)) list) es
entries_are asked [] [] same all = tt
entries_are asked [] (e ∷ es) same all = cc
entries_are asked (a ∷ list) [] same all = cc
entries_are asked (a ∷ list) (e ∷ es) same all =
    let text : a.value ≡ e.text = cc in
    let rest : map (λ (a : Assignment). a.value) list ≡ map text_of es = cc in
    let read : expr_in a.value ≡ Ok e.fields = ap expr_in text ∙ spelled_is_read e.text e.fields all.0.spelled in
    rw read (
      record { text = text; expr = refl; zone = zone_is_found asked e.fields.zone e.tz all.0.zone },
      entries_are asked list es rest all.1,
    )

none_lacks : (asked : Request) (list : List (TimerLine Fields)) (es : List Expression) → AllZip (IsEntryOf asked) list es
    → find (lacks_zone (setting_of asked)) list ≡ None
none_lacks asked [] [] h = refl
none_lacks asked [] (e ∷ es) h = absurd h
none_lacks asked (entry ∷ list) [] h = absurd h
none_lacks asked (entry ∷ list) (e ∷ es) h =
    rw (h.0.expr, h.0.zone) (none_lacks asked list es h.1)

meanings_are : (asked : Request) (list : List (TimerLine Fields)) (es : List Expression) → AllZip (IsEntryOf asked) list es
    → map (timed_entry (setting_of asked)) list ≡ map meaning es
unfolding timed_entry
meanings_are asked [] [] h = refl
meanings_are asked [] (e ∷ es) h = absurd h
meanings_are asked (entry ∷ list) [] h = absurd h
meanings_are asked (entry ∷ list) (e ∷ es) h =
    rw (h.0.expr, h.0.zone) (ap (λ (ts : List Timed). meaning e ∷ ts) (meanings_are asked list es h.1))

-- if the entries in `list` are the expressions `es`, in order, then both have the same headings
shown_are : (label : List ℕ) (asked : Request) (list : List (TimerLine Fields)) (es : List Expression) → AllZip (IsEntryOf asked) list es
    → flat_map (λ (entry : TimerLine Fields). heading_text label entry.text entry.expr) list ≡ flat_map (λ (e : Expression). heading_text label e.text e.fields) es
shown_are label asked [] [] h = refl
shown_are label asked [] (e ∷ es) h = absurd h
shown_are label asked (entry ∷ list) [] h = absurd h
shown_are label asked (entry ∷ list) (e ∷ es) h =
    rw (h.0.text, h.0.expr) (ap (λ (t : List ℕ). heading_text label e.text e.fields ++ t) (shown_are label asked list es h.1))

as_many : (asked : Request) (list : List (TimerLine Fields)) (es : List Expression) → AllZip (IsEntryOf asked) list es → 0 < length es → 0 < length list
as_many asked [] [] h some = some
as_many asked [] (e ∷ es) h some = absurd h
as_many asked (entry ∷ list) es h some = omega arith

-- the entries of the parsed timer file `lists` are the expressions and the exceptions of the schedule `s`, in order
record AreEntriesOf (asked : Request) (lists : Timer Fields) (s : Schedule) : Type 0 where
  expressions : AllZip (IsEntryOf asked) lists.expressions s.expressions
  exceptions : AllZip (IsEntryOf asked) lists.exceptions s.exceptions

-- the parsed expressions and exceptions of a timer file
abbrev entries_in : List ℕ → Timer Fields
entries_in bytes = entries expr_in (assigned_in bytes)

file_entries : (asked : Request) (bytes : List ℕ) (s : Schedule) → IsFileOf bytes s → AreAllAccepted asked s
    → AreEntriesOf asked (entries_in bytes) s
unfolding entries
file_entries asked bytes s file all = record {
  expressions = entries_are asked (listed (assigned_in bytes)) s.expressions file.expressions all.expressions;
  exceptions = entries_are asked (excepted (assigned_in bytes)) s.exceptions file.exceptions all.exceptions;
}

file_is_read : (asked : Request) (bytes : List ℕ) (s : Schedule) → IsFileOf bytes s → AreAllAccepted asked s
    → timer_in expr_in bytes ≡ Ok (entries_in bytes)
unfolding timer_in timer_of
file_is_read asked bytes s file all =
    let some = as_many asked (entries_in bytes).expressions s.expressions (file_entries asked bytes s file all).expressions file.some in
    rw file.utf8 (sym (only_judged expr_in (assigned_in bytes) (Ok (entries_in bytes)) (all_fine (assigned_in bytes) file.spelled, refl, some)))

all_there : (asked : Request) (lists : Timer Fields) (s : Schedule) → AreEntriesOf asked lists s → unzoned (setting_of asked) lists ≡ None
unfolding unzoned
all_there asked lists s h =
    rw (none_lacks asked lists.expressions s.expressions h.expressions, none_lacks asked lists.exceptions s.exceptions h.exceptions) refl

-- if the base time is valid, the report of a request for a timer file is the answer to the file
pub report_of_timer : (asked : Request) (bytes : List ℕ) (base : ℤ) → asked.verb ≡ verb.Timer → base_in asked ≡ Ok base
    → report asked (Ok bytes) ≡ whole_report (timer_answer asked base (timer_path asked.texts) (Ok bytes))
unfolding report
report_of_timer asked bytes base verb sought =
    ap (λ v. report_on asked (Ok bytes) (kind_by v asked.texts)) verb
    ∙ ap (report_from (λ b. whole_report (timer_answer asked b (timer_path asked.texts) (Ok bytes)))) sought

file_is_answered : (asked : Request) (bytes name : List ℕ) (base : ℤ) (s : Schedule) → IsFileOf bytes s
    → AreAllAccepted asked s → timer_answer asked base name (Ok bytes) ≡ Ok (timer_report asked base (entries_in bytes))
unfolding timer_answer
file_is_answered asked bytes name base s file all =
    rw (file_is_read asked bytes s file all, all_there asked (entries_in bytes) s (file_entries asked bytes s file all)) refl

layout_is : (a b c : List ℕ) → joined (joined (a ∷ b ∷ []) ∷ c ∷ []) ≡ (a ++ b) ++ c
layout_is a b c = rw (append-nil b, append-nil c) refl

timer_is_report : (asked : Request) (base : ℤ) (lists : Timer Fields) (s : Schedule) → AreEntriesOf asked lists s
    → IsReportOf asked base s (timer_report asked base lists)
unfolding timer_report headings_text elapses_of_lists
timer_is_report asked base lists s h =
    let elapses = elapses_except (map meaning s.expressions) (map meaning s.exceptions) base in
    record {
      elapses = elapses;
      these = AreElapses-elapses_except (map meaning s.expressions) (map meaning s.exceptions) base;
      layout = rw (
        shown_are original_label asked lists.expressions s.expressions h.expressions,
        shown_are except_label asked lists.exceptions s.exceptions h.exceptions,
        meanings_are asked lists.expressions s.expressions h.expressions,
        meanings_are asked lists.exceptions s.exceptions h.exceptions,
      ) (layout_is (flat_map (λ (e : Expression). heading_text original_label e.text e.fields) s.expressions)
          (flat_map (λ (e : Expression). heading_text except_label e.text e.fields) s.exceptions)
          (elapses_text asked.local asked.now (take asked.iterations elapses)));
    }

pub timer_report_is : (asked : Request) (bytes : List ℕ) (base : ℤ) (s : Schedule)
    → asked.verb ≡ verb.Timer → base_in asked ≡ Ok base → IsFileOf bytes s → AreAllAccepted asked s
    → IsReportOf asked base s (report asked (Ok bytes)).out × IsFine (report asked (Ok bytes))
timer_report_is asked bytes base s verb sought file all =
    rw (report_of_timer asked bytes base verb sought, file_is_answered asked bytes (timer_path asked.texts) base s file all)
    (timer_is_report asked base (entries_in bytes) s (file_entries asked bytes s file all), record { err = refl; status = refl })

-- ## What a run writes

pub calendar_is_written : (asked : Request) (base : ℤ) (es : List Expression) (old new : Option (List ℕ)) (failed : Bool) (status : Status)
    (out_old out_new err_old err_new : Option (List ℕ)) → asked.verb ≡ verb.Calendar → base_in asked ≡ Ok base → asked.texts ≡ map (λ (e : Expression). e.text) es
    → AllByRecursion (IsAccepted asked) es → ByReading asked old new failed (IsReported (Ok status) out_old out_new err_old err_new)
    → (text : List ℕ) × AreReportsOf asked base es text × Appends out_old out_new text × Appends err_old err_new [] × (status ≡ Fine)
calendar_is_written asked base es old new failed status out_old out_new err_old err_new verb sought texts all run =
    let printed = calendar_report_is asked run.read base es verb sought texts all in
    ((report asked run.read).out, printed.0, run.holds.out, subst (Appends err_old err_new) printed.1.err run.holds.err, run.holds.status ∙ printed.1.status)

pub timer_is_written : (asked : Request) (base : ℤ) (bytes : List ℕ) (s : Schedule) (old new : Option (List ℕ)) (failed : Bool) (status : Status)
    (out_old out_new err_old err_new : Option (List ℕ)) → asked.verb ≡ verb.Timer → base_in asked ≡ Ok base → IsFileOf bytes s
    → AreAllAccepted asked s → (run : ByReading asked old new failed (IsReported (Ok status) out_old out_new err_old err_new)) → run.read ≡ Ok bytes
    → (text : List ℕ) × IsReportOf asked base s text × Appends out_old out_new text × Appends err_old err_new [] × (status ≡ Fine)
timer_is_written asked base bytes s old new failed status out_old out_new err_old err_new verb sought file all run read =
    let printed : IsReportOf asked base s (report asked run.read).out × IsFine (report asked run.read)
    = subst (λ (r : Result (List ℕ) WholeFault). IsReportOf asked base s (report asked r).out × IsFine (report asked r)) (sym read) (timer_report_is asked bytes base s verb sought file all) in
    ((report asked run.read).out, printed.0, run.holds.out, subst (Appends err_old err_new) printed.1.err run.holds.err, run.holds.status ∙ printed.1.status)

-- ## Unique reports and lists of elapses

pub one_elapses : (ts exceptions : List Timed) (base : ℤ) (xs ys : List ℤ) → AreElapses ts exceptions base xs → AreElapses ts exceptions base ys → xs ≡ ys
one_elapses ts exceptions base xs ys h k = AreElapses-only ts exceptions base xs h ∙ sym (AreElapses-only ts exceptions base ys k)

pub one_report : (asked : Request) (base : ℤ) (s : Schedule) (a b : List ℕ) → IsReportOf asked base s a → IsReportOf asked base s b → a ≡ b
one_report asked base s a b h k =
    h.layout
    ∙ (ap (λ (xs : List ℤ). headings s ++ elapses_text asked.local asked.now (take asked.iterations xs))
    (one_elapses (map meaning s.expressions) (map meaning s.exceptions) base h.elapses k.elapses h.these k.these)
    ∙ sym k.layout)

same_reports : (asked : Request) (base : ℤ) (es : List Expression) (rs bs : List (List ℕ))
    → AllZip (λ e report. IsReportOf asked base (alone e) report) es rs → AllZip (λ e report. IsReportOf asked base (alone e) report) es bs → rs ≡ bs
same_reports asked base [] [] [] h k = refl
same_reports asked base [] [] (b ∷ bs) h k = absurd k
same_reports asked base [] (a ∷ rs) bs h k = absurd h
same_reports asked base (e ∷ es) [] bs h k = absurd h
same_reports asked base (e ∷ es) (a ∷ rs) [] h k = absurd k
same_reports asked base (e ∷ es) (a ∷ rs) (b ∷ bs) h k =
    let here = one_report asked base (alone e) a b h.0 k.0 in
    let rest = same_reports asked base es rs bs h.1 k.1 in
    cc

pub one_text : (asked : Request) (base : ℤ) (es : List Expression) (a b : List ℕ) → AreReportsOf asked base es a → AreReportsOf asked base es b → a ≡ b
one_text asked base es a b h k =
    h.layout ∙ (ap (join_by (λ report. report) (codes "\n")) (same_reports asked base es h.reports k.reports h.each k.each) ∙ sym k.layout)

same_expression : (e f : Expression) → e.text ≡ f.text → e.fields ≡ f.fields → e.tz ≡ f.tz → e ≡ f
same_expression e f text fields tz =
    let same : ◌≡◌ {A = Expression} (record { text = e.text; fields = e.fields; tz = e.tz }) (record { text = f.text; fields = f.fields; tz = f.tz }) = cc in
    same

pub one_meaning : (asked : Request) (e f : Expression) → IsAccepted asked e → IsAccepted asked f → e.text ≡ f.text → e ≡ f
one_meaning asked e f h k text =
    let here = spelled_is_read e.text e.fields h.spelled in
    let there = spelled_is_read f.text f.fields k.spelled in
    let read : ◌≡◌ {A = Result Fields SpecFault} (Ok e.fields) (Ok f.fields) = sym here ∙ (ap expr_in text ∙ there) in
    let fields : e.fields ≡ f.fields = cc in
    let zone : Some e.tz ≡ Some f.tz
    = sym (zone_is_found asked e.fields.zone e.tz h.zone) ∙ (ap (λ (g : Fields). zone_for (setting_of asked) g.zone) fields ∙ zone_is_found asked f.fields.zone f.tz k.zone) in
    same_expression e f text fields (cc)
