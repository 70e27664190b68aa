-- Lemmas for the law `headline`: if the status is `Fine`, all texts were accepted, or, for the verb `timer`, the
-- timer file was. A law is the contract of a function that does nothing.
use Rattle.std.proofs.Common.{◌≡◌, ◌<◌, ◌-◌, ◌++◌, ◌∙◌, ℕ, suc, ℤ, Bool, true, false, not, cond, List, [], ◌∷◌, Option, None, Some, Result, Ok, Err, map, take, drop, filter, length, refl, sym, ap, subst, arith, append_assoc}
use Rattle.std.proofs.lemmas.List.{take-append-drop}
use Rattle.std.specs.Prelude.{is_err, nat_le, if◌then◌else◌, is_none}
use Rattle.std.specs.List.{AllByRecursion, filter_map, find, list_any, suffix_len}
use Rattle.std.specs.Str.{is_utf8}
use Rattle.std.proofs.lemmas.Bool.{or_parts}
use Rattle.jiff.specs.Types.{TimeZone}
use Rattle.cal_bytes.specs.declared.whole.WholeFault.{WholeFault}
use Rattle.cal_zone.specs.rules.Zone.{zone_of}
use Rattle.cal_spec.specs.computed.Expr.{expr_in}
use Rattle.cal_spec.specs.rules.Fields.{Fields}
use Rattle.cal_spec.specs.rules.NormalForm.{Spells}
use Rattle.cal_spec.specs.rules.ZoneSuffix.{ZoneSuffix, of_name, at_offset}
use Rattle.cal_zone.specs.rules.FixedOffsetZone.{fixed_offset_zone}
use Rattle.cal_spec.specs.declared.spec_fault.SpecFault.{SpecFault}
use Rattle.cal_spec.proofs.ExprRule.{read_is_spelled, spelled_is_read}
use Rattle.cal_timer.specs.rules.Assignments.{Assignment}
use Rattle.cal_timer.specs.rules.TimerRule.{AreFine, JudgesTimer}
use Rattle.cal_timer.specs.rules.TimerEntries.{TimerLine, Timer, bad_line, entries, entry_of, fault_joining, timer_in, timer_of}
use Rattle.cal_timer.specs.rules.TimerText.{excepted, is_exception, is_exception_reset, is_expression, is_reset, listed, max_expressions}
use Rattle.cal_timer.specs.declared.fault.TimerFault.{TimerFault}
use Rattle.cal_timer.proofs.ListedLemmas.{fault_of_exception, fault_of_expression}
use Rattle.cal_timer.proofs.TimerRuleLemmas.{judged}
use Rattle.cal_report.specs.rules.Answer.{texts_status}
use Rattle.cal_report.specs.rules.TextReport.CalendarReport.{answer_in, answer_with, calendar_answer}
use Rattle.cal_report.specs.rules.Headline.{AreAccepted, AreSpelled, Expression, IsAccepted, IsAcceptedFile, IsZoneFor, assigned_in}
use Rattle.cal_report.specs.rules.RunReport.{answers_report, base_in, report, whole_report}
use Rattle.cal_report.specs.rules.ReportLines.{Report}
use Rattle.cal_report.specs.rules.TimerReport.{answer_of_timer, answer_unless, timer_answer}
use Rattle.cal_request.specs.rules.RequestKind.{timer_path}
use Rattle.cal_request.specs.rules.Request.{Request}
use Rattle.cal_request.specs.declared.request.Status.TheVariants.{Fine, Refused}
use Rattle.cal_request.specs.declared.verb.Verb.TheVariants as verb
use Rattle.cal_report.proofs.HeadlineLemmas.{report_of_texts, report_of_timer, text_of}
use Rattle.cal_plan.proofs.PlanLemmas.{all_zoned, none_mapped}
use Rattle.cal_plan.specs.rules.ZoneFor.{lacks_zone, unzoned, zone_for}
use Rattle.cal_report.specs.rules.Context.{setting_of}

some_found : {A : Type 0} (o : Option A) → is_none o ≡ false → (x : A) × (o ≡ Some x)
some_found None h = cc
some_found (Some x) h = (x, refl)

-- ## If the status is `Fine`, every text was accepted

found_is_zone : (asked : Request) (suffix : Option ZoneSuffix) (tz : TimeZone) → zone_for (setting_of asked) suffix ≡ Some tz → IsZoneFor asked suffix tz
unfolding zone_for
found_is_zone asked None tz h = let same : zone_of asked.local ≡ tz = cc in sym same
found_is_zone asked (Some (of_name name)) tz h = h
found_is_zone asked (Some (at_offset seconds)) tz h = let same : fixed_offset_zone seconds ≡ tz = cc in sym same

-- the text is the text of an accepted expression
pub record IsAcceptedText (asked : Request) (text : List ℕ) : Type 0 where
  pub expression : Expression
  pub same : text ≡ expression.text
  pub accepted : IsAccepted asked expression

accepted_in : (asked : Request) (base : ℤ) (text : List ℕ) (fields : Fields) (o : Option TimeZone) → expr_in text ≡ Ok fields
    → zone_for (setting_of asked) fields.zone ≡ o → is_err (answer_in asked base text fields o) ≡ false → IsAcceptedText asked text
accepted_in asked base text fields None read found h = cc
accepted_in asked base text fields (Some tz) read found h = record {
  expression = record { text = text; fields = fields; tz = tz };
  same = refl;
  accepted = record { spelled = read_is_spelled text fields read; zone = found_is_zone asked fields.zone tz found };
}

accepted_with : (asked : Request) (base : ℤ) (text : List ℕ) (r : Result Fields SpecFault) → expr_in text ≡ r
    → is_err (answer_with asked base text r) ≡ false → IsAcceptedText asked text
accepted_with asked base text (Ok fields) read h = accepted_in asked base text fields (zone_for (setting_of asked) fields.zone) read refl h
accepted_with asked base text (Err fault) read h = cc

pub text_accepted : (asked : Request) (base : ℤ) (text : List ℕ)
    → is_err (calendar_answer asked base text) ≡ false → IsAcceptedText asked text
unfolding calendar_answer
text_accepted asked base text h =
    accepted_with asked base text (expr_in text) refl h

texts_accepted : (asked : Request) (base : ℤ) (texts : List (List ℕ))
    → list_any (λ text. is_err (calendar_answer asked base text)) texts ≡ false → AreAccepted asked texts
texts_accepted asked base [] h = record { expressions = []; same = refl; each = tt }
texts_accepted asked base (text ∷ texts) h =
    let parts = or_parts (is_err (calendar_answer asked base text)) (list_any (λ text. is_err (calendar_answer asked base text)) texts) h in
    let here = text_accepted asked base text parts.0 in
    let rest = texts_accepted asked base texts parts.1 in
    let same : text ∷ texts ≡ here.expression.text ∷ map text_of rest.expressions = let first = here.same in let later = rest.same in cc in
    record { expressions = here.expression ∷ rest.expressions; same = same; each = (here.accepted, rest.each) }

never_fine : {A : Type 0} → Refused ≡ Fine → A
never_fine h = cc

none_by_status : (b : Bool) → (if b then Refused else Fine) ≡ Fine → b ≡ false
none_by_status true h = cc
none_by_status false h = refl

pub fine_texts_are_accepted : (asked : Request) (read : Result (List ℕ) WholeFault) (base : ℤ) → asked.verb ≡ verb.Calendar → base_in asked ≡ Ok base
    → (report asked read).status ≡ Fine → AreAccepted asked asked.texts
unfolding answers_report texts_status
fine_texts_are_accepted asked read base verb sought h =
    let fine = sym (ap (λ (r : Report). r.status) (report_of_texts asked read base verb sought)) ∙ h in
    texts_accepted asked base asked.texts (none_by_status _ fine)

-- ## If the status is `Fine`, the timer file was accepted

spelled_unless : (number : ℕ) (text : List ℕ) (r : Result Fields SpecFault) → expr_in text ≡ r → bad_line number r ≡ None
    → (fields : Fields) × Spells text fields
spelled_unless number text (Ok fields) read h = (fields, read_is_spelled text fields read)
spelled_unless number text (Err fault) read h = cc

joining_by : (list : List Assignment) (a : Assignment) (many : Bool) → nat_le max_expressions (length list) ≡ many
    → fault_joining expr_in list a ≡ None → (length list < max_expressions) × ((fields : Fields) × Spells a.value fields)
unfolding fault_joining
joining_by list a true few = rw few (λ h. cc)
joining_by list a false few = rw few (λ h. (grind (arith, few), spelled_unless a.number a.value (expr_in a.value) refl h))

joining_spelled : (list : List Assignment) (a : Assignment) → fault_joining expr_in list a ≡ None
    → (length list < max_expressions) × ((fields : Fields) × Spells a.value fields)
joining_spelled list a h = joining_by list a (nat_le max_expressions (length list)) refl h

fine_spelled : (all : List Assignment) → AreFine expr_in all → AreSpelled all
fine_spelled all fine before a after split = grind (arith, joining_spelled, fault_of_expression, fault_of_exception)

-- the value of an assignment is a valid expression
abbrev IsSpelled : Assignment → Type 0
IsSpelled a = (fields : Fields) × Spells a.value fields

-- the induction step of `each_spelled`, from `rest` to `a ∷ rest`; `is` stands for the result of the test `adds` for
-- the assignment `a`
kept_spelled : (adds : Assignment → Bool) (a : Assignment) (rest : List Assignment) (is : Bool) → (is ≡ true → IsSpelled a) → AllByRecursion IsSpelled (filter adds rest)
    → AllByRecursion IsSpelled (cond is (a ∷ filter adds rest) (filter adds rest))
kept_spelled adds a rest true here later = (here refl, later)
kept_spelled adds a rest false here later = later

each_spelled : (adds : Assignment → Bool) (all front rest : List Assignment) → all ≡ front ++ rest
    → ((before : List Assignment) (a : Assignment) (after : List Assignment) → all ≡ before ++ (a ∷ after) → adds a ≡ true → IsSpelled a)
    → AllByRecursion IsSpelled (filter adds rest)
each_spelled adds all front [] split h = tt
each_spelled adds all front (a ∷ rest) split h =
    grind (arith, kept_spelled, append_assoc, each_spelled adds all (front ++ a ∷ []) rest (split ∙ sym (append_assoc front (a ∷ []) rest)) h)

listed_spelled : (all : List Assignment) → AreSpelled all → AllByRecursion IsSpelled (listed all)
unfolding listed
listed_spelled all h =
    let before = length all - suffix_len (λ a. not (is_reset a)) all in
    each_spelled is_expression all (take before all) (drop before all) (sym (take-append-drop before all)) (λ front a rest split is. ((h front a rest split).0 is).1)

excepted_spelled : (all : List Assignment) → AreSpelled all → AllByRecursion IsSpelled (excepted all)
unfolding excepted
excepted_spelled all h =
    let before = length all - suffix_len (λ a. not (is_exception_reset a)) all in
    each_spelled is_exception all (take before all) (drop before all) (sym (take-append-drop before all)) (λ front a rest split is. ((h front a rest split).1 is).1)

-- every assignment in `list` has an entry and assigns the text of an accepted expression; `expressions` are these
-- expressions, in order
record AreExpressionsOf (asked : Request) (list : List Assignment) : Type 0 where
  expressions : List Expression
  same : map (λ (a : Assignment). a.value) list ≡ map text_of expressions
  each : AllByRecursion (IsAccepted asked) expressions
  many : length expressions ≡ length (filter_map (λ a. entry_of a (expr_in a.value)) list)

no_expressions : (asked : Request) → AreExpressionsOf asked []
no_expressions asked = record { expressions = []; same = refl; each = tt; many = refl }

found_none : (p : TimerLine Fields → Bool) (x : TimerLine Fields) (xs : List (TimerLine Fields)) (here : Bool) → p x ≡ here → find p (x ∷ xs) ≡ None → (p x ≡ false) × (find p xs ≡ None)
found_none p x xs true is h = absurd (let never : ◌≡◌ {A = Option (TimerLine Fields)} (Some x) None = rw is at h in cc)
found_none p x xs false is h = (is, rw is at h)

one_more : (asked : Request) (a : Assignment) (list : List Assignment) (spelled : IsSpelled a) → expr_in a.value ≡ Ok spelled.0 → lacks_zone (setting_of asked) (record { number = a.number; text = a.value; expr = spelled.0 }) ≡ false
    → AreExpressionsOf asked list → AreExpressionsOf asked (a ∷ list)
one_more asked a list spelled read there rest =
    let zone = some_found (zone_for (setting_of asked) (spelled.0).zone) there in
    record {
      expressions = record { text = a.value; fields = spelled.0; tz = zone.0 } ∷ rest.expressions;
      same = ap (λ (ts : List (List ℕ)). a.value ∷ ts) rest.same;
      each = (record { spelled = spelled.1; zone = found_is_zone asked (spelled.0).zone zone.0 zone.1 }, rest.each);
      many = rw read (ap suc rest.many);
    }

expressions_of : (asked : Request) (list : List Assignment) → AllByRecursion IsSpelled list
    → find (lacks_zone (setting_of asked)) (filter_map (λ a. entry_of a (expr_in a.value)) list) ≡ None → AreExpressionsOf asked list
expressions_of asked [] spelled h = no_expressions asked
expressions_of asked (a ∷ list) spelled h =
    let read = spelled_is_read a.value (spelled.0).0 (spelled.0).1 in
    let entry : TimerLine Fields = record { number = a.number; text = a.value; expr = (spelled.0).0 } in
    let rest = filter_map (λ a. entry_of a (expr_in a.value)) list in
    let parts = found_none (lacks_zone (setting_of asked)) entry rest (lacks_zone (setting_of asked) entry) refl (rw read at h) in
    one_more asked a list spelled.0 read parts.0 (expressions_of asked list spelled.1 parts.1)

read_parts : (utf8 : Bool) (good bad : Result (Timer Fields) TimerFault) (lists : Timer Fields) (fault : TimerFault) → bad ≡ Err fault
    → (if utf8 then good else bad) ≡ Ok lists → (utf8 ≡ true) × (good ≡ Ok lists)
read_parts true good bad lists fault is h = (refl, h)
read_parts false good bad lists fault is h = absurd (let never : ◌≡◌ {A = Result (Timer Fields) TimerFault} (Err fault) (Ok lists) = sym is ∙ h in cc)

lists_accepted : (asked : Request) (bytes : List ℕ) (lists : Timer Fields) → timer_in expr_in bytes ≡ Ok lists
    → unzoned (setting_of asked) lists ≡ None → IsAcceptedFile asked bytes
unfolding timer_in timer_of entries
lists_accepted asked bytes lists read there =
    let parts = read_parts (is_utf8 bytes) _ _ lists _ refl read in
    let all = assigned_in bytes in
    let judges : JudgesTimer expr_in all (Ok lists) = subst (JudgesTimer expr_in all) parts.1 (judged expr_in all) in
    let spelled = fine_spelled all judges.0 in
    let zoned = all_zoned (setting_of asked) lists there in
    let none : find (lacks_zone (setting_of asked)) (entries expr_in all).expressions ≡ None
    = ap (λ (l : Timer Fields). find (lacks_zone (setting_of asked)) l.expressions) judges.1 ∙ none_mapped (find (lacks_zone (setting_of asked)) lists.expressions) zoned.0 in
    let nor : find (lacks_zone (setting_of asked)) (entries expr_in all).exceptions ≡ None
    = ap (λ (l : Timer Fields). find (lacks_zone (setting_of asked)) l.exceptions) judges.1 ∙ none_mapped (find (lacks_zone (setting_of asked)) lists.exceptions) zoned.1 in
    let found = expressions_of asked (listed all) (listed_spelled all spelled) none in
    let except = expressions_of asked (excepted all) (excepted_spelled all spelled) nor in
    let many : length found.expressions ≡ length lists.expressions = found.many ∙ ap (λ (l : Timer Fields). length l.expressions) judges.1 in
    record {
      schedule = record { expressions = found.expressions; exceptions = except.expressions };
      lists = record { utf8 = parts.0; spelled = spelled; expressions = found.same; exceptions = except.same; some = omega (arith, many, judges.2) };
      each = record { expressions = found.each; exceptions = except.each };
    }

accepted_unless : (asked : Request) (bytes name : List ℕ) (base : ℤ) (lists : Timer Fields) (o : Option ℕ)
    → timer_in expr_in bytes ≡ Ok lists → unzoned (setting_of asked) lists ≡ o → (whole_report (answer_unless asked base name lists o)).status ≡ Fine → IsAcceptedFile asked bytes
accepted_unless asked bytes name base lists None read there h = lists_accepted asked bytes lists read there
accepted_unless asked bytes name base lists (Some number) read there h = never_fine h

accepted_of : (asked : Request) (bytes name : List ℕ) (base : ℤ) (r : Result (Timer Fields) TimerFault)
    → timer_in expr_in bytes ≡ r → (whole_report (answer_of_timer asked base name r)).status ≡ Fine → IsAcceptedFile asked bytes
accepted_of asked bytes name base (Ok lists) read h = accepted_unless asked bytes name base lists (unzoned (setting_of asked) lists) read refl h
accepted_of asked bytes name base (Err fault) read h = never_fine h

pub fine_file_is_accepted : (asked : Request) (bytes : List ℕ) (base : ℤ) → asked.verb ≡ verb.Timer → base_in asked ≡ Ok base
    → (report asked (Ok bytes)).status ≡ Fine → IsAcceptedFile asked bytes
unfolding timer_answer
fine_file_is_accepted asked bytes base verb sought h =
    accepted_of asked bytes (timer_path asked.texts) base (timer_in expr_in bytes) refl
    (sym (ap (λ (r : Report). r.status) (report_of_timer asked bytes base verb sought)) ∙ h)
