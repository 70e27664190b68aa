-- Lemmas for the law `cut_output_resumes`, about requests with several texts: an output that was cut off consists of
-- complete reports and a prefix of the next report. A law is the contract of a function that does nothing.
use Rattle.std.proofs.Common.{◌≡◌, ◌⊎◌, ◌<◌, ◌++◌, ◌∙◌, inl, inr, ℕ, ℤ, Bool, List, [], ◌∷◌, Option, None, Some, Result, Ok, map, length, codes, refl, sym, ap, subst, arith, append-nil, append_assoc, length-append, take}
use Rattle.std.proofs.Math.Seq.{take-append_seam}
use Rattle.std.proofs.lemmas.List.{append_cancel_left, length-map}
use Rattle.std.proofs.lemmas.List.Folds.{flat_map-map}
use Rattle.std.specs.List.{AllByRecursion, AllZip, flat_map, join_by}
use Rattle.cal_bytes.specs.declared.whole.WholeFault.{WholeFault}
use Rattle.cal_report.specs.rules.RunReport.{ByReading, IsReported, base_from, base_in, report}
use Rattle.cal_report.specs.rules.Resume.{AreAcceptedAmong, ResumesAmong, for_text, report_of_one}
use Rattle.cal_report.specs.rules.TextReport.TimestampReport.{stamp_in}
use Rattle.cal_report.specs.rules.Headline.{AreReportsOf, Expression, IsAccepted, IsReportOf, alone}
use Rattle.cal_report.proofs.AmongLemmas.{all_accepted, reports_are_among}
use Rattle.cal_report.proofs.HeadlineLemmas.{one_report}
use Rattle.cal_report.proofs.ResumeLemmas.{front_written, text_report, text_resumes, zone_again}
use Rattle.cal_request.specs.rules.Request.{Request}
use Rattle.std.specs.Io.KnownBytes.{Appends}
use Rattle.cal_request.specs.declared.request.RunFault.{RunFault}
use Rattle.cal_request.specs.declared.request.Status.{Status}
use Rattle.cal_request.specs.declared.verb.Verb.TheVariants.{Calendar}

-- ## Prefixes of lists that are joined with a separator

-- a prefix of `xs ++ (c ∷ more)` either ends within `xs`, or contains `xs` and the separator `c`
cut_once : {A : Type 0} (xs : List A) (c : A) (more front rest : List A) → xs ++ (c ∷ more) ≡ front ++ rest
    → ((tail : List A) × (xs ≡ front ++ tail)) ⊎ ((ys : List A) × (front ≡ xs ++ (c ∷ ys)) × (more ≡ ys ++ rest))
cut_once xs c more [] rest e = inl (xs, refl)
cut_once [] c more (y ∷ front) rest e =
    let one : c ≡ y = cc in
    let tail : more ≡ front ++ rest = cc in
    inr (front, ap (λ z. z ∷ front) (sym one), tail)
cut_once (x ∷ xs) c more (y ∷ front) rest e =
    let one : x ≡ y = cc in
    let tail : xs ++ (c ∷ more) ≡ front ++ rest = cc in
    elim (cut_once xs c more front rest tail) [
      | inl within ↦ inl (within.0, ap (λ z. z ∷ xs) one ∙ ap (λ zs. y ∷ zs) within.1)
      | inr past ↦ inr (past.0, ap (λ z. z ∷ front) (sym one) ∙ ap (λ zs. x ∷ zs) past.1, past.2)
    ]

-- `front` consists of the lists in `before`, each followed by the separator `c`, and of a prefix `last` of the next
-- list
pub record CutAmong {A : Type 0} (c : A) (lists : List (List A)) (front : List A) : Type 0 where
  pub before : List (List A)
  pub list : List A
  pub after : List (List A)
  pub lists_are : lists ≡ before ++ (list ∷ after)
  pub last : List A
  pub rest : List A
  pub cut : list ≡ last ++ rest
  pub layout : front ≡ flat_map (λ xs. xs ++ (c ∷ [])) before ++ last

pub cut_among : {A : Type 0} (c : A) (xs : List A) (lists : List (List A)) (front rest : List A)
    → join_by (λ ys. ys) (c ∷ []) (xs ∷ lists) ≡ front ++ rest → CutAmong c (xs ∷ lists) front
cut_among c xs [] front rest e = record { before = []; list = xs; after = []; lists_are = refl; last = front; rest = rest; cut = sym (append-nil xs) ∙ e; layout = refl }
cut_among c xs (ys ∷ lists) front rest e =
    elim (cut_once xs c (join_by (λ ys. ys) (c ∷ []) (ys ∷ lists)) front rest e) [
      | inl within ↦ record { before = []; list = xs; after = ys ∷ lists; lists_are = refl; last = front; rest = within.0; cut = within.1; layout = refl }
      | inr past ↦ (let later = cut_among c ys lists past.0 rest past.2 in
          record {
            before = xs ∷ later.before;
            list = later.list;
            after = later.after;
            lists_are = ap (λ zs. xs ∷ zs) later.lists_are;
            last = later.last;
            rest = later.rest;
            cut = later.cut;
            layout = past.1
                ∙ ap (λ zs. xs ++ (c ∷ zs)) later.layout
                ∙ sym (append_assoc xs (c ∷ []) (flat_map (λ zs. zs ++ (c ∷ [])) later.before ++ later.last))
                ∙ sym (append_assoc (xs ++ (c ∷ [])) (flat_map (λ zs. zs ++ (c ∷ [])) later.before) later.last);
          })
    ]

-- There is only one way to divide a prefix as in `CutAmong`: if one division has the complete lists `b` and then the
-- prefix `last`, and another has `d` and then `more`, then `b` is `d` and `last` is `more`.
one_cut : {A : Type 0} (c : A) (lists b d : List (List A)) (x y : List A) (a e : List (List A)) (last rest more others : List A)
    → lists ≡ b ++ (x ∷ a) → lists ≡ d ++ (y ∷ e) → x ≡ last ++ rest → y ≡ more ++ others
    → flat_map (λ xs. xs ++ (c ∷ [])) b ++ last ≡ flat_map (λ xs. xs ++ (c ∷ [])) d ++ more → (b ≡ d) × (last ≡ more)
one_cut c lists [] [] x y a e last rest more others p q cut cut_again same = (refl, same)
one_cut c lists [] (z ∷ d) x y a e last rest more others p q cut cut_again same =
    let first : x ∷ a ≡ z ∷ (d ++ (y ∷ e)) = sym p ∙ q in
    let one : x ≡ z = cc in
    absurd (omega (arith, ap length one, ap length cut, ap length same, length-append last rest, length-append ((z ++ (c ∷ [])) ++ flat_map (λ xs. xs ++ (c ∷ [])) d) more, length-append (z ++ (c ∷ [])) (flat_map (λ xs. xs ++ (c ∷ [])) d), length-append z (c ∷ [])))
one_cut c lists (z ∷ b) [] x y a e last rest more others p q cut cut_again same =
    let first : y ∷ e ≡ z ∷ (b ++ (x ∷ a)) = sym q ∙ p in
    let one : y ≡ z = cc in
    absurd (omega (arith, ap length one, ap length cut_again, ap length same, length-append more others, length-append ((z ++ (c ∷ [])) ++ flat_map (λ xs. xs ++ (c ∷ [])) b) last, length-append (z ++ (c ∷ [])) (flat_map (λ xs. xs ++ (c ∷ [])) b), length-append z (c ∷ [])))
one_cut c [] (z ∷ b) (w ∷ d) x y a e last rest more others p q cut cut_again same = absurd (cc)
one_cut c (v ∷ lists) (z ∷ b) (w ∷ d) x y a e last rest more others p q cut cut_again same =
    let one : v ≡ z = cc in
    let two : v ≡ w = cc in
    let left : lists ≡ b ++ (x ∷ a) = cc in
    let right : lists ≡ d ++ (y ∷ e) = cc in
    let heads : z ≡ w = sym one ∙ two in
    let parts : flat_map (λ xs. xs ++ (c ∷ [])) b ++ last ≡ flat_map (λ xs. xs ++ (c ∷ [])) d ++ more
    = append_cancel_left (z ++ (c ∷ [])) (flat_map (λ xs. xs ++ (c ∷ [])) b ++ last) (flat_map (λ xs. xs ++ (c ∷ [])) d ++ more)
    (sym (append_assoc (z ++ (c ∷ [])) (flat_map (λ xs. xs ++ (c ∷ [])) b) last)
    ∙ same
    ∙ ap (λ front. (front ++ (c ∷ []) ++ flat_map (λ xs. xs ++ (c ∷ [])) d) ++ more) (sym heads)
    ∙ append_assoc (z ++ (c ∷ [])) (flat_map (λ xs. xs ++ (c ∷ [])) d) more) in
    let later = one_cut c lists b d x y a e last rest more others left right cut cut_again parts in
    (ap (λ zs. z ∷ zs) later.0 ∙ ap (λ front. front ∷ d) heads, later.1)

-- `xs` consists of the list `first`, the element `x` and the list `others`, in this order. `f` maps `first` to
-- `before`, and `x` to `y`.
record MapAmong {A B : Type 0} (f : A → B) (xs : List A) (before : List B) (y : B) (after : List B) : Type 0 where
  first : List A
  x : A
  others : List A
  whole : xs ≡ first ++ (x ∷ others)
  before_is : before ≡ map f first
  is : y ≡ f x

map_more : {A B : Type 0} (f : A → B) (x : A) (xs : List A) (z : B) (before : List B) (y : B) (after : List B) → z ≡ f x → MapAmong f xs before y after
    → MapAmong f (x ∷ xs) (z ∷ before) y after
map_more f x xs z before y after head later = record {
  first = x ∷ later.first;
  x = later.x;
  others = later.others;
  whole = ap (λ zs. x ∷ zs) later.whole;
  before_is = ap (λ w. w ∷ before) head ∙ ap (λ zs. f x ∷ zs) later.before_is;
  is = later.is;
}

map_among : {A B : Type 0} (f : A → B) (xs : List A) (before : List B) (y : B) (after : List B) → map f xs ≡ before ++ (y ∷ after) → MapAmong f xs before y after
map_among f [] [] y after h = absurd (cc)
map_among f [] (z ∷ before) y after h = absurd (cc)
map_among f (x ∷ xs) [] y after h = record { first = []; x = x; others = xs; whole = refl; before_is = refl; is = cc }
map_among f (x ∷ xs) (z ∷ before) y after h =
    let tail : map f xs ≡ before ++ (y ∷ after) = cc in
    let head : z ≡ f x = cc in
    map_more f x xs z before y after head (map_among f xs before y after tail)

map_parts : {A B : Type 0} (f : A → B) (xs : List A) (y : A) (ys : List A) → map f (xs ++ (y ∷ ys)) ≡ map f xs ++ (f y ∷ map f ys)
map_parts f [] y ys = refl
map_parts f (x ∷ xs) y ys = ap (λ zs. f x ∷ zs) (map_parts f xs y ys)

same_front : {A : Type 0} (xs b d more others : List A) → xs ≡ b ++ more → xs ≡ d ++ others → length b ≡ length d → b ≡ d
same_front xs b d more others p q long =
    sym (take-append_seam b more) ∙ ap (take (length b)) (sym p ∙ q) ∙ ap (λ n. take n (d ++ others)) long ∙ take-append_seam d others

-- ## Requests for one of several texts

same_base : (asked : Request) (text : List ℕ) (base : Option (List ℕ)) → base_from (for_text asked text) base ≡ base_from asked base
unfolding stamp_in
same_base asked text None = refl
same_base asked text (Some base) = refl

same_sought : (asked : Request) (text : List ℕ) → base_in (for_text asked text) ≡ base_in asked
unfolding base_in
same_sought asked text = same_base asked text asked.base

accepted_alone : (asked : Request) (text : List ℕ) (e : Expression) → IsAccepted asked e → IsAccepted (for_text asked text) e
accepted_alone asked text e h = record { spelled = h.spelled; zone = zone_again asked (for_text asked text) e.fields.zone e.tz refl refl h.zone }

accepted_at : (asked : Request) (before : List Expression) (e : Expression) (after : List Expression)
    → AllByRecursion (IsAccepted asked) (before ++ (e ∷ after)) → IsAccepted asked e
accepted_at asked [] e after all = all.0
accepted_at asked (d ∷ before) e after all = accepted_at asked before e after all.1

module _ (asked : Request) (read : Result (List ℕ) WholeFault) (base : ℤ) (verb : asked.verb ≡ Calendar) (sought : base_in asked ≡ Ok base) where
  -- the report of an expression equals the standard output of a request for this expression alone
  reported_alone : (e : Expression) (text : List ℕ) → IsAccepted asked e → IsReportOf asked base (alone e) text → (report (for_text asked e.text) read).out ≡ text
  reported_alone e text accepted is =
      let again = for_text asked e.text in
      let there = text_report again read base e verb (same_sought asked e.text ∙ sought) refl (accepted_alone asked e.text e accepted) in
      let here : IsReportOf again base (alone e) text = record { elapses = is.elapses; these = is.these; layout = is.layout } in
      one_report again base (alone e) (report again read).out text there here

  are_alone : (es : List Expression) (reports : List (List ℕ)) → AllByRecursion (IsAccepted asked) es
      → AllZip (λ e report. IsReportOf asked base (alone e) report) es reports → map (report_of_one asked read) es ≡ reports
  are_alone [] [] all each = refl
  are_alone [] (a ∷ reports) all each = absurd each
  are_alone (e ∷ es) [] all each = absurd each
  are_alone (e ∷ es) (a ∷ reports) all each =
      let here = reported_alone e a all.0 each.0 in
      let later = are_alone es reports all.1 each.1 in
      cc

  resumes_at : (es : List Expression) (front : List ℕ) → AllByRecursion (IsAccepted asked) es → CutAmong 10 (map (report_of_one asked read) es) front
      → ResumesAmong asked base es read front
  resumes_at es front all cut =
      let parts = map_among (report_of_one asked read) es cut.before cut.list cut.after cut.lists_are in
      let again = for_text asked parts.x.text in
      let accepted = accepted_at asked parts.first parts.x parts.others (subst (AllByRecursion (IsAccepted asked)) parts.whole all) in
      let begins = sym parts.is ∙ cut.cut in
      record {
        before = parts.first;
        e = parts.x;
        after = parts.others;
        texts = parts.whole;
        last = cut.last;
        rest = cut.rest;
        layout = cut.layout ∙ ap (λ (t : List ℕ). t ++ cut.last) (ap (flat_map (λ xs. xs ++ (10 ∷ []))) parts.before_is ∙ flat_map-map (λ xs. xs ++ (10 ∷ [])) (report_of_one asked read) parts.first);
        begins = begins;
        resumes = text_resumes again read base parts.x cut.last cut.rest verb (same_sought asked parts.x.text ∙ sought) refl
            (accepted_alone asked parts.x.text parts.x accepted) begins;
      }

  -- if standard output consists of the reports of these expressions, and there is at least one, then every prefix
  -- `front` of it can be continued as `ResumesAmong` says
  reports_resume : (es : List Expression) (front rest : List ℕ) → AllByRecursion (IsAccepted asked) es → AreReportsOf asked base es (report asked read).out
      → 0 < length es → (report asked read).out ≡ front ++ rest → ResumesAmong asked base es read front
  reports_resume [] front rest all reports some cut = absurd (omega arith)
  reports_resume (e ∷ es) front rest all reports some cut =
      let alone = are_alone (e ∷ es) reports.reports all reports.each in
      resumes_at (e ∷ es) front all
      (cut_among 10 (report_of_one asked read e) (map (report_of_one asked read) es) front rest
      (ap (join_by (λ report. report) (codes "\n")) alone ∙ sym reports.layout ∙ cut))

  pub texts_resume : (es : List Expression) (front rest : List ℕ) → AreAcceptedAmong asked asked.texts es → 0 < length es
      → (report asked read).out ≡ front ++ rest → ResumesAmong asked base es read front
  texts_resume es front rest among any cut =
      reports_resume es front rest (all_accepted asked asked.texts es among) (reports_are_among asked read base es verb sought among) any cut

-- if `front` is divided in two ways as in `ResumesAmong`, both divisions have the same expressions `before`, whose
-- reports are complete, and the same prefix `last` of the next report
pub one_place : (asked : Request) (base : ℤ) (es : List Expression) (read : Result (List ℕ) WholeFault) (front : List ℕ) (p q : ResumesAmong asked base es read front)
    → (p.before ≡ q.before) × (p.last ≡ q.last)
one_place asked base es read front p q =
    let r = report_of_one asked read in
    let line = λ (xs : List ℕ). xs ++ (10 ∷ []) in
    let cut = one_cut 10 (map r es) (map r p.before) (map r q.before) (r p.e) (r q.e) (map r p.after) (map r q.after) p.last p.rest q.last q.rest
    (ap (map r) p.texts ∙ map_parts r p.before p.e p.after) (ap (map r) q.texts ∙ map_parts r q.before q.e q.after) p.begins q.begins
    (ap (λ (t : List ℕ). t ++ p.last) (flat_map-map line r p.before) ∙ sym p.layout ∙ q.layout ∙ ap (λ (t : List ℕ). t ++ q.last) (sym (flat_map-map line r q.before))) in
    (same_front es p.before q.before (p.e ∷ p.after) (q.e ∷ q.after) p.texts q.texts (sym (length-map p.before r) ∙ ap length cut.0 ∙ length-map q.before r), cut.1)

-- whatever a run for several texts returns, what it wrote to standard output can be continued as `ResumesAmong` says
pub texts_cut : (asked : Request) (base : ℤ) (es : List Expression) (result : Result Status RunFault) (old new : Option (List ℕ))
    (failed : Bool) (out_old out_new err_old err_new : Option (List ℕ)) → asked.verb ≡ Calendar → base_in asked ≡ Ok base → AreAcceptedAmong asked asked.texts es
    → 0 < length es → (run : ByReading asked old new failed (IsReported result out_old out_new err_old err_new))
    → (front : List ℕ) × Appends out_old out_new front × ResumesAmong asked base es run.read front
texts_cut asked base es result old new failed out_old out_new err_old err_new verb sought among any run =
    let there = front_written result out_old out_new (report asked run.read).out run.holds.out in
    (there.front, there.written, texts_resume asked run.read base verb sought es there.front there.rest among any there.whole)
