-- Lemmas on writing the answers to texts in order: what is written so far, and what remains to be written.
use Rattle.std.proofs.Common.{◌≡◌, ℕ, ◌<◌, Bool, true, false, ◌||◌, map, List, [], ◌∷◌, ◌++◌, length, take, Option, Result, Ok, Err, refl, sym, subst, ap, ◌∙◌, arith, codes}
use Rattle.std.specs.Prelude.{is_err, if◌then◌else◌}
use Rattle.std.specs.List.{flat_map, join_by, list_any}
use Rattle.std.proofs.lemmas.List.{append-nil, append_assoc, length-map, take-map}
use Rattle.std.proofs.lemmas.List.Concat.{flat_map-append}
use Rattle.std.specs.Io.KnownBytes.{Appends}
use Rattle.cal_bytes.specs.rules.Writes.{Leaves, AppendsFront, Writes}
use Rattle.std.proofs.KnownBytes.{Appends-nil, Appends-trans}
use Rattle.cal_bytes.proofs.Pieces.{step, stop, respell}
use Rattle.cal_report.specs.rules.Answer.{Answer, IsAnsweredBefore, report_in, error_line_in, later_text, status_in, reports_text, error_lines, texts_status}
use Rattle.cal_request.specs.rules.Status.{is_fine, status_and}
use Rattle.cal_request.specs.declared.request.Status.{Status}
use Rattle.cal_request.specs.declared.request.Status.TheVariants.{Fine, Refused}

-- the remaining reports, with an empty line between consecutive reports; if the flag is `true`, a report has already
-- been written, and an empty line precedes the first remaining report, too
pub left_of : Bool → List (List ℕ) → List ℕ
left_of true reports = flat_map (λ report. codes "\n" ++ report) reports
left_of false reports = join_by (λ report. report) (codes "\n") reports

left-next : (follows_report : Bool) (a : Answer) (reports : List (List ℕ)) → left_of follows_report (report_in a ++ reports) ≡ later_text follows_report a ++ left_of (follows_report || is_fine (status_in a)) reports
unfolding left_of
left-next true (Ok report) reports = rw (append-nil report) refl
left-next false (Ok report) reports = rw (append-nil report) refl
left-next true (Err message) reports = refl
left-next false (Err message) reports = refl

-- the reports of the remaining texts, joined as in `left_of`
pub reports_left : Bool → (List ℕ → Answer) → List (List ℕ) → List ℕ
reports_left follows_report answer texts = left_of follows_report (flat_map (λ text. report_in (answer text)) texts)

pub reports_left-all : (answer : List ℕ → Answer) (texts : List (List ℕ)) → reports_text answer texts ≡ reports_left false answer texts
unfolding reports_left left_of reports_text
reports_left-all answer texts = refl

pub reports_left-none : (follows_report : Bool) (answer : List ℕ → Answer) → reports_left follows_report answer [] ≡ []
unfolding reports_left left_of
reports_left-none true answer = refl
reports_left-none false answer = refl

-- the remaining reports consist of the report of the first remaining text, if it has one, and the reports of the later
-- texts
pub reports_left-next : (follows_report : Bool) (answer : List ℕ → Answer) (text : List ℕ) (texts : List (List ℕ)) → reports_left follows_report answer (text ∷ texts) ≡ later_text follows_report (answer text) ++ reports_left (follows_report || is_fine (status_in (answer text))) answer texts
unfolding reports_left
reports_left-next follows_report answer text texts = left-next follows_report (answer text) (flat_map (λ t. report_in (answer t)) texts)

-- the remaining error lines consist of the error line of the first remaining text, if it has one, and the error lines
-- of the later texts
pub refusals-next : (answer : List ℕ → Answer) (text : List ℕ) (texts : List (List ℕ)) → error_lines answer (text ∷ texts) ≡ error_line_in text (answer text) ++ error_lines answer texts
unfolding error_lines
refusals-next answer text texts = refl

pub refusals-none : (answer : List ℕ → Answer) → error_lines answer [] ≡ []
unfolding error_lines
refusals-none answer = refl

-- the final status, given the status so far and the texts that remain
pub status_left : Status → (List ℕ → Answer) → List (List ℕ) → Status
status_left Refused answer texts = Refused
status_left Fine answer texts = texts_status answer texts

status-next : (a : Answer) (later : Bool) → (if is_err a || later then Refused else Fine) ≡ (if is_fine (status_in a) then (if later then Refused else Fine) else Refused)
status-next (Ok report) later = refl
status-next (Err message) later = refl

status_left-by : (s : Status) (answer : List ℕ → Answer) (texts : List (List ℕ)) → (if is_fine s then texts_status answer texts else Refused) ≡ status_left s answer texts
unfolding status_left
status_left-by Fine answer texts = refl
status_left-by Refused answer texts = refl

pub status_left-next : (s : Status) (answer : List ℕ → Answer) (text : List ℕ) (texts : List (List ℕ)) → status_left s answer (text ∷ texts) ≡ status_left (status_and s (status_in (answer text))) answer texts
unfolding status_left texts_status
status_left-next Refused answer text texts = refl
status_left-next Fine answer text texts = status-next (answer text) (list_any (λ t. is_err (answer t)) texts) ∙ status_left-by (status_in (answer text)) answer texts

pub status_left-all : (answer : List ℕ → Answer) (texts : List (List ℕ)) → status_left Fine answer texts ≡ texts_status answer texts
unfolding status_left
status_left-all answer texts = refl

pub status_left-none : (s : Status) (answer : List ℕ → Answer) → status_left s answer [] ≡ s
unfolding status_left texts_status
status_left-none Refused answer = refl
status_left-none Fine answer = refl

-- ## One iteration of the loop over the texts: what remains to be written

pub out_next : (a b c : Option (List ℕ)) (answer : List ℕ → Answer) (follows_report fine : Bool) (answered : Status) (text : List ℕ) (texts rest : List (List ℕ)) (all : List ℕ) → texts ≡ text ∷ rest → answered ≡ status_in (answer text) → fine ≡ is_fine answered → Leaves a b (reports_left follows_report answer texts) all → Appends b c (later_text follows_report (answer text)) → Leaves a c (reports_left (follows_report || fine) answer rest) all
out_next a b c answer follows_report fine answered text texts rest all e s f l w =
    rw (f, s) (step a b c (later_text follows_report (answer text)) _ all (respell a b _ _ all l (ap (reports_left follows_report answer) e ∙ reports_left-next follows_report answer text rest)) w)

pub out_stops : (a b c : Option (List ℕ)) (answer : List ℕ → Answer) (follows_report : Bool) (text : List ℕ) (texts rest : List (List ℕ)) (all : List ℕ) → texts ≡ text ∷ rest → Leaves a b (reports_left follows_report answer texts) all → AppendsFront b c (later_text follows_report (answer text)) → AppendsFront a c all
out_stops a b c answer follows_report text texts rest all e l w =
    stop a b c (later_text follows_report (answer text)) _ all (respell a b _ _ all l (ap (reports_left follows_report answer) e ∙ reports_left-next follows_report answer text rest)) w

pub err_next : (a b c : Option (List ℕ)) (answer : List ℕ → Answer) (text : List ℕ) (texts rest : List (List ℕ)) (all : List ℕ) → texts ≡ text ∷ rest → Leaves a b (error_lines answer texts) all → Appends b c (error_line_in text (answer text)) → Leaves a c (error_lines answer rest) all
err_next a b c answer text texts rest all e l w =
    step a b c (error_line_in text (answer text)) _ all (respell a b _ _ all l (ap (error_lines answer) e ∙ refusals-next answer text rest)) w

pub err_stops : (a b c : Option (List ℕ)) (answer : List ℕ → Answer) (text : List ℕ) (texts rest : List (List ℕ)) (all : List ℕ) → texts ≡ text ∷ rest → Leaves a b (error_lines answer texts) all → AppendsFront b c (error_line_in text (answer text)) → AppendsFront a c all
err_stops a b c answer text texts rest all e l w =
    stop a b c (error_line_in text (answer text)) _ all (respell a b _ _ all l (ap (error_lines answer) e ∙ refusals-next answer text rest)) w

pub status_next : (answer : List ℕ → Answer) (s answered whole : Status) (text : List ℕ) (texts rest : List (List ℕ)) → texts ≡ text ∷ rest → answered ≡ status_in (answer text) → status_left s answer texts ≡ whole → status_left (status_and s answered) answer rest ≡ whole
status_next answer s answered whole text texts rest e i h =
    rw i (sym (status_left-next s answer text rest) ∙ ap (status_left s answer) (sym e) ∙ h)

-- if a call wrote nothing, then `Writes` holds for the empty text, whatever the call returned
pub writes_nothing : {T E : Type 0} (a : Option (List ℕ)) (r : Result T E) → Writes a a r []
writes_nothing a (Ok x) = Appends-nil a
writes_nothing a (Err e) = record { front = []; rest = []; whole = refl; written = Appends-nil a }

-- ## One iteration of the loop over the texts: what is written so far

-- any texts `rest` may come after the texts in `done`: the reports of all these texts are the reports of `done`,
-- followed by the reports of `rest`, which `reports_left` joins
abbrev pub GoesOn : (List ℕ → Answer) → Bool → List (List ℕ) → Type 0
GoesOn answer follows_report done = (rest : List (List ℕ)) → reports_text answer (done ++ rest) ≡ reports_text answer done ++ reports_left follows_report answer rest

pub goes_on-none : (answer : List ℕ → Answer) → GoesOn answer false []
unfolding reports_text
goes_on-none answer rest = reports_left-all answer rest

pub reports_more : (answer : List ℕ → Answer) (follows_report : Bool) (done : List (List ℕ)) (text : List ℕ) (rest : List (List ℕ)) → GoesOn answer follows_report done
    → reports_text answer (done ++ text ∷ rest) ≡ (reports_text answer done ++ later_text follows_report (answer text)) ++ reports_left (follows_report || is_fine (status_in (answer text))) answer rest
reports_more answer follows_report done text rest on = grind (arith, reports_left-next, append_assoc, reports_left)

pub reports_one : (answer : List ℕ → Answer) (follows_report : Bool) (done : List (List ℕ)) (text : List ℕ) → GoesOn answer follows_report done
    → reports_text answer (done ++ text ∷ []) ≡ reports_text answer done ++ later_text follows_report (answer text)
reports_one answer follows_report done text on =
    reports_more answer follows_report done text [] on
    ∙ (ap (λ (t : List ℕ). (reports_text answer done ++ later_text follows_report (answer text)) ++ t) (reports_left-none (follows_report || is_fine (status_in (answer text))) answer) ∙ append-nil _)

pub goes_on-more : (answer : List ℕ → Answer) (follows_report fine : Bool) (answered : Status) (done next : List (List ℕ)) (text : List ℕ) → next ≡ done ++ text ∷ [] → answered ≡ status_in (answer text)
    → fine ≡ is_fine answered → GoesOn answer follows_report done → GoesOn answer (follows_report || fine) next
goes_on-more answer follows_report fine answered done next text is status works on rest =
    let flag : fine ≡ is_fine (status_in (answer text)) = works ∙ ap is_fine status in
    rw (is, flag) (ap (reports_text answer) (append_assoc done (text ∷ []) rest) ∙ (reports_more answer follows_report done text rest on
    ∙ ap (λ (t : List ℕ). t ++ reports_left (follows_report || is_fine (status_in (answer text))) answer rest) (sym (reports_one answer follows_report done text on))))

pub out_more : (a b c : Option (List ℕ)) (answer : List ℕ → Answer) (follows_report : Bool) (done next : List (List ℕ)) (text : List ℕ) → next ≡ done ++ text ∷ [] → GoesOn answer follows_report done
    → Appends a b (reports_text answer done) → Appends b c (later_text follows_report (answer text)) → Appends a c (reports_text answer next)
out_more a b c answer follows_report done next text is on before here =
    subst (Appends a c) (sym (ap (reports_text answer) is ∙ reports_one answer follows_report done text on)) (Appends-trans a b c _ _ before here)

refusals_one : (answer : List ℕ → Answer) (done : List (List ℕ)) (text : List ℕ) → error_lines answer (done ++ text ∷ []) ≡ error_lines answer done ++ error_line_in text (answer text)
unfolding error_lines
refusals_one answer done text = flat_map-append (λ t. error_line_in t (answer t)) done (text ∷ []) ∙ ap (λ (t : List ℕ). flat_map (λ t. error_line_in t (answer t)) done ++ t) (append-nil (error_line_in text (answer text)))

pub err_more : (a b c : Option (List ℕ)) (answer : List ℕ → Answer) (done next : List (List ℕ)) (text : List ℕ) → next ≡ done ++ text ∷ []
    → Appends a b (error_lines answer done) → Appends b c (error_line_in text (answer text)) → Appends a c (error_lines answer next)
err_more a b c answer done next text is before here =
    subst (Appends a c) (sym (ap (error_lines answer) is ∙ refusals_one answer done text)) (Appends-trans a b c _ _ before here)

pub out_none : (a : Option (List ℕ)) (answer : List ℕ → Answer) → Appends a a (reports_text answer [])
unfolding reports_text
out_none a answer = Appends-nil a

pub err_none : (a : Option (List ℕ)) (answer : List ℕ → Answer) → Appends a a (error_lines answer [])
unfolding error_lines
err_none a answer = Appends-nil a

-- if exactly the answers to the first `i` texts are written, then the run stopped at the text with index `i`, as
-- `IsAnsweredBefore` says
pub answered_before : {A : Type 0} (bytes_of : A → List ℕ) (xs : List A) (i : ℕ) (answer : List ℕ → Answer) (a b c d e f : Option (List ℕ)) → i < length xs
    → Appends a b (reports_text answer (map bytes_of (take i xs))) → Appends d e (error_lines answer (map bytes_of (take i xs))) → c ≡ b → f ≡ e
    → IsAnsweredBefore answer (map bytes_of xs) a c d f
answered_before bytes_of xs i answer a b c d e f h out err same_out same_err =
    let texts = sym (take-map bytes_of i xs) in
    record {
      count = i;
      before = omega (arith, length-map xs bytes_of);
      out = rw same_out (subst (λ (done : List (List ℕ)). Appends a b (reports_text answer done)) texts out);
      err = rw same_err (subst (λ (done : List (List ℕ)). Appends d e (error_lines answer done)) texts err);
    }
