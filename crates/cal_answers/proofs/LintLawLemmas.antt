-- Lemmas for the laws on the problems that `lint` lists.
use Rattle.std.proofs.Common.{◌≡◌, ◌≢◌, ◌⊎◌, ◌↔◌, ◌+◌, ◌&&◌, ◌||◌, ℕ, Bool, true, false, not, cond, nat_lt, if◌then◌else◌, List, [], ◌∷◌, ◌++◌, Option, None, Some, inl, inr, refl, sym, ap, subst, ◌∙◌, arith, append_assoc, append-nil, count_by, length, true≢false}
use Rattle.std.proofs.lemmas.List.Elements.{All-cons, All-nil}
use Rattle.std.proofs.lemmas.List.Sums.{sum_by-cons}
use Rattle.std.proofs.lemmas.Slice.Eq.{bytes_eq-Decides}
use Rattle.std.specs.List.{All, AllByRecursion, list_any}
use Rattle.std.specs.Str.{bytes_eq}
use Rattle.cal_machine.specs.rules.Machine.{Machine}
use Rattle.cal_crontabs.specs.declared.crontabs.Crontabs.{Crontabs}
use Rattle.cal_load.specs.declared.files.LoadedFiles.{LoadedFiles}
use Rattle.cal_load.specs.declared.loaded.Loaded.{Loaded}
use Rattle.cal_timers_report.specs.declared.style.Style.{Style}
use Rattle.cal_answers.specs.declared.answer.Context.{Context}
use Rattle.cal_answers.specs.declared.candidates.Unless.{Unless}
use Rattle.cal_answers.specs.declared.candidates.Unless.TheVariants.{Same, ErrorInLine, ProblemInLine}
use Rattle.cal_answers.specs.rules.LintCandidates.{Candidate, candidate_row, candidate_text, has_in_line, has_in_line_of, has_text, is_left_out, with_candidate, with_candidates}
use Rattle.cal_answers.specs.rules.LintCrontabs.{with_problem, with_problems}
use Rattle.cal_answers.specs.rules.LintLaw.{AreDistinct, HasError, HasWarning, IsFailure}
use Rattle.cal_answers.specs.rules.LintOutput.{IsLint, all_problems, has_lines}
use Rattle.cal_answers.specs.rules.LintRows.{Listed, is_error_at, is_problem_at, lint_counts}
use Rattle.cal_answers.proofs.LintLemmas.{one_or_other}

-- ## The status

count-cons : (test : Listed → Bool) (problem : Listed) (others : List Listed) → count_by test (problem ∷ others) ≡ cond (test problem) 1 0 + count_by test others
count-cons test problem others = sum_by-cons (λ p. cond (test p) 1 0) problem others

some_more : (b : Bool) (n : ℕ) (P : Type 0) → (nat_lt 0 n ≡ true) ↔ P → (nat_lt 0 (cond b 1 0 + n) ≡ true) ↔ ((b ≡ true) ⊎ P)
some_more true n P is = (λ h. inl refl, λ h. grind arith)
some_more false n P is =
    let same : nat_lt 0 (0 + n) ≡ nat_lt 0 n = grind arith in (
      λ h. inr (is.0 (sym same ∙ h)),
      λ h. elim h [ inl never ↦ absurd (true≢false (sym never)) | inr p ↦ same ∙ is.1 p ],
    )

none_yet : (P : Type 0) → (nat_lt 0 0 ≡ true) ↔ ⊥
none_yet P = (λ h. absurd (true≢false (sym h)), λ n. absurd n)

errors_if : (listed : List Listed) → (nat_lt 0 (lint_counts listed).errors ≡ true) ↔ HasError listed
errors_if [] = none_yet ⊥
errors_if (problem ∷ others) =
    subst (λ (n : ℕ). (nat_lt 0 n ≡ true) ↔ HasError (problem ∷ others)) (sym (count-cons (λ p. p.row.is_error) problem others))
    (some_more problem.row.is_error (lint_counts others).errors (HasError others) (errors_if others))

warnings_if : (listed : List Listed) → (nat_lt 0 (lint_counts listed).warnings ≡ true) ↔ HasWarning listed
warnings_if [] = none_yet ⊥
warnings_if (problem ∷ others) =
    subst (λ (n : ℕ). (nat_lt 0 n ≡ true) ↔ HasWarning (problem ∷ others)) (sym (count-cons (λ p. not p.row.is_error) problem others))
    (some_more (not problem.row.is_error) (lint_counts others).warnings (HasWarning others) (warnings_if others))

abbrev IsOne : ℕ → Type 0
IsOne n = n ≡ 1

status_if : (incomplete errors strict warnings : Bool) (E W : Type 0) → (errors ≡ true) ↔ E → (warnings ≡ true) ↔ W
    → IsOne (if incomplete || errors || (strict && warnings) then 1 else 0) ↔ ((incomplete ≡ true) ⊎ (E ⊎ ((strict ≡ true) × W)))
status_if true errors strict warnings E W has_e has_w = (λ h. inl refl, λ h. refl)
status_if false true strict warnings E W has_e has_w = (λ h. inr (inl (has_e.0 refl)), λ h. refl)
status_if false false true true E W has_e has_w = (λ h. inr (inr (refl, has_w.0 refl)), λ h. refl)
status_if false false true false E W has_e has_w = (
  λ h. absurd (omega arith),
  λ h. elim h [
    | inl never ↦ absurd (true≢false (sym never))
    | inr more ↦ elim more [
      | inl e ↦ absurd (true≢false (sym (has_e.1 e)))
      | inr both ↦ absurd (true≢false (sym (has_w.1 both.1)))
    ]
  ],
)
status_if false false false warnings E W has_e has_w = (
  λ h. absurd (omega arith),
  λ h. elim h [
    | inl never ↦ absurd (true≢false (sym never))
    | inr more ↦ elim more [
      | inl e ↦ absurd (true≢false (sym (has_e.1 e)))
      | inr both ↦ absurd (true≢false (sym both.0))
    ]
  ],
)

pub fails_if : (context : Context) (is_strict : Bool) (machine : Machine) (search_path : List (List ℕ)) (files : LoadedFiles) (loaded : Loaded) (crontabs : Crontabs) (out err : List ℕ) (status : ℕ) (is : IsLint context is_strict machine search_path files loaded crontabs out err status)
    → (status ≡ 1) ↔ IsFailure is_strict (has_lines err) (all_problems context machine search_path loaded is.found)
fails_if context is_strict machine search_path files loaded crontabs out err status is =
    let listed = all_problems context machine search_path loaded is.found in
    subst (λ (n : ℕ). IsOne n ↔ IsFailure is_strict (has_lines err) listed) (sym is.ends)
    (status_if (has_lines err) (nat_lt 0 (lint_counts listed).errors) is_strict (nat_lt 0 (lint_counts listed).warnings) (HasError listed) (HasWarning listed) (errors_if listed) (warnings_if listed))

-- each problem is an error or a warning, and not both
pub all_counted : (listed : List Listed) → (lint_counts listed).errors + (lint_counts listed).warnings ≡ length listed
all_counted [] = refl
all_counted (problem ∷ others) =
    let errors = count-cons (λ p. p.row.is_error) problem others in
    let warnings = count-cons (λ p. not p.row.is_error) problem others in
    let one = one_or_other problem.row.is_error in
    let rest : (lint_counts others).errors + (lint_counts others).warnings ≡ length others = all_counted others in
    omega arith

-- ## None twice

same_bytes : (xs : List ℕ) → bytes_eq xs xs ≡ true
same_bytes xs = (bytes_eq-Decides xs xs).1 refl

other_text : (problem : Listed) (text : List ℕ) → bytes_eq problem.text text ≡ false → problem.text ≢ text
other_text problem text h same = true≢false (sym (same_bytes text) ∙ ap (λ t. bytes_eq t text) (sym same) ∙ h)

or_false : (a b : Bool) → (a || b) ≡ false → (a ≡ false) × (b ≡ false)
or_false true b h = absurd (true≢false h)
or_false false b h = (refl, h)

none_has_text : (listed : List Listed) (text : List ℕ) → has_text text listed ≡ false → AllByRecursion (λ problem. problem.text ≢ text) listed
none_has_text [] text h = tt
none_has_text (problem ∷ others) text h =
    let parts = or_false (bytes_eq problem.text text) (has_text text others) h in
    (other_text problem text parts.0, none_has_text others text parts.1)

all_push : (P : Listed → Type 0) (listed : List Listed) (one : Listed) → AllByRecursion P listed → P one → AllByRecursion P (listed ++ one ∷ [])
all_push P [] one all is = (is, tt)
all_push P (problem ∷ others) one all is = (all.0, all_push P others one all.1 is)

distinct_push : (listed : List Listed) (one : Listed) → AreDistinct listed → AllByRecursion (λ problem. problem.text ≢ one.text) listed → AreDistinct (listed ++ one ∷ [])
distinct_push [] one distinct none = (tt, tt)
distinct_push (problem ∷ others) one distinct none =
    (all_push (λ other. problem.text ≢ other.text) others one distinct.0 none.0, distinct_push others one distinct.1 none.1)

abbrev listed_for : Style → Candidate → Listed
listed_for style candidate = record { row = candidate_row candidate; text = candidate_text style candidate }

distinct_if : (style : Style) (listed : List Listed) (candidate : Candidate) (out : Bool) → is_left_out candidate (candidate_text style candidate) listed ≡ out → AreDistinct listed
    → AreDistinct (if out then listed else listed ++ listed_for style candidate ∷ [])
distinct_if style listed candidate true is distinct = distinct
distinct_if style listed candidate false is distinct =
    distinct_push listed (listed_for style candidate) distinct
    (none_has_text listed (candidate_text style candidate)
    (or_false (has_in_line_of candidate.unless candidate.file candidate.line listed) (has_text (candidate_text style candidate) listed) is).1)

pub still_distinct : (style : Style) (listed : List Listed) (candidates : List Candidate) → AreDistinct listed → AreDistinct (with_candidates style listed candidates)
still_distinct style listed [] distinct = distinct
still_distinct style listed (candidate ∷ rest) distinct =
    still_distinct style (with_candidate style listed candidate) rest
    (distinct_if style listed candidate (is_left_out candidate (candidate_text style candidate) listed) refl distinct)

unless_listed : (listed : List Listed) (problem : Listed) (out : Bool) → has_text problem.text listed ≡ out → AreDistinct listed
    → AreDistinct (if out then listed else listed ++ problem ∷ [])
unless_listed listed problem true is distinct = distinct
unless_listed listed problem false is distinct = distinct_push listed problem distinct (none_has_text listed problem.text is)

pub distinct_with : (listed more : List Listed) → AreDistinct listed → AreDistinct (with_problems listed more)
distinct_with listed [] distinct = distinct
distinct_with listed (problem ∷ rest) distinct =
    distinct_with (with_problem listed problem) rest (unless_listed listed problem (has_text problem.text listed) refl distinct)

-- ## None missing

any_longer : (test : Listed → Bool) (listed more : List Listed) → list_any test listed ≡ true → list_any test (listed ++ more) ≡ true
any_longer test [] more h = absurd (true≢false (sym h))
any_longer test (problem ∷ others) more h = either (test problem) (list_any test others) (list_any test (others ++ more)) (any_longer test others more) h
  where
    either : (here there longer : Bool) → (there ≡ true → longer ≡ true) → (here || there) ≡ true → (here || longer) ≡ true
    either true there longer goes_on h = refl
    either false there longer goes_on h = goes_on h

in_line_longer : (unless : Unless) (file : List ℕ) (line : ℕ) (listed more : List Listed) → has_in_line unless file line listed ≡ true → has_in_line unless file line (listed ++ more) ≡ true
in_line_longer Same file line listed more h = h
in_line_longer ErrorInLine file line listed more h = any_longer (λ problem. is_error_at file line problem.row) listed more h
in_line_longer ProblemInLine file line listed more h = any_longer (λ problem. is_problem_at file line problem.row) listed more h

either_way : (a b c d : Bool) → (a ≡ true → c ≡ true) → (b ≡ true → d ≡ true) → (a || b) ≡ true → (c || d) ≡ true
either_way a b c d p q h = grind arith

left_out_longer : (candidate : Candidate) (text : List ℕ) (listed more : List Listed) → is_left_out candidate text listed ≡ true → is_left_out candidate text (listed ++ more) ≡ true
left_out_longer candidate text listed more h =
    either_way (has_in_line_of candidate.unless candidate.file candidate.line listed) (has_text text listed)
    (has_in_line_of candidate.unless candidate.file candidate.line (listed ++ more)) (has_text text (listed ++ more))
    (in_line_if candidate.line) (any_longer (λ problem. bytes_eq problem.text text) listed more) h
  where
    in_line_if : (line : Option ℕ) → has_in_line_of candidate.unless candidate.file line listed ≡ true → has_in_line_of candidate.unless candidate.file line (listed ++ more) ≡ true
    in_line_if None h = h
    in_line_if (Some line) h = in_line_longer candidate.unless candidate.file line listed more h

has_pushed : (listed : List Listed) (one : Listed) → has_text one.text (listed ++ one ∷ []) ≡ true
has_pushed [] one = or_true_left (bytes_eq one.text one.text) (same_bytes one.text)
  where
    or_true_left : (b : Bool) → b ≡ true → (b || false) ≡ true
    or_true_left b h = grind arith
has_pushed (problem ∷ others) one = or_true (bytes_eq problem.text one.text) (has_text one.text (others ++ one ∷ [])) (has_pushed others one)
  where
    or_true : (a b : Bool) → b ≡ true → (a || b) ≡ true
    or_true a b h = grind arith

-- the list is the first one, and more may follow
abbrev HasMore : List Listed → List Listed → Type 0
HasMore listed longer = (more : List Listed) × (longer ≡ listed ++ more)

grows_if : (style : Style) (listed : List Listed) (candidate : Candidate) (rest : List Candidate) (out : Bool) → HasMore listed (with_candidates style listed rest)
    → HasMore (listed ++ listed_for style candidate ∷ []) (with_candidates style (listed ++ listed_for style candidate ∷ []) rest)
    → HasMore listed (with_candidates style (if out then listed else listed ++ listed_for style candidate ∷ []) rest)
grows_if style listed candidate rest true without with = without
grows_if style listed candidate rest false without with =
    (listed_for style candidate ∷ with.0, with.1 ∙ append_assoc listed (listed_for style candidate ∷ []) with.0)

grows : (style : Style) (listed : List Listed) (candidates : List Candidate) → HasMore listed (with_candidates style listed candidates)
grows style listed [] = ([], sym (append-nil listed))
grows style listed (candidate ∷ rest) =
    grows_if style listed candidate rest (is_left_out candidate (candidate_text style candidate) listed)
    (grows style listed rest) (grows style (listed ++ listed_for style candidate ∷ []) rest)

abbrev IsLeftOut : Style → List Listed → Candidate → Type 0
IsLeftOut style listed candidate = is_left_out candidate (candidate_text style candidate) listed ≡ true

now_left_out : (style : Style) (listed : List Listed) (candidate : Candidate) (out : Bool) → is_left_out candidate (candidate_text style candidate) listed ≡ out
    → IsLeftOut style (if out then listed else listed ++ listed_for style candidate ∷ []) candidate
now_left_out style listed candidate true is = is
now_left_out style listed candidate false is =
    either_way false true (has_in_line_of candidate.unless candidate.file candidate.line (listed ++ listed_for style candidate ∷ []))
    (has_text (candidate_text style candidate) (listed ++ listed_for style candidate ∷ []))
    (λ never. absurd (true≢false (sym never))) (λ _. has_pushed listed (listed_for style candidate)) refl

pub none_missing : (style : Style) (listed : List Listed) (candidates : List Candidate) → All (IsLeftOut style (with_candidates style listed candidates)) candidates
none_missing style listed [] = All-nil (IsLeftOut style listed)
none_missing style listed (candidate ∷ rest) =
    let now = with_candidate style listed candidate in
    let longer = grows style now rest in
    let here = now_left_out style listed candidate (is_left_out candidate (candidate_text style candidate) listed) refl in
    All-cons (IsLeftOut style (with_candidates style now rest)) candidate rest
    (subst (λ l. IsLeftOut style l candidate) (sym longer.1) (left_out_longer candidate (candidate_text style candidate) now longer.0 here))
    (none_missing style now rest)
