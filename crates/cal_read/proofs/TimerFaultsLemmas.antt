-- Counting the entries of the lists of expressions and exceptions finds the same errors as keeping the lists, and the
-- first of all errors is the one that `first_fault` returns.
use Rattle.std.proofs.Common.{◌≡◌, ◌+◌, ◌<◌, ℕ, Bool, true, false, List, [], ◌∷◌, ◌++◌, filter, refl, subst, sym, ap, ◌∙◌, arith, append_assoc, append-nil, length, length-append, map, take, Option, Some, None, Result, drop, get_or, drop-cons, add-one}
use Rattle.std.specs.Prelude.{nat_le, min}
use Rattle.std.specs.List.{after_last, slice_get}
use Rattle.std.proofs.lemmas.Bool.Decides.{nat_tests}
use Rattle.std.specs.Option.{option_or, option_to_list}
use Rattle.cal_spec.specs.declared.spec_fault.SpecFault.{SpecFault}
use Rattle.cal_timer.specs.rules.Assignments.{Assignment}
use Rattle.cal_timer.specs.rules.TimerText.{excepted, is_exception, is_exception_reset, is_expression, is_reset, listed, max_expressions}
use Rattle.cal_timer.specs.rules.TimerEntries.{fault_following, fault_joining, first_fault}
use Rattle.cal_read.specs.rules.TimerTexts.{IsFirstOf, assignments_at, assignments_of}
use Rattle.cal_read.specs.rules.TimerFaults.{all_faults, faults_of, in_file}
use Rattle.cal_read.specs.computed.CountedFaults.{count_with, counted_faults, counted_files, counts_over, counts_with, fault_at}
use Rattle.cal_read.specs.declared.faults.Counts.{Counts}
use Rattle.cal_timer.specs.declared.fault.TimerFault.{TimerFault}
use Rattle.cal_read.specs.declared.texts.FileFault.{FileFault}
use Rattle.cal_read.specs.declared.texts.NumberedText.{NumberedText}
use Rattle.std.proofs.lemmas.List.{map-append}
use Rattle.std.proofs.Math.Seq.{drop-length, take-append_seam}
use Rattle.std.proofs.lemmas.List.Concat.{flat_map-append}
use Rattle.cal_timer.proofs.ListedLemmas.{Kept, exception_is_no_exception_reset, expression_is_no_reset, kept_more, kept_other, kept_reset}

-- if `n` is the length of a list, capped at the limit, then `count_with` returns the capped length of the list after
-- one more assignment, which may add to the list or clear it, but not both
counted_kept : (adds resets : Assignment → Bool) (before : List Assignment) (a : Assignment) (joined empties : Bool) (n : ℕ)
    → adds a ≡ joined → resets a ≡ empties → (adds a ≡ true → resets a ≡ false) → n ≡ min (length (filter adds (after_last resets before))) max_expressions
    → count_with n joined empties ≡ min (length (filter adds (after_last resets (before ++ a ∷ [])))) max_expressions
counted_kept adds resets before a true empties n e f apart h =
    let more : length (Kept adds resets (before ++ a ∷ [])) ≡ length (Kept adds resets before) + 1 = ap length (kept_more adds resets before a (apart e) e) ∙ length-append (Kept adds resets before) (a ∷ []) in
    omega arith
counted_kept adds resets before a false true n e f apart h =
    let none : length (Kept adds resets (before ++ a ∷ [])) ≡ 0 = ap length (kept_reset adds resets before a f) in
    omega arith
counted_kept adds resets before a false false n e f apart h =
    let same : length (Kept adds resets (before ++ a ∷ [])) ≡ length (Kept adds resets before) = ap length (kept_other adds resets before a f e) in
    omega arith

-- the counts are the lengths of the two lists after these assignments, capped at the limit
pub record AreCounts (counts : Counts) (before : List Assignment) : Type 0 where
  pub expressions : counts.expressions ≡ min (length (listed before)) max_expressions
  pub exceptions : counts.exceptions ≡ min (length (excepted before)) max_expressions

pub counts_none : AreCounts (record { expressions = 0; exceptions = 0 }) []
unfolding listed excepted
counts_none = record { expressions = refl; exceptions = refl }

counts_more : (counts : Counts) (before : List Assignment) (a : Assignment) → AreCounts counts before → AreCounts (counts_with counts a) (before ++ a ∷ [])
unfolding listed excepted
counts_more counts before a h = record {
  expressions = counted_kept is_expression is_reset before a (is_expression a) (is_reset a) counts.expressions refl refl (expression_is_no_reset a) h.expressions;
  exceptions = counted_kept is_exception is_exception_reset before a (is_exception a) (is_exception_reset a) counts.exceptions refl refl (exception_is_no_exception_reset a) h.exceptions;
}

-- a list of length `m` is full if and only if its capped length `n` has reached the limit
same_limit : (n m : ℕ) → n ≡ min m max_expressions → nat_le max_expressions n ≡ nat_le max_expressions m
same_limit n m h = grind (arith, nat_tests)

fault_counted : {E : Type 0} (read : List ℕ → Result E SpecFault) (counts : Counts) (before : List Assignment) (a : Assignment) → AreCounts counts before → fault_at read counts a ≡ fault_following read before a
unfolding fault_following fault_joining
fault_counted read counts before a h =
    rw (same_limit counts.expressions (length (listed before)) h.expressions, same_limit counts.exceptions (length (excepted before)) h.exceptions) refl

counted_is_all : {E : Type 0} (read : List ℕ → Result E SpecFault) (counts : Counts) (before after : List Assignment) → AreCounts counts before → counted_faults read counts after ≡ all_faults read before after
unfolding counted_faults all_faults
counted_is_all read counts before [] h = refl
counted_is_all read counts before (a ∷ after) h =
    ap (λ o. option_to_list o ++ counted_faults read (counts_with counts a) after) (fault_counted read counts before a h)
    ∙ ap (λ rest. option_to_list (fault_following read before a) ++ rest) (counted_is_all read (counts_with counts a) (before ++ a ∷ []) after (counts_more counts before a h))

counts_over_are : (counts : Counts) (before after : List Assignment) → AreCounts counts before → AreCounts (counts_over counts after) (before ++ after)
unfolding counts_over
counts_over_are counts before [] h = subst (λ (all : List Assignment). AreCounts counts all) (sym (append-nil before)) h
counts_over_are counts before (a ∷ after) h =
    subst (λ (all : List Assignment). AreCounts (counts_over (counts_with counts a) after) all) (append_assoc before (a ∷ []) after)
    (counts_over_are (counts_with counts a) (before ++ a ∷ []) after (counts_more counts before a h))

files_by : {E : Type 0} (read : List ℕ → Result E SpecFault) (counts : Counts) (before : List Assignment) (k : ℕ) (files : List NumberedText) → AreCounts counts before → counted_files read counts k files ≡ faults_of read before k files
unfolding counted_files faults_of
files_by read counts before k [] h = refl
files_by read counts before k (file ∷ files) h =
    ap (λ faults. map (in_file k) faults ++ counted_files read (counts_over counts (assignments_at file)) (k + 1) files) (counted_is_all read counts before (assignments_at file) h)
    ∙ ap (λ rest. map (in_file k) (all_faults read before (assignments_at file)) ++ rest)
    (files_by read (counts_over counts (assignments_at file)) (before ++ assignments_at file) (k + 1) files (counts_over_are counts before (assignments_at file) h))

-- for all texts together, counting the entries finds the same errors as keeping the lists
pub files_counted : {E : Type 0} (read : List ℕ → Result E SpecFault) (files : List NumberedText) → counted_files read (record { expressions = 0; exceptions = 0 }) 0 files ≡ faults_of read [] 0 files
files_counted read files = files_by read (record { expressions = 0; exceptions = 0 }) [] 0 files counts_none

-- the errors from the text with index `i` on are the errors of this text, followed by those of the remaining texts
pub files_more : {E : Type 0} (read : List ℕ → Result E SpecFault) (counts : Counts) (files : List NumberedText) (i : ℕ) (d : NumberedText) → i < length files
    → counted_files read counts i (drop i files) ≡ map (in_file i) (counted_faults read counts (assignments_at (get_or files i d))) ++ counted_files read (counts_over counts (assignments_at (get_or files i d))) (i + 1) (drop (i + 1) files)
unfolding counted_files
files_more read counts files i d h = rw (drop-cons files i d) (rw add-one refl)

pub no_files : {E : Type 0} (read : List ℕ → Result E SpecFault) (counts : Counts) (k : ℕ) → counted_files read counts k [] ≡ []
unfolding counted_files
no_files read counts k = refl

-- the errors of a list of assignments are the error of the first assignment, if it has one, followed by the errors of
-- the others
pub assignment_more : {E : Type 0} (read : List ℕ → Result E SpecFault) (counts : Counts) (a : Assignment) (after : List Assignment) → counted_faults read counts (a ∷ after) ≡ option_to_list (fault_at read counts a) ++ counted_faults read (counts_with counts a) after
unfolding counted_faults
assignment_more read counts a after = refl

pub counts_step : (counts : Counts) (a : Assignment) (after : List Assignment) → counts_over counts (a ∷ after) ≡ counts_over (counts_with counts a) after
unfolding counts_over
counts_step counts a after = refl

-- The next six lemmas are about the loops in the code: each step of a loop keeps its invariant, and when nothing
-- remains, the errors and the counts so far are complete.
pub step_faults : {E : Type 0} (read : List ℕ → Result E SpecFault) (k : ℕ) (found more : List FileFault) (counts now : Counts) (all : List Assignment) (a : Assignment) (after : List Assignment) (fault : Option TimerFault)
    → all ≡ a ∷ after → fault ≡ fault_at read counts a → now ≡ counts_with counts a → more ≡ found ++ map (in_file k) (option_to_list fault)
    → more ++ map (in_file k) (counted_faults read now after) ≡ found ++ map (in_file k) (counted_faults read counts all)
step_faults read k found more counts now all a after fault e f g h =
    rw (e, g, h, f, assignment_more read counts a after)
    (append_assoc found (map (in_file k) (option_to_list (fault_at read counts a))) (map (in_file k) (counted_faults read (counts_with counts a) after))
    ∙ ap (λ rest. found ++ rest) (sym (map-append (in_file k) (option_to_list (fault_at read counts a)) (counted_faults read (counts_with counts a) after))))

pub step_counts : (counts now : Counts) (all : List Assignment) (a : Assignment) (after : List Assignment) → all ≡ a ∷ after → now ≡ counts_with counts a → counts_over now after ≡ counts_over counts all
step_counts counts now all a after e g = ap (λ counts. counts_over counts after) g ∙ sym (counts_step counts a after) ∙ ap (counts_over counts) (sym e)

pub ended_faults : {E : Type 0} (read : List ℕ → Result E SpecFault) (k : ℕ) (found : List FileFault) (counts : Counts) (all : List Assignment) → all ≡ [] → found ≡ found ++ map (in_file k) (counted_faults read counts all)
unfolding counted_faults
ended_faults read k found counts all e = rw e (sym (append-nil found))

pub ended_counts : (counts : Counts) (all : List Assignment) → all ≡ [] → counts ≡ counts_over counts all
unfolding counts_over
ended_counts counts all e = rw e refl

pub step_files : {E : Type 0} (read : List ℕ → Result E SpecFault) (found more : List FileFault) (counts now : Counts) (files : List NumberedText) (i : ℕ) (d : NumberedText) → i < length files
    → more ≡ found ++ map (in_file i) (counted_faults read counts (assignments_at (get_or files i d))) → now ≡ counts_over counts (assignments_at (get_or files i d))
    → more ++ counted_files read now (i + 1) (drop (i + 1) files) ≡ found ++ counted_files read counts i (drop i files)
step_files read found more counts now files i d h e f =
    rw (e, f, files_more read counts files i d h)
    (append_assoc found (map (in_file i) (counted_faults read counts (assignments_at (get_or files i d)))) (counted_files read (counts_over counts (assignments_at (get_or files i d))) (i + 1) (drop (i + 1) files)))

pub ended_files : {E : Type 0} (read : List ℕ → Result E SpecFault) (found : List FileFault) (counts : Counts) (files : List NumberedText) (i : ℕ) → i ≡ length files → found ≡ found ++ counted_files read counts i (drop i files)
ended_files read found counts files i e = rw (e, drop-length files, no_files read counts (length files)) (sym (append-nil found))

-- the first element of `all_faults` is the error that `first_fault` returns (the induction step)
head_by : {E : Type 0} (read : List ℕ → Result E SpecFault) (before : List Assignment) (a : Assignment) (after : List Assignment) (o : Option TimerFault)
    → first_fault read (before ++ a ∷ []) after ≡ slice_get (all_faults read (before ++ a ∷ []) after) 0
    → option_or o (first_fault read (before ++ a ∷ []) after) ≡ slice_get (option_to_list o ++ all_faults read (before ++ a ∷ []) after) 0
head_by read before a after (Some fault) rest = refl
head_by read before a after None rest = rest

pub first_is_head : {E : Type 0} (read : List ℕ → Result E SpecFault) (before after : List Assignment) → first_fault read before after ≡ slice_get (all_faults read before after) 0
unfolding first_fault all_faults
first_is_head read before [] = refl
first_is_head read before (a ∷ after) = head_by read before a after (fault_following read before a) (first_is_head read (before ++ a ∷ []) after)

-- the errors of `xs ++ ys` are the errors of `xs`, followed by those of `ys`
all_append : {E : Type 0} (read : List ℕ → Result E SpecFault) (before xs ys : List Assignment) → all_faults read before (xs ++ ys) ≡ all_faults read before xs ++ all_faults read (before ++ xs) ys
unfolding all_faults
all_append read before [] ys = ap (λ all. all_faults read all ys) (sym (append-nil before))
all_append read before (a ∷ xs) ys =
    ap (λ rest. option_to_list (fault_following read before a) ++ rest) (all_append read (before ++ a ∷ []) xs ys)
    ∙ sym (append_assoc (option_to_list (fault_following read before a)) (all_faults read (before ++ a ∷ []) xs) (all_faults read ((before ++ a ∷ []) ++ xs) ys))
    ∙ ap (λ all. (option_to_list (fault_following read before a) ++ all_faults read (before ++ a ∷ []) xs) ++ all_faults read all ys) (append_assoc before (a ∷ []) xs)

without_file : (k : ℕ) (faults : List TimerFault) → map (λ (found : FileFault). found.fault) (map (in_file k) faults) ≡ faults
without_file k [] = refl
without_file k (fault ∷ faults) = ap (λ rest. fault ∷ rest) (without_file k faults)

-- the errors of several texts are those of all their assignments
pub texts_are_all : {E : Type 0} (read : List ℕ → Result E SpecFault) (before : List Assignment) (k : ℕ) (files : List NumberedText)
    → map (λ (found : FileFault). found.fault) (faults_of read before k files) ≡ all_faults read before (assignments_of files)
unfolding faults_of all_faults
texts_are_all read before k [] = refl
texts_are_all read before k (file ∷ files) =
    map-append (λ (found : FileFault). found.fault) (map (in_file k) (all_faults read before (assignments_at file))) (faults_of read (before ++ assignments_at file) (k + 1) files)
    ∙ ap (λ front. front ++ map (λ (found : FileFault). found.fault) (faults_of read (before ++ assignments_at file) (k + 1) files)) (without_file k (all_faults read before (assignments_at file)))
    ∙ ap (λ rest. all_faults read before (assignments_at file) ++ rest) (texts_are_all read (before ++ assignments_at file) (k + 1) files)
    ∙ sym (all_append read before (assignments_at file) (assignments_of files))

-- The lemmas from here on say that the first element of `faults_of` is the first error of several texts, with the index
-- of its text.
one_more : (done : List NumberedText) (file : NumberedText) → assignments_of (done ++ file ∷ []) ≡ assignments_of done ++ assignments_at file
one_more done file = flat_map-append assignments_at done (file ∷ []) ∙ ap (λ last. assignments_of done ++ last) (append-nil (assignments_at file))

after_none : {E : Type 0} (read : List ℕ → Result E SpecFault) (done : List NumberedText) (file : NumberedText) → all_faults read [] (assignments_of done) ≡ []
    → all_faults read [] (assignments_of (done ++ file ∷ [])) ≡ all_faults read (assignments_of done) (assignments_at file)
after_none read done file none =
    ap (λ all. all_faults read [] all) (one_more done file)
    ∙ all_append read [] (assignments_of done) (assignments_at file)
    ∙ ap (λ front. front ++ all_faults read (assignments_of done) (assignments_at file)) none

up_to : (done : List NumberedText) (k : ℕ) (file : NumberedText) (files : List NumberedText) → k ≡ length done → take (k + 1) (done ++ file ∷ files) ≡ done ++ file ∷ []
up_to done k file files e =
    let size : k + 1 ≡ length (done ++ file ∷ []) = omega (arith, length-append done (file ∷ []), e) in
    ap (λ n. take n (done ++ file ∷ files)) size
    ∙ ap (λ all. take (length (done ++ file ∷ [])) all) (sym (append_assoc done (file ∷ []) files))
    ∙ take-append_seam (done ++ file ∷ []) files

first_by : {E : Type 0} (read : List ℕ → Result E SpecFault) (done : List NumberedText) (k : ℕ) (file : NumberedText) (files : List NumberedText) (found : FileFault) (faults : List TimerFault)
    → all_faults read (assignments_of done) (assignments_at file) ≡ faults → all_faults read [] (assignments_of done) ≡ [] → k ≡ length done
    → (faults ≡ [] → slice_get (faults_of read (assignments_of done ++ assignments_at file) (k + 1) files) 0 ≡ Some found → IsFirstOf read (done ++ file ∷ files) found.file found.fault)
    → slice_get (map (in_file k) faults ++ faults_of read (assignments_of done ++ assignments_at file) (k + 1) files) 0 ≡ Some found
    → IsFirstOf read (done ++ file ∷ files) found.file found.fault
first_by read done k file files found [] here none e later is = later refl is
first_by read done k file files found (f ∷ fs) here none e later is =
    let same : in_file k f ≡ found = cc in
    subst (λ (found : FileFault). IsFirstOf read (done ++ file ∷ files) found.file found.fault) same (
      omega (arith, length-append done (file ∷ files), e),
      ap (λ all. first_fault read [] (assignments_of all)) (ap (λ n. take n (done ++ file ∷ files)) e ∙ take-append_seam done (file ∷ files))
          ∙ first_is_head read [] (assignments_of done)
          ∙ ap (λ all. slice_get all 0) none,
      ap (λ all. first_fault read [] (assignments_of all)) (up_to done k file files e)
          ∙ first_is_head read [] (assignments_of (done ++ file ∷ []))
          ∙ ap (λ all. slice_get all 0) (after_none read done file none ∙ here),
    )

first_from : {E : Type 0} (read : List ℕ → Result E SpecFault) (done : List NumberedText) (k : ℕ) (files : List NumberedText) (found : FileFault) → all_faults read [] (assignments_of done) ≡ [] → k ≡ length done
    → slice_get (faults_of read (assignments_of done) k files) 0 ≡ Some found → IsFirstOf read (done ++ files) found.file found.fault
unfolding faults_of
first_from read done k [] found none e is = absurd (cc)
first_from read done k (file ∷ files) found none e is =
    first_by read done k file files found (all_faults read (assignments_of done) (assignments_at file)) refl none e (λ empty later.
    subst (λ (all : List NumberedText). IsFirstOf read all found.file found.fault) (append_assoc done (file ∷ []) files)
    (first_from read (done ++ file ∷ []) (k + 1) files found (after_none read done file none ∙ empty) (omega (arith, length-append done (file ∷ []), e))
    (ap (λ before. slice_get (faults_of read before (k + 1) files) 0) (one_more done file) ∙ later))) is

pub first_of_texts : {E : Type 0} (read : List ℕ → Result E SpecFault) (files : List NumberedText) (found : FileFault) → slice_get (faults_of read [] 0 files) 0 ≡ Some found → IsFirstOf read files found.file found.fault
unfolding all_faults
first_of_texts read files found is = first_from read [] 0 files found refl refl is
