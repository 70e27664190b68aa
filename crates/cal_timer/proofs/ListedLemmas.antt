-- Building the lists of expressions and exceptions one assignment at a time has the same result as filtering all
-- assignments.
use Rattle.std.proofs.Common.{◌≡◌, ◌≤◌, ◌<◌, ◌+◌, ◌&&◌, cond, ℕ, Bool, true, false, not, List, [], ◌∷◌, ◌++◌, filter, length, refl, sym, subst, ap, ◌∙◌, arith, append_assoc, append-nil, length-append, Option, Some, None, Result, Ok, Err}
use Rattle.std.specs.List.{after_last}
use Rattle.std.specs.Prelude.{nat_le}
use Rattle.std.proofs.lemmas.Bool.Decides.{nat_tests}
use Rattle.std.proofs.lemmas.List.Elements.{filter-append, filter_map-append}
use Rattle.cal_spec.specs.declared.spec_fault.SpecFault.{SpecFault}
use Rattle.cal_timer.specs.rules.Assignments.{Assignment}
use Rattle.cal_timer.specs.rules.Keys.{clears_expressions, is_calendar_trigger, is_exception_key, kind_of}
use Rattle.cal_timer.specs.declared.keys.KeyKind.{KeyKind}
use Rattle.cal_timer.specs.declared.keys.KeyKind.TheVariants.{Exception}
use Rattle.std.specs.Option.{option_or}
use Rattle.std.proofs.lemmas.Bool.{and_right, and_parts, false_from_ne_true}
use Rattle.cal_timer.specs.rules.TimerEntries.{TimerLine, Timer, bad_line, entries, entries_of, entry_of, fault_following, fault_joining, first_fault, lists_of, some_entries, unless_fault, entries_or_fault}
use Rattle.cal_timer.specs.rules.TimerText.{excepted, has_no_value, is_exception, is_exception_reset, is_expression, is_reset, listed, max_expressions}
use Rattle.cal_timer.specs.computed.ResumedLists.{changed, empty_lists, with_assignment, resumed, with_list}
use Rattle.cal_timer.specs.declared.fault.TimerFault.{TimerFault}
use Rattle.cal_timer.specs.declared.fault.TimerFault.TheVariants.{BadLine}
use Rattle.cal_timer.proofs.ResumedLemmas.{joined_bad, joined_many, joined_read, resumed_changed, resumed_fault}
use Rattle.cal_bytes.proofs.General.{after_last_here, after_last_more, option_or-none}

-- One of the two lists, defined by two tests: assignments that pass `adds` are added to the list, and assignments that
-- pass `resets` clear it. The lemmas say how one more assignment changes the list.
abbrev pub Kept : (adds resets : Assignment → Bool) → List Assignment → List Assignment
Kept adds resets all = filter adds (after_last resets all)

pub kept_reset : (adds resets : Assignment → Bool) (before : List Assignment) (a : Assignment) → resets a ≡ true → Kept adds resets (before ++ a ∷ []) ≡ []
kept_reset adds resets before a e = ap (filter adds) (after_last_here resets before a e)

pub kept_other : (adds resets : Assignment → Bool) (before : List Assignment) (a : Assignment) → resets a ≡ false → adds a ≡ false → Kept adds resets (before ++ a ∷ []) ≡ Kept adds resets before
kept_other adds resets before a e f =
    ap (filter adds) (after_last_more resets before a e)
    ∙ filter-append adds (after_last resets before) (a ∷ [])
    ∙ rw f (append-nil (filter adds (after_last resets before)))

pub kept_more : (adds resets : Assignment → Bool) (before : List Assignment) (a : Assignment) → resets a ≡ false → adds a ≡ true → Kept adds resets (before ++ a ∷ []) ≡ Kept adds resets before ++ a ∷ []
kept_more adds resets before a e f =
    ap (filter adds) (after_last_more resets before a e)
    ∙ filter-append adds (after_last resets before) (a ∷ [])
    ∙ rw f refl

-- if an assignment neither adds to a list nor clears it, this list stays the same
listed_other : (before : List Assignment) (a : Assignment) → is_reset a ≡ false → is_expression a ≡ false → listed (before ++ a ∷ []) ≡ listed before
unfolding listed
listed_other before a e f = kept_other is_expression is_reset before a e f

excepted_other : (before : List Assignment) (a : Assignment) → is_exception_reset a ≡ false → is_exception a ≡ false → excepted (before ++ a ∷ []) ≡ excepted before
unfolding excepted
excepted_other before a e f = kept_other is_exception is_exception_reset before a e f

-- The lemmas down to `exception_is_no_exception_reset` say that an assignment does at most one of these four things: it
-- adds an expression, adds an exception, clears the expressions, or clears the exceptions. This holds because only an
-- assignment with a value adds, only one without a value clears, and the key of exceptions doesn't clear expressions.
no_value : (b x y : Bool) → (b && x) ≡ true → (not b && y) ≡ false
no_value true x y e = refl
no_value false x y e = cc

-- the key of exceptions is neither `OnCalendar` nor a key that clears the list of expressions
other_key : (kind : Option KeyKind) → is_exception_key kind ≡ true → (clears_expressions kind ≡ false) × (is_calendar_trigger kind ≡ false)
other_key (Some Exception) e = (refl, refl)
other_key _ e = absurd (cc)

no_exception_key : (kind : Option KeyKind) → clears_expressions kind ≡ true → is_exception_key kind ≡ false
no_exception_key kind e = false_from_ne_true (is_exception_key kind) (λ h. let other = (other_key kind h).0 in absurd (cc))

pub reset_is_no_expression : (a : Assignment) → is_reset a ≡ true → is_expression a ≡ false
unfolding is_reset is_expression
reset_is_no_expression a e = no_value (has_no_value a) _ _ e

reset_is_no_exception : (a : Assignment) → is_reset a ≡ true → is_exception a ≡ false
unfolding is_reset is_exception
reset_is_no_exception a e = no_value (has_no_value a) _ _ e

reset_is_no_exception_reset : (a : Assignment) → is_reset a ≡ true → is_exception_reset a ≡ false
unfolding is_reset is_exception_reset
reset_is_no_exception_reset a e = and_right (has_no_value a) (is_exception_key (kind_of a.key)) (no_exception_key (kind_of a.key) (and_parts (has_no_value a) _ e).1)

exception_reset_is_no_reset : (a : Assignment) → is_exception_reset a ≡ true → is_reset a ≡ false
unfolding is_reset is_exception_reset
exception_reset_is_no_reset a e = and_right (has_no_value a) _ (other_key (kind_of a.key) (and_parts (has_no_value a) _ e).1).0

exception_reset_is_no_expression : (a : Assignment) → is_exception_reset a ≡ true → is_expression a ≡ false
unfolding is_exception_reset is_expression
exception_reset_is_no_expression a e = no_value (has_no_value a) _ _ e

pub expression_is_no_exception : (a : Assignment) → is_expression a ≡ true → is_exception a ≡ false
unfolding is_expression is_exception
expression_is_no_exception a e =
    and_right (not (has_no_value a)) (is_exception_key (kind_of a.key))
    (false_from_ne_true (is_exception_key (kind_of a.key)) (λ h. let other = (other_key (kind_of a.key) h).1 in let here = (and_parts (not (has_no_value a)) _ e).1 in absurd (cc)))

exception_is_no_expression : (a : Assignment) → is_exception a ≡ true → is_expression a ≡ false
exception_is_no_expression a e = false_from_ne_true (is_expression a) (λ h. let other = expression_is_no_exception a h in absurd (cc))

pub expression_is_no_reset : (a : Assignment) → is_expression a ≡ true → is_reset a ≡ false
expression_is_no_reset a e = false_from_ne_true (is_reset a) (λ h. let other = reset_is_no_expression a h in absurd (cc))

pub exception_is_no_exception_reset : (a : Assignment) → is_exception a ≡ true → is_exception_reset a ≡ false
unfolding is_exception is_exception_reset
exception_is_no_exception_reset a e = false_from_ne_true (is_exception_reset a) (λ h. let other = no_value (has_no_value a) _ (is_exception_key (kind_of a.key)) h in absurd (cc))

-- an assignment that clears one of the two lists doesn't change the other list
pub excepted_kept : (before : List Assignment) (a : Assignment) → is_reset a ≡ true → excepted (before ++ a ∷ []) ≡ excepted before
excepted_kept before a e = excepted_other before a (reset_is_no_exception_reset a e) (reset_is_no_exception a e)

pub listed_kept : (before : List Assignment) (a : Assignment) → is_exception_reset a ≡ true → listed (before ++ a ∷ []) ≡ listed before
listed_kept before a e = listed_other before a (exception_reset_is_no_reset a e) (exception_reset_is_no_expression a e)

-- every assignment in `list` has an entry, which means that its expression is valid
abbrev AreAll : {E : Type 0} → (List ℕ → Result E SpecFault) → List Assignment → Type 0
AreAll read list = length (entries_of read list) ≡ length list

entries_more : {E : Type 0} (read : List ℕ → Result E SpecFault) (list : List Assignment) (a : Assignment) (entry : TimerLine E) → entry_of a (read a.value) ≡ Some entry
    → entries_of read (list ++ a ∷ []) ≡ entries_of read list ++ entry ∷ []
entries_more read list a entry good =
    filter_map-append (λ a. entry_of a (read a.value)) list (a ∷ [])
    ∙ rw good refl

-- If all assignments in `list` are valid, adding `a` to their entries either fails with the error of `a`, or adds the
-- entry of `a`; in the latter case, `a` is valid, too.
joins_by : {E : Type 0} (read : List ℕ → Result E SpecFault) (list : List Assignment) (a : Assignment) (many : Bool) (r : Result E SpecFault)
    → nat_le max_expressions (length list) ≡ many → read a.value ≡ r → AreAll read list
    → (with_assignment read (entries_of read list) a ≡ unless_fault (fault_joining read list a) (Ok (entries_of read (list ++ a ∷ []))))
    × (fault_joining read list a ≡ None → AreAll read (list ++ a ∷ []))
unfolding fault_joining
joins_by read list a true r m v all =
    let enough : max_expressions ≤ length (entries_of read list) = grind (arith, nat_tests) in
    rw m (joined_many read (entries_of read list) a enough, λ h. cc)
joins_by read list a false (Err fault) m v all =
    let few : length (entries_of read list) < max_expressions = grind (arith, nat_tests) in
    let bad : bad_line a.number (read a.value) ≡ Some (BadLine a.number fault) = rw v refl in
    rw (m, bad) (joined_bad read (entries_of read list) a (BadLine a.number fault) few bad, λ h. cc)
joins_by {E} read list a false (Ok expr) m v all =
    let few : length (entries_of read list) < max_expressions = grind (arith, nat_tests) in
    let entry : TimerLine E = record { number = a.number; text = a.value; expr = expr } in
    let good : entry_of a (read a.value) ≡ Some entry = rw v refl in
    let none : bad_line a.number (read a.value) ≡ None = rw v refl in
    let more : entries_of read (list ++ a ∷ []) ≡ entries_of read list ++ entry ∷ [] = entries_more read list a entry good in
    rw (m, none) (
      joined_read read (entries_of read list) a entry few good ∙ ap Ok (sym more),
      λ h. ap length more ∙ length-append (entries_of read list) (entry ∷ []) ∙ ap (λ n. n + 1) all ∙ sym (length-append list (a ∷ [])),
    )

-- Two steps in sequence. The first fails with `o`, or returns `es` if `o` is `None`. The second, `next es`, fails with
-- `p`, or returns `r` if `p` is `None`. The result of both is the first error, or `r` if there is no error.
decides : {E : Type 0} (o p : Option TimerFault) (es : List (TimerLine E)) (next : List (TimerLine E) → Result (Timer E) TimerFault) (r : Result (Timer E) TimerFault)
    → (o ≡ None → next es ≡ unless_fault p r) → with_list (unless_fault o (Ok es)) next ≡ unless_fault (option_or o p) r
decides None p es next r h = h refl
decides (Some fault) p es next r h = refl

-- applying the assignments in `after` to the lists that result from those in `before` gives the first error in `after`,
-- or, if there is none, the lists after all assignments
abbrev Resumes : {E : Type 0} → (List ℕ → Result E SpecFault) → List Assignment → List Assignment → Type 0
Resumes read before after = resumed read (entries read before) after ≡ unless_fault (first_fault read before after) (Ok (entries read (before ++ after)))

-- after the assignments in `before`, all assignments in the two lists are valid
abbrev AreAllRead : {E : Type 0} → (List ℕ → Result E SpecFault) → List Assignment → Type 0
AreAllRead read before = AreAll read (listed before) × AreAll read (excepted before)

-- `o` is the error, if there is one, of the assignment `a`, which comes after those in `before`. The first error after
-- `before` is `o`, or else the first error after `a`.
ends : {E : Type 0} (read : List ℕ → Result E SpecFault) (before : List Assignment) (a : Assignment) (after : List Assignment) (o : Option TimerFault) → fault_following read before a ≡ o
    → unless_fault (option_or o (first_fault read (before ++ a ∷ []) after)) (Ok (entries read ((before ++ a ∷ []) ++ after)))
    ≡ unless_fault (first_fault read before (a ∷ after)) (Ok (entries read (before ++ (a ∷ after))))
unfolding first_fault
ends read before a after o same =
    rw same (ap (λ all. unless_fault (option_or o (first_fault read (before ++ a ∷ []) after)) (Ok (entries read all))) (append_assoc before (a ∷ []) after))

all_with : {E : Type 0} (read : List ℕ → Result E SpecFault) (list now : List Assignment) → now ≡ list → AreAll read list → AreAll read now
all_with read list now e all = subst (λ (l : List Assignment). AreAll read l) (sym e) all

-- if all assignments in `list` are valid, adding `a` to their entries either fails with the error of `a`, or adds the
-- entry of `a`; in the latter case, `a` is valid, too
joins : {E : Type 0} (read : List ℕ → Result E SpecFault) (list : List Assignment) (a : Assignment) → AreAll read list
    → (with_assignment read (entries_of read list) a ≡ unless_fault (fault_joining read list a) (Ok (entries_of read (list ++ a ∷ []))))
    × (fault_joining read list a ≡ None → AreAll read (list ++ a ∷ []))
joins read list a all = joins_by read list a (nat_le max_expressions (length list)) (read a.value) refl refl all

pub fault_of_expression : {E : Type 0} (read : List ℕ → Result E SpecFault) (before : List Assignment) (a : Assignment) → is_expression a ≡ true → fault_following read before a ≡ fault_joining read (listed before) a
unfolding fault_following
fault_of_expression read before a e = rw e refl

pub fault_of_exception : {E : Type 0} (read : List ℕ → Result E SpecFault) (before : List Assignment) (a : Assignment) → is_exception a ≡ true → fault_following read before a ≡ fault_joining read (excepted before) a
unfolding fault_following
fault_of_exception read before a f = rw (exception_is_no_expression a f, f) refl

-- What the assignment `a` does to one of the lists. If `fault` is an error, the result is this error. If `fault` is
-- `None`, the result is the list after the assignments in `before` and `a`, and all assignments in this list are valid.
record Changes {E : Type 0} (read : List ℕ → Result E SpecFault) (adds resets : Assignment → Bool) (before : List Assignment) (a : Assignment) (fault : Option TimerFault) : Type 0 where
  pub is : changed read (adds a) (resets a) (entries_of read (Kept adds resets before)) a ≡ unless_fault fault (Ok (entries_of read (Kept adds resets (before ++ a ∷ []))))
  pub all : fault ≡ None → AreAll read (Kept adds resets (before ++ a ∷ []))

changes : {E : Type 0} (read : List ℕ → Result E SpecFault) (adds resets : Assignment → Bool) (before : List Assignment) (a : Assignment) (joined empties : Bool)
    → adds a ≡ joined → resets a ≡ empties → (adds a ≡ true → resets a ≡ false) → AreAll read (Kept adds resets before)
    → Changes read adds resets before a (cond joined (fault_joining read (Kept adds resets before) a) None)
changes read adds resets before a true empties e f apart all =
    let list = Kept adds resets before in
    let here = joins read list a all in
    let more = kept_more adds resets before a (apart e) e in record {
      is = rw e (here.0 ∙ ap (λ now. unless_fault (fault_joining read list a) (Ok (entries_of read now))) (sym more));
      all = λ none. all_with read (list ++ a ∷ []) (Kept adds resets (before ++ a ∷ [])) more (here.1 none);
    }
changes read adds resets before a false true e f apart all =
    let none = kept_reset adds resets before a f in record {
      is = rw (e, f) (ap (λ now. Ok (entries_of read now)) (sym none));
      all = λ _. all_with read [] (Kept adds resets (before ++ a ∷ [])) none refl;
    }
changes read adds resets before a false false e f apart all =
    let same = kept_other adds resets before a f e in record {
      is = rw (e, f) (ap (λ now. Ok (entries_of read now)) (sym same));
      all = λ _. all_with read (Kept adds resets before) (Kept adds resets (before ++ a ∷ [])) same all;
    }

either_fault : {E : Type 0} (read : List ℕ → Result E SpecFault) (before : List Assignment) (a : Assignment) (joined : Bool) → is_expression a ≡ joined
    → fault_following read before a ≡ option_or (cond joined (fault_joining read (listed before) a) None) (cond (is_exception a) (fault_joining read (excepted before) a) None)
unfolding fault_following
either_fault read before a true e = fault_of_expression read before a e ∙ rw (expression_is_no_exception a e) (sym (option_or-none (fault_joining read (listed before) a)))
either_fault read before a false e = rw e refl

resumes_by : {E : Type 0} (read : List ℕ → Result E SpecFault) (before : List Assignment) (a : Assignment) (after : List Assignment) (o p : Option TimerFault)
    → Changes read is_expression is_reset before a o → Changes read is_exception is_exception_reset before a p → fault_following read before a ≡ option_or o p
    → (AreAllRead read (before ++ a ∷ []) → Resumes read (before ++ a ∷ []) after) → Resumes read before (a ∷ after)
unfolding entries listed excepted
resumes_by read before a after (Some fault) p c d same next = resumed_fault read (entries read before) a after fault c.is ∙ ends read before a after (Some fault) same
resumes_by read before a after None p c d same next =
    resumed_changed read (entries read before) a after (entries_of read (listed (before ++ a ∷ []))) (unless_fault p (Ok (entries_of read (excepted (before ++ a ∷ []))))) c.is d.is
    ∙ decides p (first_fault read (before ++ a ∷ []) after) (entries_of read (excepted (before ++ a ∷ [])))
    (λ es. resumed read (record { expressions = entries_of read (listed (before ++ a ∷ [])); exceptions = es }) after)
    (Ok (entries read ((before ++ a ∷ []) ++ after))) (λ none. next (c.all refl, d.all none))
    ∙ ends read before a after p same

resumes_from : {E : Type 0} (read : List ℕ → Result E SpecFault) (before after : List Assignment) → AreAllRead read before → Resumes read before after
unfolding resumed first_fault listed excepted
resumes_from read before [] all = ap (λ all. Ok (entries read all)) (sym (append-nil before))
resumes_from read before (a ∷ after) all =
    resumes_by read before a after _ _
    (changes read is_expression is_reset before a (is_expression a) (is_reset a) refl refl (expression_is_no_reset a) all.0)
    (changes read is_exception is_exception_reset before a (is_exception a) (is_exception_reset a) refl refl (exception_is_no_exception_reset a) all.1)
    (either_fault read before a (is_expression a) refl) (resumes_from read (before ++ a ∷ []) after)

-- In the lemmas from `lists_by` to `some_by`, `o` is the first error of a file, or `None` if the file has no error, and
-- `all` are the lists of the file. The premise says what `entries_or_fault` returns, which unfolds to
-- `unless_fault o (Ok all)`. `lists_by` and `fault_by` conclude what `lists_of` returns, which unfolds to
-- `unless_fault o (some_entries all)`. `none_by` and `some_by` conclude what `o` is.
lists_by : {E : Type 0} (o : Option TimerFault) (all lists : Timer E) → unless_fault o (Ok all) ≡ Ok lists → unless_fault o (some_entries all) ≡ some_entries lists
lists_by None all lists h = let same : all ≡ lists = cc in ap some_entries same
lists_by (Some fault) all lists h = cc

fault_by : {E : Type 0} (o : Option TimerFault) (all : Timer E) (fault : TimerFault) → unless_fault o (Ok all) ≡ Err fault → unless_fault o (some_entries all) ≡ Err fault
fault_by None all fault h = cc
fault_by (Some f) all fault h = cc

none_by : {E : Type 0} (o : Option TimerFault) (all lists : Timer E) → unless_fault o (Ok all) ≡ Ok lists → o ≡ None
none_by None all lists h = refl
none_by (Some fault) all lists h = cc

some_by : {E : Type 0} (o : Option TimerFault) (all : Timer E) (fault : TimerFault) → unless_fault o (Ok all) ≡ Err fault → o ≡ Some fault
some_by None all fault h = cc
some_by (Some f) all fault h = cc

-- applying assignments one after another to empty lists gives the entries of all assignments, or the first error
pub resumed_is_entries : {E : Type 0} (read : List ℕ → Result E SpecFault) (assignments : List Assignment) → resumed read (record { expressions = []; exceptions = [] }) assignments ≡ entries_or_fault read assignments
unfolding entries_or_fault entries listed excepted
resumed_is_entries read assignments = resumes_from read [] assignments (refl, refl)

-- The next four lemmas say what `lists_of` and `first_fault` return, given the result of applying all assignments to
-- empty lists.
pub lists_from_entries : {E : Type 0} (read : List ℕ → Result E SpecFault) (all : List Assignment) (lists : Timer E) → resumed read empty_lists all ≡ Ok lists → lists_of read all ≡ some_entries lists
unfolding lists_of entries_or_fault
lists_from_entries read all lists h = lists_by (first_fault read [] all) (entries read all) lists (sym (resumed_is_entries read all) ∙ h)

pub lists_from_fault : {E : Type 0} (read : List ℕ → Result E SpecFault) (all : List Assignment) (fault : TimerFault) → resumed read empty_lists all ≡ Err fault → lists_of read all ≡ Err fault
unfolding lists_of entries_or_fault
lists_from_fault read all fault h = fault_by (first_fault read [] all) (entries read all) fault (sym (resumed_is_entries read all) ∙ h)

pub first_from_entries : {E : Type 0} (read : List ℕ → Result E SpecFault) (all : List Assignment) (lists : Timer E) → resumed read empty_lists all ≡ Ok lists → first_fault read [] all ≡ None
unfolding entries_or_fault
first_from_entries read all lists h = none_by (first_fault read [] all) (entries read all) lists (sym (resumed_is_entries read all) ∙ h)

pub first_from_fault : {E : Type 0} (read : List ℕ → Result E SpecFault) (all : List Assignment) (fault : TimerFault) → resumed read empty_lists all ≡ Err fault → first_fault read [] all ≡ Some fault
unfolding entries_or_fault
first_from_fault read all fault h = some_by (first_fault read [] all) (entries read all) fault (sym (resumed_is_entries read all) ∙ h)

-- two steps in sequence: if the first returns lists, the result of `next` for these lists; otherwise the error of the
-- first
abbrev pub with_lists : {E : Type 0} → Result (Timer E) TimerFault → (Timer E → Result (Timer E) TimerFault) → Result (Timer E) TimerFault
with_lists (Ok lists) next = next lists
with_lists (Err fault) next = Err fault

list_then : {E : Type 0} (r : Result (List (TimerLine E)) TimerFault) (next first : List (TimerLine E) → Result (Timer E) TimerFault) (second : Timer E → Result (Timer E) TimerFault)
    → ((es : List (TimerLine E)) → next es ≡ with_lists (first es) second) → with_list r next ≡ with_lists (with_list r first) second
list_then (Ok es) next first second h = h es
list_then (Err fault) next first second h = refl

-- Applying two lists of assignments one after the other has the same result as applying their concatenation. This is
-- why several texts can be read without joining them.
pub resumed_append : {E : Type 0} (read : List ℕ → Result E SpecFault) (lists : Timer E) (before after : List Assignment)
    → resumed read lists (before ++ after) ≡ with_lists (resumed read lists before) (λ now. resumed read now after)
unfolding resumed
resumed_append read lists [] after = refl
resumed_append read lists (a ∷ before) after =
    list_then (changed read (is_expression a) (is_reset a) lists.expressions a) _ _ (λ now. resumed read now after)
    (λ es. list_then (changed read (is_exception a) (is_exception_reset a) lists.exceptions a) _ _ (λ now. resumed read now after)
    (λ xs. resumed_append read (record { expressions = es; exceptions = xs }) before after))

-- if lists have the entries of the assignments in `before`, applying the assignments in `after` to the lists gives the
-- entries of all assignments, or the first error
pub entries_add_up : {E : Type 0} (read : List ℕ → Result E SpecFault) (before after : List Assignment) (lists : Timer E) → entries_or_fault read before ≡ Ok lists → resumed read lists after ≡ entries_or_fault read (before ++ after)
entries_add_up read before after lists h =
    sym (ap (λ now. with_lists now (λ lists. resumed read lists after)) (resumed_is_entries read before ∙ h))
    ∙ sym (resumed_append read empty_lists before after)
    ∙ resumed_is_entries read (before ++ after)
