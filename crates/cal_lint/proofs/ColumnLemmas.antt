-- Where a value occurs in a line, where the word at fault begins, and how long physical lines are.
use Rattle.std.proofs.Common.{◌≡◌, ◌+◌, ◌-◌, ◌<◌, ◌≤◌, ◌∙◌, ◌==◌, ◌&&◌, ◌||◌, ℕ, Bool, true, false, not, List, [], ◌∷◌, ◌++◌, Option, None, Some, length, get_or, drop, take, sym, ap, refl, arith, filter, ◌^◌, nat_eq, is_ok, length-drop, cond, inl, inr, suc, zero}
use Rattle.std.specs.Prelude.{slice_get, unwrap_or}
use Rattle.std.specs.List.{find, last_or, list_any, onto_first, range_with_len, slice_split, starts_with, suffix_len}
use Rattle.std.specs.Str.Lines.{lines, lines_of_parts}
use Rattle.std.specs.Str.Pattern.{LacksTextAt, RFindsText}
use Rattle.std.specs.Cmp.Lexicographic.{pointwise, same_text}
use Rattle.std.proofs.Math.Seq.{take-append_seam}
use Rattle.std.proofs.lemmas.Bool.{and_parts, cases_lt, not-true}
use Rattle.std.proofs.lemmas.Bool.Decides.{nat_tests}
use Rattle.std.proofs.lemmas.Cmp.{nat_list_eq_equiv}
use Rattle.std.proofs.lemmas.List.{get_or-drop, length-take, take-append-drop}
use Rattle.std.proofs.lemmas.List.Sums.{prefix_len_is, prefix_len-le-length}
use Rattle.cal_bytes.specs.rules.Separators.{is_blank}
use Rattle.cal_bytes.specs.rules.Trim.{trim_end_matches}
use Rattle.cal_bytes.proofs.WordLemmas.{is_solid, some_blank}
use Rattle.cal_spec.specs.computed.Expr.{expr_in}
use Rattle.cal_spec.specs.rules.WordsOfText.{IsWordAt}
use Rattle.cal_spec.proofs.FaultSpanLemmas.{word_ends, word_is_solid}
use Rattle.cal_lint.specs.rules.Columns.{begins_word, fault_start, has_no_fault, is_rejected_at, last_place, last_word_start, physical_line, word_end}

-- ## The last place of a value

-- if no number of a range passes a test, `last_or` returns the default for the numbers that pass
none_passing : (p : ℕ → Bool) (n a : ℕ) (o : Option ℕ) → ((k : ℕ) → a ≤ k → k < a + n → p k ≡ false)
    → last_or o (filter p (range_with_len a n)) ≡ o
none_passing p zero a o lacks = refl
none_passing p (suc n) a o lacks =
    rw (lacks a (omega arith) (omega arith)) (none_passing p n (a + 1) o (λ k from before. lacks k (omega arith) (omega arith)))

-- if `last_or` returns `r` for `xs`, whatever the default is, it returns `r` whether or not `a` is put in front of `xs`
first_or_not : (b : Bool) (o : Option ℕ) (a : ℕ) (xs : List ℕ) (r : Option ℕ) → ((o' : Option ℕ) → last_or o' xs ≡ r)
    → last_or o (cond b (a ∷ xs) xs) ≡ r
first_or_not true o a xs r h = h (Some a)
first_or_not false o a xs r h = h o

-- if `i` is the last number of a range that passes a test, `last_or` returns `i` for the numbers that pass
last_passing : (p : ℕ → Bool) (n a i : ℕ) (o : Option ℕ) → a ≤ i → i < a + n → p i ≡ true
    → ((k : ℕ) → i < k → k < a + n → p k ≡ false) → last_or o (filter p (range_with_len a n)) ≡ Some i
last_passing p zero a i o from before here later = absurd (omega arith)
last_passing p (suc n) a i o from before here later =
    elim (cases_lt a i) [
      | inl after ↦
          first_or_not (p a) o a (filter p (range_with_len (a + 1) n)) (Some i)
          (λ o'. last_passing p n (a + 1) i o' (omega arith) (omega arith) here (λ k past inside. later k past (omega arith)))
      | inr now ↦
          let same : a ≡ i = omega arith in
          let passes : p a ≡ true = ap p same ∙ here in
          rw passes (none_passing p n (a + 1) (Some a) (λ k past inside. later k (omega arith) (omega arith)) ∙ ap (λ x. Some x) same)
    ]

occurs : (value line : List ℕ) (i : ℕ) (rest : List ℕ) → drop i line ≡ value ++ rest → starts_with nat_eq (drop i line) value ≡ true
occurs value line i rest e =
    ap (λ xs. pointwise nat_eq value (take (length value) xs)) e
    ∙ ap (pointwise nat_eq value) (take-append_seam value rest)
    ∙ nat_list_eq_equiv.refl value

lacks_by : (b : Bool) (value line : List ℕ) (i : ℕ) → b ≡ starts_with nat_eq (drop i line) value → LacksTextAt value line i → b ≡ false
lacks_by false value line i e none = refl
lacks_by true value line i e none =
    let rest = drop (length value) (drop i line) in
    absurd (none rest (sym (take-append-drop (length value) (drop i line))
    ∙ ap (λ (xs : List ℕ). xs ++ rest) (sym (same_text value (take (length value) (drop i line)) e))))

lacks : (value line : List ℕ) (i : ℕ) → LacksTextAt value line i → starts_with nat_eq (drop i line) value ≡ false
lacks value line i none = lacks_by (starts_with nat_eq (drop i line) value) value line i refl none

pub place_found : (line value : List ℕ) (start j : ℕ) → RFindsText value line (Some (start, j)) → start ≤ length line → last_place line value ≡ Some start
place_found line value start j found within =
    last_passing (λ i. starts_with nat_eq (drop i line) value) (length line + 1) 0 start None (omega arith) (omega arith)
    (occurs value line start (drop j line) found.1.split)
    (λ k later inside. lacks value line k (found.0 k later (omega arith)))

pub place_lacking : (line value : List ℕ) → RFindsText value line None → last_place line value ≡ None
place_lacking line value none =
    none_passing (λ i. starts_with nat_eq (drop i line) value) (length line + 1) 0 None (λ k from inside. lacks value line k (none k (omega arith)))

-- ## The word at fault

-- if `i` is the first number of a range that passes a test, `find` returns `i`
first_passing : (p : ℕ → Bool) (n a i : ℕ) → a ≤ i → i < a + n → p i ≡ true → ((k : ℕ) → a ≤ k → k < i → p k ≡ false)
    → find p (range_with_len a n) ≡ Some i
first_passing p zero a i from before here earlier = absurd (omega arith)
first_passing p (suc n) a i from before here earlier =
    elim (cases_lt a i) [
      | inl after ↦
          rw (earlier a (omega arith) after)
          (first_passing p n (a + 1) i (omega arith) (omega arith) here (λ k past inside. earlier k (omega arith) inside))
      | inr now ↦
          let same : a ≡ i = omega arith in
          let passes : p a ≡ true = ap p same ∙ here in
          rw passes (ap (λ x. Some x) same)
    ]

word_end_is : (text : List ℕ) (start end : ℕ) → IsWordAt text start end → word_end text start ≡ end
word_end_is text start end w =
    let some = w.some in
    let within = w.within in
    let solid : (k : ℕ) → k < end - start → not (is_blank (get_or (drop start text) k 0)) ≡ true =
    λ k inside. ap (λ b. not (is_blank b)) (get_or-drop start text k 0) ∙ ap not (w.solid (start + k) (omega arith) (omega arith)) in
    let place : start + (end - start) ≡ end = omega arith in
    let stops : end - start < length (drop start text) → not (is_blank (get_or (drop start text) (end - start) 0)) ≡ false =
    λ inside. ap (λ b. not (is_blank b)) (get_or-drop start text (end - start) 0)
    ∙ ap (λ k. not (is_blank (get_or text k 0))) place ∙ ap not (w.after (omega (arith, length-drop start text))) in
    ap (λ n. start + n) (prefix_len_is (λ b. not (is_blank b)) (drop start text) (end - start) 0 (omega (arith, length-drop start text)) solid stops) ∙ place

begins_here : (text : List ℕ) (start end : ℕ) → IsWordAt text start end → begins_word text start ≡ true
begins_here text start end w =
    let some = w.some in
    let solid = w.solid start (omega arith) (omega arith) in
    elim (cases_lt 0 start) [
      | inl later ↦ let blank = w.before (start - 1) (omega arith) in grind (arith, nat_tests)
      | inr first ↦ grind (arith, nat_tests)
    ]

other_holds : (a b : Bool) → a ≡ false → (a || b) ≡ true → b ≡ true
other_holds false b e h = h
other_holds true b e h = absurd (cc)

word_from : (text : List ℕ) (k : ℕ) → k < length text → begins_word text k ≡ true → IsWordAt text k (word_end text k)
word_from text k inside begins =
    let parts = and_parts (not (is_blank (get_or text k 0))) ((k == 0) || is_blank (get_or text (k - 1) 0)) begins in
    let solid : is_blank (get_or text k 0) ≡ false = not-true (is_blank (get_or text k 0)) parts.0 in
    record {
      some = elim (cases_lt k (word_end text k)) [
        | inl some ↦ some
        | inr none ↦ let blank = word_ends text k k (omega arith) inside in absurd (cc)
      ];
      within = omega (arith, prefix_len-le-length (λ b. not (is_blank b)) (drop k text), length-drop k text);
      solid = word_is_solid text k (word_end text k) refl;
      before = λ i next.
          let place : i ≡ k - 1 = omega arith in
          let later : (k == 0) ≡ false = grind (arith, nat_tests) in
          ap (λ j. is_blank (get_or text j 0)) place ∙ other_holds (k == 0) (is_blank (get_or text (k - 1) 0)) later parts.1;
      after = word_ends text k (word_end text k) refl;
    }

-- if one word begins before another word, it also ends before the other word ends
ends_before : (text : List ℕ) (k start end : ℕ) → k < start → IsWordAt text k (word_end text k) → IsWordAt text start end → word_end text k < end
ends_before text k start end earlier v w =
    let some = w.some in
    elim (cases_lt start (word_end text k)) [
      | inl beyond ↦
          let blank = w.before (start - 1) (omega arith) in
          let solid = v.solid (start - 1) (omega arith) (omega arith) in
          absurd (cc)
      | inr apart ↦ omega arith
    ]

accepted_by : (b : Bool) (text : List ℕ) (k start end : ℕ) → b ≡ begins_word text k → k < start → IsWordAt text start end
    → ((s e : ℕ) → IsWordAt text s e → e < end → is_ok (expr_in (take e text)) ≡ true)
    → b && not (is_ok (expr_in (take (word_end text k) text))) ≡ false
accepted_by false text k start end e earlier w first = refl
accepted_by true text k start end e earlier w first =
    let some = w.some in
    let within = w.within in
    let v = word_from text k (omega arith) (sym e) in
    ap not (first k (word_end text k) v (ends_before text k start end earlier v w))

-- the word that `fault_span` finds begins at `fault_start`
pub word_at_fault : (text : List ℕ) (start end : ℕ) → IsWordAt text start end → is_ok (expr_in (take end text)) ≡ false
    → ((s e : ℕ) → IsWordAt text s e → e < end → is_ok (expr_in (take e text)) ≡ true)
    → has_no_fault (trim_end_matches is_blank text) ≡ false → start ≡ fault_start text
unfolding fault_start
word_at_fault text start end w rejected first fault =
    let some = w.some in
    let within = w.within in
    let here : is_rejected_at text start ≡ true = rw (begins_here text start end w, word_end_is text start end w, rejected) refl in
    rw (
      fault,
      first_passing (is_rejected_at text) (length text) 0 start (omega arith) (omega arith) here
          (λ k from before. accepted_by (begins_word text k) text k start end refl before w first),
    ) refl

-- ## The last word

pub only_word : (text : List ℕ) → list_any is_blank text ≡ false → 0 ≡ last_word_start text
only_word text none =
    elim (cases_lt (suffix_len is_solid text) (length text)) [
      | inl within ↦ let some = some_blank text within in absurd (cc)
      | inr past ↦ omega (arith, length-drop (length text - suffix_len is_solid text) text)
    ]

-- ## The lengths of physical lines

part_of_split : (b : Bool) (x : ℕ) (parts : List (List ℕ)) (len : ℕ) → ((m : ℕ) → length (unwrap_or (slice_get parts m) []) ≤ len)
    → (n : ℕ) → length (unwrap_or (slice_get (cond b ([] ∷ parts) (onto_first x parts)) n) []) ≤ len + 1
part_of_split true x parts len short zero = omega arith
part_of_split true x parts len short (suc n) = omega (arith, short n)
part_of_split false x [] len short zero = omega arith
part_of_split false x [] len short (suc n) = omega arith
part_of_split false x (part ∷ parts) len short zero = omega (arith, short 0)
part_of_split false x (part ∷ parts) len short (suc n) = omega (arith, short (suc n))

part_is_short : (p : ℕ → Bool) (xs : List ℕ) (n : ℕ) → length (unwrap_or (slice_get (slice_split p xs) n) []) ≤ length xs
part_is_short p [] zero = omega arith
part_is_short p [] (suc n) = omega arith
part_is_short p (x ∷ xs) n = omega (arith, part_of_split (p x) x (slice_split p xs) (length xs) (part_is_short p xs) n)

stripped_is_short : (b : Bool) (x : List ℕ) → length (cond b (take (length x - 1) x) x) ≤ length x
stripped_is_short true x = omega (arith, length-take (length x - 1) x)
stripped_is_short false x = omega arith

last_part : (b : Bool) (x : List ℕ) (n : ℕ) → length (unwrap_or (slice_get (cond b [] (x ∷ [])) n) []) ≤ length (unwrap_or (slice_get (x ∷ []) n) [])
last_part true x n = omega arith
last_part false x n = omega arith

line_of_part : (parts : List (List ℕ)) (n : ℕ) → length (unwrap_or (slice_get (lines_of_parts parts) n) []) ≤ length (unwrap_or (slice_get parts n) [])
line_of_part [] n = omega arith
line_of_part (x ∷ []) n = last_part (length x == 0) x n
line_of_part (x ∷ y ∷ more) zero = stripped_is_short (get_or x (length x - 1) 0 == 13) x
line_of_part (x ∷ y ∷ more) (suc n) = line_of_part (y ∷ more) n

pub physical_line_is_short : (text : List ℕ) (number : ℕ) → length (physical_line (lines text) number) ≤ length text
physical_line_is_short text number =
    omega (arith, line_of_part (slice_split (λ b. b == 10) text) (number - 1), part_is_short (λ b. b == 10) text (number - 1))

-- if the length of `text` plus 1 is below 2^32, so is the length plus 1 of each physical line of a text `bs` that isn't
-- longer
pub short_line : (text bs line : List ℕ) (physical : List (List ℕ)) (number : ℕ) → line ≡ physical_line physical number → physical ≡ lines bs
    → length bs ≤ length text → 1 + length text < 2 ^ 32 → 1 + length line < 2 ^ 32
short_line text bs line physical number is all shorter room =
    let short = physical_line_is_short bs number in
    let same : length line ≡ length (physical_line (lines bs) number) = ap length (is ∙ ap (λ (ls : List (List ℕ)). physical_line ls number) all) in
    omega arith
