-- Lemmas on lines whose numbers continue from file to file.
use Rattle.std.proofs.Common.{◌≡◌, ◌∙◌, ◌+◌, ◌-◌, ◌<◌, ◌≤◌, ◌^◌, ◌==◌, ℕ, Bool, Bor, true, false, All, List, [], ◌∷◌, ◌++◌, Option, None, Some, Result, Ok, Err, add-one, append-nil, arith, ap, drop, drop-cons, get_or, inl, inr, length, map, refl, string_bytes, subst, suc, sym, take, zero}
use Rattle.std.proofs.lemmas.Bool.{cases_lt, cases_order}
use Rattle.std.proofs.lemmas.Bool.Decides.{nat_tests}
use Rattle.std.proofs.lemmas.List.{get_or-map, get_or_append_left, get_or_push, length-append, length-map, take-append-drop, take_all, take_more}
use Rattle.std.proofs.lemmas.List.Concat.{flat_map-append}
use Rattle.std.proofs.lemmas.List.Elements.{All-append, All-cons, All-drop, All-filter, All-head, All-map, All-nil, All-tail, All-take, All-weaker}
use Rattle.std.proofs.lemmas.List.Splits.{length-slice_split}
use Rattle.std.proofs.lemmas.Option.{get_or_from_slice_get, slice_get-get_or, slice_get_within}
use Rattle.std.specs.List.{before_first, cons_option, filter_map, flat_map, list_any, onto_first, slice_split}
use Rattle.std.specs.Option.{IsSomeAnd}
use Rattle.std.specs.Prelude.{◌||◌, MatchOption, if◌then◌else◌, not}
use Rattle.std.specs.Str.Lines.{lines, lines_of_parts}
use Rattle.cal_bytes.specs.rules.Separators.{is_equals}
use Rattle.cal_bytes.specs.rules.Trim.{trim_start_matches}
use Rattle.cal_spec.specs.declared.spec_fault.SpecFault.{SpecFault}
use Rattle.cal_timer.specs.rules.Assignments.{Assignment, assignment_of, assignments_in, is_header, timer_lines, trimmed}
use Rattle.cal_timer.specs.rules.Lines.{Group, Line, continued_by, groups, is_blank_or_return, is_comment, is_continued, joined_line, logical_lines, numbered_lines, physical_lines, plain_lines}
use Rattle.cal_timer.specs.rules.TimerEntries.{TimerLine, entries_of, entry_of}
use Rattle.cal_timer.specs.rules.TimerText.{excepted, is_exception, is_expression, listed, without_mark}
use Rattle.cal_unit_index.specs.declared.files.UnitText as texts
use Rattle.cal_unit_index.specs.rules.Files.{UnitText, shown_unit_text}
use Rattle.cal_load.specs.declared.calendar.IgnoredLine.{IgnoredLine}
use Rattle.cal_load.specs.rules.Loaded.{assignments_from, assignments_of_files, bytes_in, ignored_in, ignored_line, timer_assignments}
use Rattle.cal_load.specs.rules.Readable.{assignments_read, is_broken}
use Rattle.cal_load.specs.rules.Resolved.{value_filled, is_usable, may_have_specifiers, resolved, resolved_by, unusable}
use Rattle.cal_load.specs.rules.Specifiers.{Filling}
use Rattle.cal_load.specs.rules.Specifiers.Filling.{Text, Unclear, Invalid}
use Rattle.cal_unit_index.specs.rules.Destinations.{last_part}
use Rattle.cal_load.specs.rules.Position.{AreFirstLines, HasLine, IsLastUntil, IsLineIn, IsPosition, total_lines}

-- ## How many lines a text has

some_line : (b : ℕ) (part : List ℕ) → lines_of_parts ((b ∷ part) ∷ []) ≡ (b ∷ part) ∷ []
some_line b part = grind (arith, nat_tests)

at_most_one : (c : Bool) (part : List ℕ) → length (if c then [] else (part ∷ [])) ≤ 1
at_most_one true part = omega arith
at_most_one false part = omega arith

onto_first_lines : (b : ℕ) (parts : List (List ℕ))
    → (length (lines_of_parts parts) ≤ length (lines_of_parts (onto_first b parts)))
    × (length (lines_of_parts (onto_first b parts)) ≤ length (lines_of_parts parts) + 1)
onto_first_lines b [] = (omega arith, omega arith)
onto_first_lines b (part ∷ []) = rw (some_line b part) (at_most_one (length part == 0) part, omega arith)
onto_first_lines b (part ∷ next ∷ parts) = (omega arith, omega arith)

split_lines : (c : Bool) (b : ℕ) (parts : List (List ℕ)) → 0 < length parts
    → (length (lines_of_parts parts) ≤ length (lines_of_parts (if c then ([] ∷ parts) else onto_first b parts)))
    × (length (lines_of_parts (if c then ([] ∷ parts) else onto_first b parts)) ≤ length (lines_of_parts parts) + 1)
split_lines true b [] h = absurd (omega arith)
split_lines true b (part ∷ parts) h = (omega arith, omega arith)
split_lines false b parts h = onto_first_lines b parts

-- one more byte at the beginning of a text doesn't decrease the number of its lines, and increases it by at most one
byte_lines : (b : ℕ) (text : List ℕ)
    → (length (lines text) ≤ length (lines (b ∷ text))) × (length (lines (b ∷ text)) ≤ length (lines text) + 1)
byte_lines b text =
    split_lines (b == 10) b (slice_split (λ b. b == 10) text) (omega (arith, length-slice_split (λ b. b == 10) text))

-- a text has at most as many lines as bytes
pub lines_fit : (text : List ℕ) → length (lines text) ≤ length text
lines_fit [] = omega arith
lines_fit (b ∷ text) = let more = byte_lines b text in let rest = lines_fit text in omega arith

lines_dropped : (n : ℕ) (text : List ℕ) → length (lines (drop n text)) ≤ length (lines text)
lines_dropped zero text = omega arith
lines_dropped (suc n) [] = omega arith
lines_dropped (suc n) (b ∷ text) = let more = byte_lines b text in let rest = lines_dropped n text in omega arith

dropped_if : (c : Bool) (n : ℕ) (text : List ℕ) → length (lines (if c then drop n text else text)) ≤ length (lines text)
dropped_if true n text = lines_dropped n text
dropped_if false n text = omega arith

unmarked_lines : (text : List ℕ) → length (lines (without_mark text)) ≤ length (lines text)
unfolding without_mark
unmarked_lines text = dropped_if _ 3 text

pub total_lines-append : (before after : List UnitText) → total_lines (before ++ after) ≡ total_lines before + total_lines after
total_lines-append before after =
    ap length (flat_map-append (λ file. lines file.bytes) before after)
    ∙ length-append (flat_map (λ file. lines file.bytes) before) (flat_map (λ file. lines file.bytes) after)

-- ## The numbers of assignments

-- `number` is one of `count` consecutive numbers, the first of which is `first`
abbrev pub IsOneFrom : ℕ → ℕ → ℕ → Type 0
IsOneFrom first count number = (first ≤ number) × (number < first + count)

numbered : (first : ℕ) (texts : List (List ℕ)) → All (λ line. IsOneFrom first (length texts) line.number) (numbered_lines first texts)
numbered first [] = All-nil (λ line. IsOneFrom first 0 line.number)
numbered first (text ∷ texts) =
    All-cons (λ (line : Line). IsOneFrom first (suc (length texts)) line.number) _ (numbered_lines (first + 1) texts) (omega arith, omega arith)
    (All-weaker (λ (line : Line). IsOneFrom (first + 1) (length texts) line.number) (λ (line : Line). IsOneFrom first (suc (length texts)) line.number)
    (λ line h. (omega arith, omega arith)) (numbered_lines (first + 1) texts) (numbered (first + 1) texts))

module _ (P : ℕ → Type 0) where
  continued : (line : Line) (all : List Group) → P line.number → All (λ group. P group.first.number) all → All (λ group. P group.first.number) (continued_by line all)
  continued line [] h k = All-cons (λ (group : Group). P group.first.number) _ [] h k
  continued line (group ∷ all) h k =
      All-cons (λ (group : Group). P group.first.number) _ all h (All-tail (λ (group : Group). P group.first.number) group all k)

  next_group : (c : Bool) (line : Line) (all : List Group) → P line.number → All (λ group. P group.first.number) all
      → All (λ group. P group.first.number) (if c then continued_by line all else (record { first = line; more = [] } ∷ all))
  next_group true line all h k = continued line all h k
  next_group false line all h k = All-cons (λ (group : Group). P group.first.number) _ all h k

  grouped : (all : List Line) → All (λ line. P line.number) all → All (λ group. P group.first.number) (groups all)
  unfolding groups
  grouped [] h = All-nil (λ (group : Group). P group.first.number)
  grouped (line ∷ all) h =
      next_group (is_continued line.text) line (groups all) (All-head (λ (line : Line). P line.number) line all h)
      (grouped all (All-tail (λ (line : Line). P line.number) line all h))

  kept_if : (c : Bool) (line : Line) (all : List Line) → P line.number → All (λ line. P line.number) all
      → All (λ line. P line.number) (if c then (line ∷ all) else all)
  kept_if true line all h k = All-cons (λ (line : Line). P line.number) line all h k
  kept_if false line all h k = k

  in_section : (inside c : Bool) (line : Line) (all : List Line) (name : Bool) → P line.number
      → All (λ line. P line.number) (timer_lines name all) → All (λ line. P line.number) (timer_lines inside all)
      → All (λ line. P line.number) (if c then timer_lines name all else (if inside then (line ∷ timer_lines inside all) else timer_lines inside all))
  in_section inside true line all name h k m = k
  in_section inside false line all name h k m = kept_if inside line (timer_lines inside all) h m

  sectioned : (all : List Line) (inside : Bool) → All (λ line. P line.number) all → All (λ line. P line.number) (timer_lines inside all)
  unfolding timer_lines
  sectioned [] inside h = h
  sectioned (line ∷ all) inside h =
      let rest = All-tail (λ (line : Line). P line.number) line all h in
      in_section inside (is_header line.text) line all _ (All-head (λ (line : Line). P line.number) line all h) (sectioned all _ rest) (sectioned all inside rest)

  assigned_if : (c : Bool) (a : Assignment) (all : List Assignment) → P a.number → All (λ a. P a.number) all
      → All (λ a. P a.number) (cons_option (if c then Some a else None) all)
  assigned_if true a all h k = All-cons (λ (a : Assignment). P a.number) a all h k
  assigned_if false a all h k = k

  assigned : (all : List Line) → All (λ line. P line.number) all → All (λ a. P a.number) (filter_map assignment_of all)
  unfolding assignment_of
  assigned [] h = All-nil (λ (a : Assignment). P a.number)
  assigned (line ∷ all) h =
      assigned_if (list_any is_equals line.text) _ (filter_map assignment_of all) (All-head (λ (line : Line). P line.number) line all h)
      (assigned all (All-tail (λ (line : Line). P line.number) line all h))

  pub of_lines : (inside : Bool) (all : List Line) → All (λ line. P line.number) all → All (λ a. P a.number) (assignments_in inside all)
  unfolding assignments_in
  of_lines inside all h =
      assigned (timer_lines inside (map trimmed all)) (sectioned (map trimmed all) inside (All-map (λ (line : Line). P line.number) trimmed all h))

-- each logical line of a text has the number of one of the lines of the text
logical_numbers : (first : ℕ) (text : List ℕ) → All (λ line. IsOneFrom first (length (lines text)) line.number) (logical_lines first text)
unfolding logical_lines plain_lines physical_lines
logical_numbers first text =
    let texts = map (trim_start_matches is_blank_or_return) (lines text) in
    let physical : All (λ line. IsOneFrom first (length (lines text)) line.number) (numbered_lines first texts) =
    subst (λ n. All (λ line. IsOneFrom first n line.number) (numbered_lines first texts)) (length-map (lines text) (trim_start_matches is_blank_or_return)) (numbered first texts) in
    All-map (λ (line : Line). IsOneFrom first (length (lines text)) line.number) joined_line (groups (plain_lines first text))
    (grouped (IsOneFrom first (length (lines text))) (plain_lines first text)
    (All-filter (λ line. not (is_comment line.text)) (λ (line : Line). IsOneFrom first (length (lines text)) line.number) (numbered_lines first texts) physical))

-- each assignment that systemd reads in a file has the number of one of the lines of the file
read_numbered : (first : ℕ) (bytes : List ℕ) → All (λ a. IsOneFrom first (length (lines bytes)) a.number) (assignments_read first bytes)
unfolding assignments_read
read_numbered first bytes =
    let text = without_mark bytes in
    let fewer : length (lines text) ≤ length (lines bytes) = unmarked_lines bytes in
    All-weaker (λ (a : Assignment). IsOneFrom first (length (lines text)) a.number) (λ (a : Assignment). IsOneFrom first (length (lines bytes)) a.number) (λ a h. (h.0, omega arith)) _
    (of_lines (IsOneFrom first (length (lines text))) false (before_first is_broken (logical_lines first text))
    (All-take (λ (line : Line). IsOneFrom first (length (lines text)) line.number) _ (logical_lines first text) (logical_numbers first text)))

-- each assignment in several files has the continued number of one of their lines
numbers_from : (first : ℕ) (files : List UnitText) → All (λ a. IsOneFrom first (total_lines files) a.number) (assignments_from first (bytes_in files))
unfolding assignments_from
numbers_from first [] = All-nil (λ (a : Assignment). IsOneFrom first 0 a.number)
numbers_from first (file ∷ files) =
    let P = IsOneFrom first (total_lines (file ∷ files)) in
    let next = first + length (lines file.bytes) in
    let count : total_lines (file ∷ files) ≡ length (lines file.bytes) + total_lines files = length-append (lines file.bytes) (flat_map (λ file. lines file.bytes) files) in
    All-append (λ (a : Assignment). P a.number) (assignments_read first file.bytes) (assignments_from next (bytes_in files))
    (All-weaker (λ (a : Assignment). IsOneFrom first (length (lines file.bytes)) a.number) (λ (a : Assignment). P a.number) (λ a h. (h.0, omega arith)) _
    (read_numbered first file.bytes))
    (All-weaker (λ (a : Assignment). IsOneFrom next (total_lines files) a.number) (λ (a : Assignment). P a.number) (λ a h. (omega arith, omega arith)) _ (numbers_from next files))

assignments_numbered : (files : List UnitText) → All (λ a. HasLine files a.number) (assignments_of_files files)
assignments_numbered files =
    All-weaker (λ (a : Assignment). IsOneFrom 1 (total_lines files) a.number) (λ (a : Assignment). HasLine files a.number) (λ a h. (h.0, omega arith)) _ (numbers_from 1 files)

-- ## The numbers of entries and of ignored lines

module _ (P : ℕ → Type 0) where
  unusable_about : (c : Bool) (a : Assignment) (all : List Assignment) → P a.number → All (λ a. P a.number) all
      → All (λ a. P a.number) (cons_option (if c then Some a else None) all)
  unusable_about true a all h k = All-cons (λ (a : Assignment). P a.number) a all h k
  unusable_about false a all h k = k

  filled_about : (c : Bool) (a : Assignment) (text : List ℕ) (all : List Assignment) → P a.number → All (λ a. P a.number) all
      → All (λ a. P a.number) (cons_option (if c then Some (record { number = a.number; key = a.key; value = text }) else unusable a) all)
  filled_about true a text all h k = All-cons (λ (a : Assignment). P a.number) _ all h k
  filled_about false a text all h k = unusable_about (is_expression a || is_exception a) a all h k

  unclear_about : (c : Bool) (a : Assignment) (all : List Assignment) → P a.number → All (λ a. P a.number) all
      → All (λ a. P a.number) (cons_option (if c then None else Some a) all)
  unclear_about true a all h k = k
  unclear_about false a all h k = All-cons (λ (a : Assignment). P a.number) a all h k

  resolved_by_about : (a : Assignment) (filling : Filling) (all : List Assignment) → P a.number → All (λ a. P a.number) all
      → All (λ a. P a.number) (cons_option (resolved_by a filling) all)
  resolved_by_about a (Text text) all h k = filled_about (is_usable text) a text all h k
  resolved_by_about a Unclear all h k = unclear_about (is_expression a) a all h k
  resolved_by_about a Invalid all h k = unusable_about (is_expression a || is_exception a) a all h k

  resolved_if_about : (c : Bool) (a : Assignment) (filling : Filling) (all : List Assignment) → P a.number → All (λ a. P a.number) all
      → All (λ a. P a.number) (cons_option (if c then resolved_by a filling else Some a) all)
  resolved_if_about true a filling all h k = resolved_by_about a filling all h k
  resolved_if_about false a filling all h k = All-cons (λ (a : Assignment). P a.number) a all h k

  resolved_about : (own : List ℕ) (list : List Assignment) → All (λ a. P a.number) list → All (λ a. P a.number) (filter_map (resolved own) list)
  unfolding resolved
  resolved_about own [] h = All-nil (λ (a : Assignment). P a.number)
  resolved_about own (a ∷ list) h =
      resolved_if_about (may_have_specifiers a) a (value_filled own a) (filter_map (resolved own) list) (All-head (λ (a : Assignment). P a.number) a list h)
      (resolved_about own list (All-tail (λ (a : Assignment). P a.number) a list h))

-- each assignment of a timer has the continued number of one of the lines of its files
pub timer_numbered : (name : List ℕ) (files : List UnitText) → All (λ a. HasLine files a.number) (timer_assignments name files)
timer_numbered name files = resolved_about (HasLine files) (last_part name) (assignments_of_files files) (assignments_numbered files)

module _ {E : Type 0} (read : List ℕ → Result E SpecFault) (P : ℕ → Type 0) where
  entry_about : (number : ℕ) (value : List ℕ) (r : Result E SpecFault) (all : List (TimerLine E)) → P number → All (λ entry. P entry.number) all
      → (a : Assignment) → a.number ≡ number → All (λ entry. P entry.number) (cons_option (entry_of a r) all)
  entry_about number value (Ok expr) all h k a e = All-cons (λ (entry : TimerLine E). P entry.number) _ all (subst P (sym e) h) k
  entry_about number value (Err fault) all h k a e = k

  entries_about : (list : List Assignment) → All (λ a. P a.number) list → All (λ entry. P entry.number) (entries_of read list)
  entries_about [] h = All-nil (λ (entry : TimerLine E). P entry.number)
  entries_about (a ∷ list) h =
      entry_about a.number a.value (read a.value) (entries_of read list) (All-head (λ (a : Assignment). P a.number) a list h)
      (entries_about list (All-tail (λ (a : Assignment). P a.number) a list h)) a refl

  ignored_about : (a : Assignment) (r : Result E SpecFault) (all : List IgnoredLine) → P a.number → All (λ line. P line.number) all
      → All (λ line. P line.number) (cons_option (ignored_line a r) all)
  ignored_about a (Ok expr) all h k = k
  ignored_about a (Err fault) all h k = All-cons (λ (line : IgnoredLine). P line.number) _ all h k

  lines_about : (list : List Assignment) → All (λ a. P a.number) list
      → All (λ line. P line.number) (filter_map (λ a. ignored_line a (read a.value)) list)
  lines_about [] h = All-nil (λ (line : IgnoredLine). P line.number)
  lines_about (a ∷ list) h =
      ignored_about a (read a.value) (filter_map (λ a. ignored_line a (read a.value)) list) (All-head (λ (a : Assignment). P a.number) a list h)
      (lines_about list (All-tail (λ (a : Assignment). P a.number) a list h))

-- if `P` holds for the number of each assignment, it holds for the number of each expression and each exception
pub entries_numbered : {E : Type 0} (read : List ℕ → Result E SpecFault) (P : ℕ → Type 0) (assignments : List Assignment)
    → All (λ a. P a.number) assignments → All (λ entry. P entry.number) (entries_of read (listed assignments) ++ entries_of read (excepted assignments))
unfolding listed excepted
entries_numbered {E} read P assignments all =
    All-append (λ (entry : TimerLine E). P entry.number) (entries_of read (listed assignments)) (entries_of read (excepted assignments))
    (entries_about read P (listed assignments) (All-filter is_expression (λ (a : Assignment). P a.number) _ (All-drop (λ (a : Assignment). P a.number) _ assignments all)))
    (entries_about read P (excepted assignments) (All-filter is_exception (λ (a : Assignment). P a.number) _ (All-drop (λ (a : Assignment). P a.number) _ assignments all)))

-- if `P` holds for the number of each assignment, it holds for the number of each line that is ignored
pub ignored_numbered : {E : Type 0} (read : List ℕ → Result E SpecFault) (P : ℕ → Type 0) (assignments : List Assignment)
    → All (λ a. P a.number) assignments → All (λ line. P line.number) (ignored_in read assignments)
unfolding ignored_in
ignored_numbered read P assignments all =
    lines_about read P _ (All-filter (λ a. is_expression a || is_exception a) (λ (a : Assignment). P a.number) assignments all)

-- ## The files that have lines

pub total_lines_more : (files : List UnitText) (i : ℕ) (file : UnitText) → i < length files → get_or files i file ≡ file
    → total_lines (take (i + 1) files) ≡ total_lines (take i files) + length (lines file.bytes)
total_lines_more files i file h at =
    ap total_lines (take_more files i file h ∙ ap (λ last. take i files ++ last ∷ []) at)
    ∙ total_lines-append (take i files) (file ∷ [])
    ∙ ap (λ own. total_lines (take i files) + length own) (append-nil (lines file.bytes))

pub divided_at : (files : List UnitText) (i : ℕ) (file : UnitText) → i < length files → get_or files i file ≡ file
    → files ≡ take i files ++ file ∷ drop (i + 1) files
divided_at files i file h at =
    sym (take-append-drop i files)
    ∙ ap (λ rest. take i files ++ rest) (rw add-one (drop-cons files i file h ∙ ap (λ first. first ∷ drop (suc i) files) at))

pub shown_at : (files : List texts.UnitText) (i : ℕ) (file : texts.UnitText) → i < length files → file ≡ get_or files i file
    → get_or (map shown_unit_text files) i (shown_unit_text file) ≡ shown_unit_text file
shown_at files i file h at = get_or-map shown_unit_text files i file (shown_unit_text file) h ∙ ap shown_unit_text (sym at)

-- if `numbers` has the continued number of the first line of each of the first `i` files, and that of the next file is
-- appended, then the list has these numbers for the first `i + 1` files
pub first_lines_more : (files : List UnitText) (numbers more : List ℕ) (i first : ℕ) → length numbers ≡ i → first ≡ total_lines (take i files) + 1
    → more ≡ numbers ++ first ∷ [] → ((k : ℕ) → k < i → get_or numbers k 0 ≡ total_lines (take k files) + 1)
    → (k : ℕ) → k < i + 1 → get_or more k 0 ≡ total_lines (take k files) + 1
first_lines_more files numbers more i first count is pushed before k h =
    elim (cases_lt k i) [
      | inl lt ↦ ap (λ all. get_or all k 0) pushed ∙ get_or_append_left numbers (first ∷ []) 0 k (omega arith) ∙ before k lt
      | inr le ↦ (
          let last : k ≡ i = omega arith in
          ap (λ all. get_or all k 0) pushed ∙ get_or_push numbers first 0 k (count ∙ sym last) ∙ is ∙ ap (λ n. total_lines (take n files) + 1) (sym last)
          )
    ]

-- if `index` is the index of the last file that begins at or before a line, the line is in this file or in an earlier
-- one
before_next : (files : List UnitText) (numbers : List ℕ) (number index : ℕ) → AreFirstLines files numbers → number ≤ total_lines files
    → IsLastUntil numbers number index → number ≤ total_lines (take (index + 1) files)
before_next files numbers number index are within last =
    elim (cases_lt (index + 1) (length files)) [
      | inl lt ↦ (
          let next : get_or numbers (index + 1) 0 ≡ total_lines (take (index + 1) files) + 1 = are.1 (index + 1) lt in
          let below : number < get_or numbers (index + 1) 0 = last.2 (index + 1) (omega arith) (omega (arith, are.0)) in
          omega arith
          )
      | inr le ↦ subst (λ all. number ≤ total_lines all) (sym (take_all (index + 1) files le)) within
    ]

-- if a continued number has the position `path` and `line` (`IsPosition`), it is the number of this line of the file at
-- this path (`IsLineIn`)
pub line_at : (files : List texts.UnitText) (numbers : List ℕ) (number : ℕ) (path : List ℕ) (line : ℕ)
    → AreFirstLines (map shown_unit_text files) numbers → HasLine (map shown_unit_text files) number → IsPosition files numbers number path line
    → IsLineIn (map shown_unit_text files) number path line
line_at files numbers number path line are has h =
    let all = map shown_unit_text files in
    let inside : h.index < length files = slice_get_within files h.index h.file h.is_at in
    let here : h.index < length all = omega (arith, length-map files shown_unit_text) in
    let at = shown_at files h.index h.file inside (sym (get_or_from_slice_get files h.index h.file h.file h.is_at)) in
    let first : get_or numbers h.index 0 ≡ total_lines (take h.index all) + 1 = are.1 h.index here in
    let starts : get_or numbers h.index 0 ≤ number = h.is_last.1 in
    let counted : get_or numbers h.index 0 + line ≡ number + 1 = h.counted in
    let below : number ≤ total_lines (take (h.index + 1) all) = before_next all numbers number h.index are has.1 h.is_last in
    let more : total_lines (take (h.index + 1) all) ≡ total_lines (take h.index all) + length (lines (shown_unit_text h.file).bytes) =
    total_lines_more all h.index (shown_unit_text h.file) here at in
    record {
      before = take h.index all;
      file = shown_unit_text h.file;
      after = drop (h.index + 1) all;
      divided = divided_at all h.index (shown_unit_text h.file) here at;
      has_path = sym h.has_path;
      counted = omega arith;
      is_within = (omega arith, omega arith);
    }

-- if the first of the numbers is at most `number`, and all numbers from index `n` on are greater, then one of the
-- numbers is the last that is at most `number`
last_exists : (n : ℕ) (numbers : List ℕ) (number : ℕ) → 0 < n → n ≤ length numbers → get_or numbers 0 0 ≤ number
    → ((k : ℕ) → n ≤ k → k < length numbers → number < get_or numbers k 0) → (index : ℕ) × IsLastUntil numbers number index
last_exists zero numbers number some fits first above = absurd (omega arith)
last_exists (suc zero) numbers number some fits first above = (0, (omega arith, first, λ k h l. above k (omega arith) l))
last_exists (suc (suc n)) numbers number some fits first above =
    elim (cases_lt number (get_or numbers (suc n) 0)) [
      | inl lt ↦ last_exists (suc n) numbers number (omega arith) (omega arith) first (λ k h l. elim (cases_lt (suc n) k) [
        | inl later ↦ above k (omega arith) l
        | inr le ↦ (let same : suc n ≡ k = omega arith in subst (λ i. number < get_or numbers i 0) same lt)
      ])
      | inr le ↦ (suc n, (omega arith, le, λ k h l. above k (omega arith) l))
    ]

-- each line of one of the files has a position; the line's number in its file is at most its continued number
pub has_position : (files : List texts.UnitText) (numbers : List ℕ) (number : ℕ) → AreFirstLines (map shown_unit_text files) numbers
    → HasLine (map shown_unit_text files) number → (path : List ℕ) × (line : ℕ) × IsPosition files numbers number path line × (line ≤ number)
has_position [] numbers number are has = absurd (omega (arith, has.0, has.1))
has_position (file ∷ files) numbers number are has =
    let first : get_or numbers 0 0 ≡ 1 = are.1 0 (omega arith) in
    let count : length numbers ≡ suc (length files) = are.0 ∙ length-map (file ∷ files) shown_unit_text in
    let last = last_exists (length numbers) numbers number (omega arith) (omega arith) (omega (arith, has.0)) (λ k h l. absurd (omega arith)) in
    let index = last.0 in
    let inside : index < length (file ∷ files) = omega (arith, last.1.0) in
    let here : get_or numbers index 0 ≡ total_lines (take index (map shown_unit_text (file ∷ files))) + 1 = are.1 index (omega (arith, last.1.0, are.0)) in
    let starts : get_or numbers index 0 ≤ number = last.1.1 in
    let own = get_or (file ∷ files) index file in (
      string_bytes own.path,
      number + 1 - get_or numbers index 0,
      record {
        index = index;
        file = own;
        is_at = slice_get-get_or (file ∷ files) index file inside;
        has_path = refl;
        is_last = last.1;
        counted = omega arith;
      },
      omega arith,
    )

-- if the search for a position returns the right result for a line of one of the files, it finds the file's path and
-- the number of the line in this file
pub found_line : (files : List texts.UnitText) (numbers : List ℕ) (number : ℕ) (found : Option (Bor (List ℕ) × ℕ)) → number < 2 ^ 32
    → AreFirstLines (map shown_unit_text files) numbers → HasLine (map shown_unit_text files) number
    → MatchOption found ((path : List ℕ) (line : ℕ) → IsPosition files numbers number path line → 2 ^ 32 ≤ line)
    (λ position. IsPosition files numbers number position.0.now position.1)
    → IsSomeAnd found (λ position. IsLineIn (map shown_unit_text files) number position.0.now position.1)
found_line files numbers number None fits are has h =
    let position = has_position files numbers number are has in
    let large : 2 ^ 32 ≤ position.1 = h position.0 position.1 position.2 in
    absurd (omega (arith, position.3))
found_line files numbers number (Some position) fits are has h = line_at files numbers number position.0.now position.1 are has h

-- there is only one index of the last number that is at most `number`
pub last_unique : (numbers : List ℕ) (number i j : ℕ) → IsLastUntil numbers number i → IsLastUntil numbers number j → i ≡ j
last_unique numbers number i j h k =
    elim (cases_order i j) [
      | inl same ↦ same
      | inr other ↦ elim other [
        | inl lt ↦ (let after : number < get_or numbers j 0 = h.2 j lt k.0 in let until : get_or numbers j 0 ≤ number = k.1 in absurd (omega arith))
        | inr gt ↦ (let after : number < get_or numbers i 0 = k.2 i gt h.0 in let until : get_or numbers i 0 ≤ number = h.1 in absurd (omega arith))
      ]
    ]
