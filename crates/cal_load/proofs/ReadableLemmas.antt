-- Lemmas on the text that is read in place of a file: its logical lines give the same results as those of the file.
use Rattle.std.proofs.Common.{◌≡◌, ◌≤◌, ◌<◌, ◌+◌, ◌-◌, ◌==◌, ℕ, suc, zero, Bool, true, false, List, [], ◌∷◌, ◌++◌, Option, Some, None, All, append-nil, append_assoc, ap, arith, codes, drop, get_or, length, length-append, map, not, nat_le, nat_lt, refl, subst, sym, take, ◌∙◌}
use Rattle.std.specs.Prelude.{if◌then◌else◌, slice_index}
use Rattle.std.specs.List.{AllByRecursion, after_first, before_first, list_any, position_or_len, prefix_len, slice_split}
use Rattle.std.specs.Option.{is_some}
use Rattle.std.specs.Str.{IsUtf8, chars, is_utf8}
use Rattle.std.specs.Str.Lines.{lines, lines_of_parts, strip_carriage_return}
use Rattle.std.proofs.Math.Numerals.{one-add}
use Rattle.std.proofs.Math.Seq.{drop-append_seam, get_or-append_seam, split_at, take-append_seam}
use Rattle.std.proofs.lemmas.Bool.{eqb-true, false_from_ne_true}
use Rattle.std.proofs.lemmas.Bool.Decides.{nat_tests}
use Rattle.std.proofs.lemmas.List.{drop_all, get_or-take, length-take-le, map-append, take_all, take-append-drop}
use Rattle.std.proofs.lemmas.List.Elements.{All-from_get_or}
use Rattle.std.proofs.lemmas.List.Splits.{length-slice_split, slice_split_at, slice_split_none}
use Rattle.std.proofs.lemmas.List.Sums.{fails_before_first, prefix_len_stops, split_at_first}
use Rattle.std.proofs.lemmas.Str.{IsCharBoundary-after_ascii, IsCharBoundary-before_ascii, IsUtf8-append, IsUtf8-drop, IsUtf8-from_ascii, IsUtf8-from_is_utf8, IsUtf8-nil, IsUtf8-take, is_utf8-from_IsUtf8}
use Rattle.cal_bytes.proofs.TrimLemmas.{trim_is, unindented}
use Rattle.cal_bytes.specs.rules.Trim.{trim_matches, trim_start_matches}
use Rattle.cal_timer.proofs.GroupLemmas.{plain_here, plain_none, plain_skipped}
use Rattle.cal_timer.proofs.LineLemmas.{blank_is_ascii, ends_in_backslash, lines_of_more, some_line}
use Rattle.cal_timer.specs.rules.Lines.{Group, Line, continued_by, groups, is_blank_or_return, is_comment, is_continued, joined_line, logical_lines, part_of_line, plain_lines}
use Rattle.cal_read.proofs.SectionAssignmentsLemmas.{assignments_of_timer}
use Rattle.cal_load.specs.declared.readable.BrokenReason.{BrokenReason}
use Rattle.cal_load.specs.declared.readable.BrokenReason.TheVariants.{BadHeader, NotUtf8, TooLong}
use Rattle.cal_load.specs.rules.Readable.{StandFor, assignments_read, no_lines, broken_at, broken_in, broken_reason, file_lines, is_bad_header, is_broken, is_clean_utf8, is_noncharacter, is_readable, line_in_text, line_limit, lines_until_broken, reason_at, reason_in, section_read}

-- ## UTF-8

utf8_before : (xs : List ℕ) (b : ℕ) (ys : List ℕ) → b < 128 → IsUtf8 (xs ++ b ∷ ys) → IsUtf8 xs
utf8_before xs b ys small h =
    let all = xs ++ b ∷ ys in
    let inside : length xs < length all = omega (arith, length-append xs (b ∷ ys)) in
    let byte : get_or all (length xs) 0 < 128 = rw (get_or-append_seam xs b ys 0) small in
    subst IsUtf8 (take-append_seam xs (b ∷ ys)) (IsUtf8-take all (length xs) h (IsCharBoundary-before_ascii all (length xs) inside byte))

utf8_after : (xs : List ℕ) (b : ℕ) (ys : List ℕ) → b < 128 → IsUtf8 (xs ++ b ∷ ys) → IsUtf8 ys
utf8_after xs b ys small h =
    let all = xs ++ b ∷ ys in
    let inside : length xs < length all = omega (arith, length-append xs (b ∷ ys)) in
    let byte : get_or all (length xs) 0 < 128 = rw (get_or-append_seam xs b ys 0) small in
    let long : length xs + 1 ≡ length (xs ++ b ∷ []) = sym (length-append xs (b ∷ [])) in
    let rest : drop (length xs + 1) all ≡ ys = ap (λ k. drop k all) long ∙ ap (drop (length (xs ++ b ∷ []))) (sym (append_assoc xs (b ∷ []) ys)) ∙ drop-append_seam (xs ++ b ∷ []) ys in
    subst IsUtf8 rest (IsUtf8-drop all (length xs + 1) h (IsCharBoundary-after_ascii all (length xs) h inside byte))

ascii_bytes : (bs : List ℕ) → AllByRecursion (λ b. b < 128) bs → (i : ℕ) → slice_index bs i < 128
ascii_bytes [] h i = omega arith
ascii_bytes (b ∷ bs) h zero = h.0
ascii_bytes (b ∷ bs) h (suc i) = ascii_bytes bs h.1 i

utf8_ascii : (bs : List ℕ) → AllByRecursion (λ b. b < 128) bs → IsUtf8 bs
utf8_ascii bs h = IsUtf8-from_ascii bs (ascii_bytes bs h)

blanks_are_ascii : (bs : List ℕ) → AllByRecursion (λ b. is_blank_or_return b ≡ true) bs → AllByRecursion (λ b. b < 128) bs
blanks_are_ascii [] h = tt
blanks_are_ascii (b ∷ bs) h = (blank_is_ascii b h.0, blanks_are_ascii bs h.1)

utf8_blanks : (bs : List ℕ) → AllByRecursion (λ b. is_blank_or_return b ≡ true) bs → IsUtf8 bs
utf8_blanks bs h = utf8_ascii bs (blanks_are_ascii bs h)

-- a text is UTF-8 if it is UTF-8 without its leading and trailing blanks
utf8_untrimmed : (text : List ℕ) → IsUtf8 (trim_matches is_blank_or_return text) → IsUtf8 text
utf8_untrimmed text h =
    let t = trim_is is_blank_or_return text in
    subst IsUtf8 (sym t.whole) (IsUtf8-append t.front (trim_matches is_blank_or_return text ++ t.back) (utf8_blanks t.front t.blanks)
    (IsUtf8-append (trim_matches is_blank_or_return text) t.back h (utf8_blanks t.back t.blanks_after)))

utf8_indented : (text : List ℕ) → IsUtf8 (trim_start_matches is_blank_or_return text) → IsUtf8 text
utf8_indented text h =
    let t = unindented is_blank_or_return text in
    subst IsUtf8 (sym t.whole) (IsUtf8-append t.indent (trim_start_matches is_blank_or_return text) (utf8_blanks t.indent t.blanks) h)

pub not_utf8 : (bs : List ℕ) → (IsUtf8 bs → ⊥) → is_utf8 bs ≡ false
not_utf8 bs h = false_from_ne_true (is_utf8 bs) (λ e. h (IsUtf8-from_is_utf8 bs e))

not_both : (b : Bool) → b ≡ true → b ≡ false → ⊥
not_both b h k = grind arith

-- ## Logical lines

-- if what a continued line contributes to its logical line, followed by `rest`, is UTF-8, then so are the line and
-- `rest`
utf8_continued : (text rest : List ℕ) → is_continued text ≡ true → IsUtf8 (part_of_line text ++ rest) → IsUtf8 text × IsUtf8 rest
unfolding part_of_line
utf8_continued text rest e h =
    let front = take (length text - 1) text in
    let whole : IsUtf8 (front ++ 32 ∷ rest) = subst IsUtf8 (rw e (append_assoc front (32 ∷ []) rest)) h in
    let backslash : IsUtf8 (92 ∷ []) = utf8_ascii (92 ∷ []) (omega arith, tt) in (
      subst IsUtf8 (sym (ends_in_backslash text e)) (IsUtf8-append front (92 ∷ []) (utf8_before front 32 rest (omega arith) whole) backslash),
      utf8_after front 32 rest (omega arith) whole,
    )

utf8_part : (c : Bool) (text rest : List ℕ) → is_continued text ≡ c → (c ≡ false → rest ≡ []) → IsUtf8 (part_of_line text ++ rest) → IsUtf8 text
unfolding part_of_line
utf8_part true text rest e last h = (utf8_continued text rest e h).0
utf8_part false text rest e last h = subst IsUtf8 (rw e (ap (λ ys. text ++ ys) (last refl) ∙ append-nil text)) h

-- The groups of the text that is read in place of a file, and the groups of the file. They are the same up to the group
-- that has the line `bad`, which is the last group of the text.
record Parallel (bad : Line) (shown file : List Group) : Type 0 where
  front : List Group
  stand : Group
  real : Group
  after : List Group
  is_shown : shown ≡ front ++ stand ∷ []
  is_file : file ≡ front ++ real ∷ after
  same_number : stand.first.number ≡ real.first.number
  utf8 : IsUtf8 (joined_line real).text → IsUtf8 bad.text

alone_by : (c : Bool) (line : Line) → (if c then continued_by line [] else record { first = line; more = [] } ∷ []) ≡ record { first = line; more = [] } ∷ []
alone_by true line = refl
alone_by false line = refl

bad_first : (c : Bool) (stand bad : Line) (later : List Group) → is_continued bad.text ≡ c → stand.number ≡ bad.number
    → Parallel bad (record { first = stand; more = [] } ∷ []) (if c then continued_by bad later else record { first = bad; more = [] } ∷ later)
bad_first true stand bad [] e same = record {
  front = [];
  stand = record { first = stand; more = [] };
  real = record { first = bad; more = [] };
  after = [];
  is_shown = refl;
  is_file = refl;
  same_number = same;
  utf8 = utf8_part true bad.text _ e (λ h. absurd (not_both true refl h));
}
bad_first true stand bad (group ∷ later) e same = record {
  front = [];
  stand = record { first = stand; more = [] };
  real = record { first = bad; more = group.first ∷ group.more };
  after = later;
  is_shown = refl;
  is_file = refl;
  same_number = same;
  utf8 = utf8_part true bad.text _ e (λ h. absurd (not_both true refl h));
}
bad_first false stand bad later e same = record {
  front = [];
  stand = record { first = stand; more = [] };
  real = record { first = bad; more = [] };
  after = later;
  is_shown = refl;
  is_file = refl;
  same_number = same;
  utf8 = utf8_part false bad.text _ e (λ h. refl);
}

joined_by : (line bad : Line) (front : List Group) (stand real : Group) (after : List Group) → is_continued line.text ≡ true → stand.first.number ≡ real.first.number
    → (IsUtf8 (joined_line real).text → IsUtf8 bad.text) → Parallel bad (continued_by line (front ++ stand ∷ [])) (continued_by line (front ++ real ∷ after))
joined_by line bad [] stand real after e same utf8 = record {
  front = [];
  stand = record { first = line; more = stand.first ∷ stand.more };
  real = record { first = line; more = real.first ∷ real.more };
  after = after;
  is_shown = refl;
  is_file = refl;
  same_number = refl;
  utf8 = λ h. utf8 ((utf8_continued line.text _ e h).1);
}
joined_by line bad (group ∷ front) stand real after e same utf8 = record {
  front = record { first = line; more = group.first ∷ group.more } ∷ front;
  stand = stand;
  real = real;
  after = after;
  is_shown = refl;
  is_file = refl;
  same_number = same;
  utf8 = utf8;
}

line_before : (c : Bool) (line bad : Line) (shown file : List Group) → is_continued line.text ≡ c → Parallel bad shown file
    → Parallel bad (if c then continued_by line shown else record { first = line; more = [] } ∷ shown) (if c then continued_by line file else record { first = line; more = [] } ∷ file)
line_before true line bad shown file e p =
    rw (p.is_shown, p.is_file) (joined_by line bad p.front p.stand p.real p.after e p.same_number p.utf8)
line_before false line bad shown file e p = record {
  front = record { first = line; more = [] } ∷ p.front;
  stand = p.stand;
  real = p.real;
  after = p.after;
  is_shown = ap (λ gs. record { first = line; more = [] } ∷ gs) p.is_shown;
  is_file = ap (λ gs. record { first = line; more = [] } ∷ gs) p.is_file;
  same_number = p.same_number;
  utf8 = p.utf8;
}

parallel : (before : List Line) (stand bad : Line) (after : List Line) → stand.number ≡ bad.number → Parallel bad (groups (before ++ stand ∷ [])) (groups (before ++ bad ∷ after))
unfolding groups
parallel [] stand bad after same =
    rw (alone_by (is_continued stand.text) stand) (bad_first (is_continued bad.text) stand bad (groups after) refl same)
parallel (line ∷ before) stand bad after same =
    line_before (is_continued line.text) line bad _ _ refl (parallel before stand bad after same)

-- ## Assignments

-- for the sections `Timer`, `section_read` returns the assignments that `assignments_read` returns
pub timer_section_read : (first : ℕ) (bytes : List ℕ) → section_read (codes "Timer") first bytes ≡ assignments_read first bytes
unfolding section_read assignments_read
timer_section_read first bytes = assignments_of_timer false (before_first is_broken (file_lines first bytes))

-- ## Where reading stops

pub stops_here : (is_cut : Bool) (line : Line) (after : List Line) (reason : BrokenReason) → reason_in is_cut line after ≡ Some reason
    → (lines_until_broken is_cut (line ∷ after) ≡ []) × (broken_in is_cut (line ∷ after) ≡ Some (broken_at line reason))
unfolding lines_until_broken broken_in
stops_here is_cut line after reason e = (rw e refl, rw e refl)

pub goes_on_here : (is_cut : Bool) (line : Line) (after : List Line) → reason_in is_cut line after ≡ None
    → (lines_until_broken is_cut (line ∷ after) ≡ line ∷ lines_until_broken is_cut after) × (broken_in is_cut (line ∷ after) ≡ broken_in is_cut after)
unfolding lines_until_broken broken_in
goes_on_here is_cut line after e = (rw e refl, rw e refl)

pub ends_here : (is_cut : Bool) → (lines_until_broken is_cut [] ≡ []) × (broken_in is_cut [] ≡ None)
unfolding lines_until_broken broken_in
ends_here is_cut = (refl, refl)

before_one_more : (l : Line) (ls : List Line) → is_broken l ≡ false → before_first is_broken (l ∷ ls) ≡ l ∷ before_first is_broken ls
before_one_more l ls e = rw (e, one-add) refl

reads_on : (is_cut : Bool) (line : Line) (shown file : List Line) (reason : Option BrokenReason) → reason_at line ≡ reason → reason_in is_cut line shown ≡ reason
    → StandFor is_cut shown file → StandFor is_cut (line ∷ shown) (line ∷ file)
unfolding lines_until_broken broken_in
reads_on is_cut line shown file (Some reason) e f h = (rw (e, f) refl, rw (e, f) refl)
reads_on is_cut line shown file None e f h = (
  rw f (ap (λ lines. line ∷ lines) h.0 ∙ sym (before_one_more line file (ap is_some e))),
  rw f (rw e h.1),
)

some_after : (front : List Line) (line : Line) → no_lines (front ++ line ∷ []) ≡ false
some_after [] line = refl
some_after (l ∷ front) line = refl

reason_before : (line : Line) (front : List Line) (last : Line) → reason_in true line (front ++ last ∷ []) ≡ reason_at line
unfolding reason_in
reason_before line front last = rw (some_after front last) refl

stops_cut : (front : List Line) (stand real : Line) (after : List Line) → stand.number ≡ real.number → reason_at real ≡ Some NotUtf8 → StandFor true (front ++ stand ∷ []) (front ++ real ∷ after)
unfolding lines_until_broken broken_in reason_in
stops_cut [] stand real after same e = (rw e refl, rw (e, same) refl)
stops_cut (line ∷ front) stand real after same e =
    reads_on true line (front ++ stand ∷ []) (front ++ real ∷ after) (reason_at line) refl (reason_before line front stand) (stops_cut front stand real after same e)

reads_same : (lines : List Line) → StandFor false lines lines
unfolding lines_until_broken broken_in reason_in
reads_same [] = (refl, refl)
reads_same (line ∷ after) = reads_on false line after after (reason_at line) refl refl (reads_same after)

-- ## Reasons

pub clean_utf8 : (text : List ℕ) → IsUtf8 text → is_clean_utf8 text ≡ not (list_any is_noncharacter (chars text))
unfolding is_clean_utf8
clean_utf8 text utf8 = rw (is_utf8-from_IsUtf8 text utf8) refl

unclean_utf8 : (text : List ℕ) → (IsUtf8 text → ⊥) → is_clean_utf8 text ≡ false
unfolding is_clean_utf8
unclean_utf8 text h = rw (not_utf8 text h) refl

pub unclean : (text : List ℕ) → is_clean_utf8 text ≡ false → broken_reason text ≡ Some NotUtf8
unfolding broken_reason
unclean text e = rw e refl

pub bad_header : (text : List ℕ) → is_clean_utf8 text ≡ true → is_bad_header text ≡ true → broken_reason text ≡ Some BadHeader
unfolding broken_reason
bad_header text clean e = rw (clean, e) refl

pub too_long : (text : List ℕ) → is_clean_utf8 text ≡ true → is_bad_header text ≡ false → line_limit ≤ length text → broken_reason text ≡ Some TooLong
unfolding broken_reason
too_long text clean e long =
    let over : nat_le line_limit (length text) ≡ true = grind (arith, nat_tests) in
    rw (clean, e, over) refl

pub unbroken : (text : List ℕ) → is_clean_utf8 text ≡ true → is_bad_header text ≡ false → length text < line_limit → broken_reason text ≡ None
unfolding broken_reason
unbroken text clean e short =
    let under : nat_le line_limit (length text) ≡ false = grind (arith, nat_tests) in
    rw (clean, e, under) refl

pub reason_at_cut : (is_cut : Bool) (line : Line) (after : List Line) → is_cut ≡ true → no_lines after ≡ true → reason_in is_cut line after ≡ Some NotUtf8
unfolding reason_in
reason_at_cut is_cut line after e f = rw (e, f) refl

pub reason_uncut : (is_cut : Bool) (line : Line) (after : List Line) → is_cut ≡ false → reason_in is_cut line after ≡ reason_at line
unfolding reason_in
reason_uncut is_cut line after e = rw e refl

pub reason_not_last : (is_cut : Bool) (line : Line) (after : List Line) → is_cut ≡ true → no_lines after ≡ false → reason_in is_cut line after ≡ reason_at line
unfolding reason_in
reason_not_last is_cut line after e f = rw (e, f) refl

-- ## Physical lines

abbrev is_feed : ℕ → Bool
is_feed b = b == 10

-- the first line ends at the first line feed
lines_fed : (text rest : List ℕ) → All (λ b. is_feed b ≡ false) text → lines (text ++ 10 ∷ rest) ≡ strip_carriage_return text ∷ lines rest
lines_fed text rest none =
    ap lines_of_parts (slice_split_at is_feed text 10 rest none refl)
    ∙ lines_of_more text (slice_split is_feed rest) (omega (arith, length-slice_split is_feed rest))

-- what a physical line ends with: nothing, a line feed, or a carriage return and a line feed
pub data End : List ℕ → Type 0 where
  unended : End []
  feed : End (10 ∷ [])
  return_feed : End (13 ∷ 10 ∷ [])

end_utf8 : (ending : List ℕ) → End ending → IsUtf8 ending
end_utf8 _ unended = IsUtf8-nil
end_utf8 _ feed = utf8_ascii (10 ∷ []) (omega arith, tt)
end_utf8 _ return_feed = utf8_ascii (13 ∷ 10 ∷ []) (omega arith, (omega arith, tt))

comment_empty : (ending : List ℕ) → End ending → is_comment (trim_start_matches is_blank_or_return ending) ≡ false
unfolding trim_start_matches
comment_empty _ unended = refl
comment_empty _ feed = refl
comment_empty _ return_feed = refl

comment_by : (blank : Bool) (b : ℕ) (bs ending : List ℕ) → is_blank_or_return b ≡ blank
    → is_comment (trim_start_matches is_blank_or_return (bs ++ ending)) ≡ is_comment (trim_start_matches is_blank_or_return bs)
    → is_comment (trim_start_matches is_blank_or_return (b ∷ bs ++ ending)) ≡ is_comment (trim_start_matches is_blank_or_return (b ∷ bs))
unfolding trim_start_matches
comment_by true b bs ending e same = rw (e, one-add (prefix_len is_blank_or_return (bs ++ ending)), one-add (prefix_len is_blank_or_return bs)) same
comment_by false b bs ending e same = rw e refl

-- whether a line is a comment doesn't depend on its line ending
comment_ended : (content ending : List ℕ) → End ending → is_comment (trim_start_matches is_blank_or_return (content ++ ending)) ≡ is_comment (trim_start_matches is_blank_or_return content)
unfolding trim_start_matches
comment_ended [] ending e = comment_empty ending e
comment_ended (b ∷ content) ending e = comment_by (is_blank_or_return b) b content ending refl (comment_ended content ending e)

-- `line` is the first physical line of `bytes`, including its line ending, and `after` is what comes after it
pub record FirstLine (bytes line after : List ℕ) : Type 0 where
  pub content : List ℕ
  pub ending : List ℕ
  pub is_end : End ending
  pub divided : line ≡ content ++ ending
  pub whole : lines bytes ≡ content ∷ lines after
  pub alone : lines line ≡ content ∷ []
  pub more : 0 < length after → (rest : List ℕ) → lines (line ++ rest) ≡ content ∷ lines rest

ends_in_return : (text : List ℕ) → (slice_index text (length text - 1) == 13) ≡ true → text ≡ take (length text - 1) text ++ 13 ∷ []
ends_in_return [] e = grind (arith, nat_tests)
ends_in_return (b ∷ bs) e =
    let text = b ∷ bs in
    let at = length text - 1 in
    let inside : at < length text = omega arith in
    split_at text at 0 inside
    ∙ ap (λ bs. take at text ++ get_or text at 0 ∷ bs) (drop_all (suc at) text (omega arith))
    ∙ ap (λ b. take at text ++ b ∷ []) (eqb-true _ _ e)

fed_by : (returns : Bool) (bytes text after : List ℕ) → (slice_index text (length text - 1) == 13) ≡ returns → All (λ b. is_feed b ≡ false) text
    → bytes ≡ text ++ 10 ∷ after → FirstLine bytes (text ++ 10 ∷ []) after
fed_by true bytes text after e feedless whole = record {
  content = take (length text - 1) text;
  ending = 13 ∷ 10 ∷ [];
  is_end = return_feed;
  divided = ap (λ bs. bs ++ 10 ∷ []) (ends_in_return text e) ∙ append_assoc (take (length text - 1) text) (13 ∷ []) (10 ∷ []);
  whole = ap lines whole ∙ lines_fed text after feedless ∙ rw e refl;
  alone = lines_fed text [] feedless ∙ rw e refl;
  more = λ h rest. ap lines (append_assoc text (10 ∷ []) rest) ∙ lines_fed text rest feedless ∙ rw e refl;
}
fed_by false bytes text after e feedless whole = record {
  content = text;
  ending = 10 ∷ [];
  is_end = feed;
  divided = refl;
  whole = ap lines whole ∙ lines_fed text after feedless ∙ rw e refl;
  alone = lines_fed text [] feedless ∙ rw e refl;
  more = λ h rest. ap lines (append_assoc text (10 ∷ []) rest) ∙ lines_fed text rest feedless ∙ rw e refl;
}

fed : (bytes : List ℕ) → position_or_len is_feed bytes < length bytes → FirstLine bytes (take (position_or_len is_feed bytes + 1) bytes) (after_first is_feed bytes)
fed bytes inside =
    let at = position_or_len is_feed bytes in
    let text = before_first is_feed bytes in
    let after = after_first is_feed bytes in
    let stops : not (is_feed (get_or bytes at 0)) ≡ false = prefix_len_stops (λ b. not (is_feed b)) bytes 0 inside in
    let byte : get_or bytes at 0 ≡ 10 = grind (arith, nat_tests) in
    let whole : bytes ≡ text ++ 10 ∷ after = split_at_first is_feed bytes 0 inside ∙ ap (λ b. text ++ b ∷ after) byte in
    let long : length text ≡ at = length-take-le at bytes (omega arith) in
    let feedless : All (λ b. is_feed b ≡ false) text =
    All-from_get_or (λ b. is_feed b ≡ false) text 0 (λ i h. let below : i < at = omega arith in rw (get_or-take at bytes i 0 below) (fails_before_first is_feed bytes i 0 below)) in
    let longer : at + 1 ≡ length (text ++ 10 ∷ []) = omega (arith, length-append text (10 ∷ [])) in
    let line : take (at + 1) bytes ≡ text ++ 10 ∷ [] =
    ap (λ k. take k bytes) longer ∙ ap (take (length (text ++ 10 ∷ []))) (whole ∙ sym (append_assoc text (10 ∷ []) after)) ∙ take-append_seam (text ++ 10 ∷ []) after in
    subst (λ line. FirstLine bytes line after) (sym line) (fed_by _ bytes text after refl feedless whole)

unfed : (bytes : List ℕ) → 0 < length bytes → length bytes ≤ position_or_len is_feed bytes → FirstLine bytes (take (position_or_len is_feed bytes + 1) bytes) (after_first is_feed bytes)
unfed bytes some outside =
    let at = position_or_len is_feed bytes in
    let feedless : All (λ b. is_feed b ≡ false) bytes = All-from_get_or (λ b. is_feed b ≡ false) bytes 0 (λ i h. fails_before_first is_feed bytes i 0 (omega arith)) in
    let one : lines bytes ≡ bytes ∷ [] = ap lines_of_parts (slice_split_none is_feed bytes feedless) ∙ some_line bytes some in
    let last : FirstLine bytes bytes [] = record {
      content = bytes;
      ending = [];
      is_end = unended;
      divided = sym (append-nil bytes);
      whole = one;
      alone = one;
      more = λ h rest. absurd (omega arith);
    } in
    subst (λ after. FirstLine bytes (take (at + 1) bytes) after) (sym (drop_all (at + 1) bytes (omega arith)))
    (subst (λ line. FirstLine bytes line []) (sym (take_all (at + 1) bytes (omega arith))) last)

first_by : (ends : Bool) (bytes : List ℕ) → 0 < length bytes → nat_lt (position_or_len is_feed bytes) (length bytes) ≡ ends
    → FirstLine bytes (take (position_or_len is_feed bytes + 1) bytes) (after_first is_feed bytes)
first_by true bytes some e = fed bytes (grind (arith, nat_tests))
first_by false bytes some e = unfed bytes some (grind (arith, nat_tests))

pub first_line : (bytes : List ℕ) → 0 < length bytes → FirstLine bytes (take (position_or_len is_feed bytes + 1) bytes) (after_first is_feed bytes)
first_line bytes some = first_by (nat_lt (position_or_len is_feed bytes) (length bytes)) bytes some refl

pub one_line_more : (bytes : List ℕ) → 0 < length bytes → length (lines bytes) ≡ 1 + length (lines (after_first is_feed bytes))
one_line_more bytes some = ap length (first_line bytes some).whole ∙ omega arith

-- what `plain_lines` returns for a physical line with this content: nothing if it is a comment
abbrev one_plain : ℕ → List ℕ → List Line
one_plain number content =
    if is_comment (trim_start_matches is_blank_or_return content) then []
    else record { number = number; text = trim_start_matches is_blank_or_return content } ∷ []

plain_by : (comment : Bool) (number : ℕ) (text content rest : List ℕ) → is_comment (trim_start_matches is_blank_or_return content) ≡ comment → lines text ≡ content ∷ lines rest
    → plain_lines number text ≡ one_plain number content ++ plain_lines (number + 1) rest
plain_by true number text content rest e first = plain_skipped number text content rest first e ∙ rw e refl
plain_by false number text content rest e first = plain_here number text content rest first e ∙ rw e refl

plain_first : (number : ℕ) (text content rest : List ℕ) → lines text ≡ content ∷ lines rest → plain_lines number text ≡ one_plain number content ++ plain_lines (number + 1) rest
plain_first number text content rest first = plain_by (is_comment (trim_start_matches is_blank_or_return content)) number text content rest refl first

plain_only : (number : ℕ) (text content : List ℕ) → lines text ≡ content ∷ [] → plain_lines number text ≡ one_plain number content
plain_only number text content first =
    plain_first number text content [] first ∙ ap (λ ls. one_plain number content ++ ls) (plain_none (number + 1) [] refl) ∙ append-nil (one_plain number content)

-- ## Lengths

pub parts_long : (k : ℕ) (bytes : List ℕ) → length (take k bytes) + length (drop k bytes) ≡ length bytes
parts_long k bytes = sym (length-append (take k bytes) (drop k bytes)) ∙ ap length (take-append-drop k bytes)

comment_byte : (blank : Bool) (b : ℕ) → is_blank_or_return b ≡ blank → is_comment (trim_start_matches is_blank_or_return (b ∷ [])) ≡ true → b < 128
unfolding trim_start_matches
comment_byte true b e c = blank_is_ascii b e
comment_byte false b e c = let k : is_comment (b ∷ []) ≡ true = rw e at c in grind (arith, nat_tests)

some_bytes : (line : List ℕ) → is_utf8 line ≡ false → 1 ≤ length line
some_bytes [] e = absurd (not_both (is_utf8 []) (is_utf8-from_IsUtf8 [] IsUtf8-nil) e)
some_bytes (b ∷ line) e = omega arith

two_bytes : (line : List ℕ) → is_utf8 line ≡ false → is_comment (trim_start_matches is_blank_or_return line) ≡ true → 2 ≤ length line
two_bytes [] e c = absurd (not_both (is_utf8 []) (is_utf8-from_IsUtf8 [] IsUtf8-nil) e)
two_bytes (b ∷ []) e c =
    absurd (not_both (is_utf8 (b ∷ [])) (is_utf8-from_IsUtf8 (b ∷ []) (utf8_ascii (b ∷ []) (comment_byte (is_blank_or_return b) b refl c, tt))) e)
two_bytes (b ∷ d ∷ line) e c = omega arith

shorter_by : (utf8 comment : Bool) (line : List ℕ) → is_utf8 line ≡ utf8 → is_comment (trim_start_matches is_blank_or_return line) ≡ comment → length (line_in_text line) ≤ length line
shorter_by true comment line e c = rw e (omega arith)
shorter_by false true line e c = rw (e, c) (two_bytes line e c)
shorter_by false false line e c = rw (e, c) (some_bytes line e)

-- what replaces a line in the text that is read isn't longer than the line
pub shorter_line : (line : List ℕ) → length (line_in_text line) ≤ length line
shorter_line line = shorter_by (is_utf8 line) (is_comment (trim_start_matches is_blank_or_return line)) line refl refl

-- ## The text that is read in place of a file

-- reading `text` has the same result as reading `bytes` without its end `rest`
pub record Reads (number : ℕ) (bytes text rest : List ℕ) : Type 0 where
  pub found : List Line
  pub next : ℕ
  pub in_file : plain_lines number bytes ≡ found ++ plain_lines next rest
  pub in_text : plain_lines number text ≡ found
  pub more : 0 < length rest → (later : List ℕ) → plain_lines number (text ++ later) ≡ found ++ plain_lines next later

pub reads_nothing : (number : ℕ) (bytes : List ℕ) → Reads number bytes [] bytes
reads_nothing number bytes = record {
  found = [];
  next = number;
  in_file = refl;
  in_text = plain_none number [] refl;
  more = λ h later. refl;
}

-- For the text that replaces `line`, `plain_lines` returns what `one_plain` returns for `content`. If `line` isn't the
-- last line, more text can follow, and its plain lines come next.
record Shows (line content after : List ℕ) : Type 0 where
  alone : (number : ℕ) → plain_lines number (line_in_text line) ≡ one_plain number content
  more : 0 < length after → (number : ℕ) (later : List ℕ) → plain_lines number (line_in_text line ++ later) ≡ one_plain number content ++ plain_lines (number + 1) later

comment_mark : is_comment (trim_start_matches is_blank_or_return (35 ∷ [])) ≡ true
unfolding trim_start_matches
comment_mark = refl

feedless_mark : All (λ b. is_feed b ≡ false) (35 ∷ [])
feedless_mark zero d h = refl
feedless_mark (suc k) d h = absurd (omega arith)

shows_by : (utf8 comment : Bool) (bytes line after : List ℕ) (f : FirstLine bytes line after) → is_utf8 line ≡ utf8 → is_comment (trim_start_matches is_blank_or_return line) ≡ comment
    → is_readable line ≡ true → Shows line f.content after
shows_by true comment bytes line after f e c h = record {
  alone = λ number. rw e (plain_only number line f.content f.alone);
  more = λ some number later. rw e (plain_first number (line ++ later) f.content later (f.more some later));
}
shows_by false true bytes line after f e c h =
    let same : is_comment (trim_start_matches is_blank_or_return f.content) ≡ true =
    sym (comment_ended f.content f.ending f.is_end) ∙ ap (λ bs. is_comment (trim_start_matches is_blank_or_return bs)) (sym f.divided) ∙ c in
    record {
      alone = λ number. rw (e, c, same) (plain_only number (35 ∷ 10 ∷ []) (35 ∷ []) refl ∙ rw comment_mark refl);
      more = λ some number later. rw (e, c, same) (plain_skipped number (35 ∷ 10 ∷ later) (35 ∷ []) later (lines_fed (35 ∷ []) later feedless_mark) comment_mark);
    }
shows_by false false bytes line after f e c h = absurd (not_both (is_readable line) h (rw (e, c) refl))

pub reads_line : (number : ℕ) (bytes text rest line after : List ℕ) → 0 < length rest → FirstLine rest line after → is_readable line ≡ true → Reads number bytes text rest
    → Reads number bytes (text ++ line_in_text line) after
reads_line number bytes text rest line after some f h r =
    let s = shows_by (is_utf8 line) (is_comment (trim_start_matches is_blank_or_return line)) rest line after f refl refl h in
    let one = one_plain r.next f.content in
    record {
      found = r.found ++ one;
      next = r.next + 1;
      in_file = r.in_file ∙ ap (λ ls. r.found ++ ls) (plain_first r.next rest f.content after f.whole) ∙ sym (append_assoc r.found one (plain_lines (r.next + 1) after));
      in_text = r.more some (line_in_text line) ∙ ap (λ ls. r.found ++ ls) (s.alone r.next);
      more = λ left later.
          ap (plain_lines number) (append_assoc text (line_in_text line) later) ∙ r.more some (line_in_text line ++ later)
          ∙ ap (λ ls. r.found ++ ls) (s.more left r.next later) ∙ sym (append_assoc r.found one (plain_lines (r.next + 1) later));
    }

-- if no bytes of the file are left, reading the text has the same results as reading the whole file
pub reads_all : (number : ℕ) (bytes text : List ℕ) → Reads number bytes text [] → StandFor false (logical_lines number text) (logical_lines number bytes)
unfolding logical_lines
reads_all number bytes text r =
    let same : plain_lines number text ≡ plain_lines number bytes =
    r.in_text ∙ sym (r.in_file ∙ ap (λ ls. r.found ++ ls) (plain_none r.next [] refl) ∙ append-nil r.found) in
    rw same (reads_same (map joined_line (groups (plain_lines number bytes))))

cut_parallel : (bad : Line) (shown file : List Group) → Parallel bad shown file → is_utf8 bad.text ≡ false → StandFor true (map joined_line shown) (map joined_line file)
cut_parallel bad shown file p e =
    let text = trim_matches is_blank_or_return (joined_line p.real).text in
    let broken : reason_at (joined_line p.real) ≡ Some NotUtf8 =
    unclean text (unclean_utf8 text (λ h. not_both (is_utf8 bad.text) (is_utf8-from_IsUtf8 bad.text (p.utf8 (utf8_untrimmed (joined_line p.real).text h))) e)) in
    rw (p.is_shown, p.is_file, map-append, map-append) (stops_cut (map joined_line p.front) (joined_line p.stand) (joined_line p.real) (map joined_line p.after) p.same_number broken)

plain_mark : (number : ℕ) → plain_lines number (63 ∷ []) ≡ record { number = number; text = 63 ∷ [] } ∷ []
unfolding trim_start_matches
plain_mark number = plain_only number (63 ∷ []) (63 ∷ []) (some_line (63 ∷ []) (omega arith))

cut_by : (utf8 comment : Bool) (number : ℕ) (bytes text rest line after : List ℕ) (f : FirstLine rest line after) → is_utf8 line ≡ utf8 → is_comment (trim_start_matches is_blank_or_return line) ≡ comment
    → is_readable line ≡ false → 0 < length rest → Reads number bytes text rest → StandFor true (logical_lines number (text ++ line_in_text line)) (logical_lines number bytes)
unfolding logical_lines
cut_by true comment number bytes text rest line after f e c h some r = absurd (not_both (is_readable line) (rw e refl) h)
cut_by false true number bytes text rest line after f e c h some r = absurd (not_both (is_readable line) (rw (e, c) refl) h)
cut_by false false number bytes text rest line after f e c h some r =
    let stand : Line = record { number = r.next; text = 63 ∷ [] } in
    let bad : Line = record { number = r.next; text = trim_start_matches is_blank_or_return f.content } in
    let mark : line_in_text line ≡ 63 ∷ [] = rw (e, c) refl in
    let plain : is_comment (trim_start_matches is_blank_or_return f.content) ≡ false =
    sym (comment_ended f.content f.ending f.is_end) ∙ ap (λ bs. is_comment (trim_start_matches is_blank_or_return bs)) (sym f.divided) ∙ c in
    let not_text : is_utf8 bad.text ≡ false =
    not_utf8 bad.text (λ u. not_both (is_utf8 line)
    (is_utf8-from_IsUtf8 line (subst IsUtf8 (sym f.divided) (IsUtf8-append f.content f.ending (utf8_indented f.content u) (end_utf8 f.ending f.is_end)))) e) in
    let shown : plain_lines number (text ++ line_in_text line) ≡ r.found ++ stand ∷ [] =
    ap (λ bs. plain_lines number (text ++ bs)) mark ∙ r.more some (63 ∷ []) ∙ ap (λ ls. r.found ++ ls) (plain_mark r.next) in
    let here : plain_lines r.next rest ≡ bad ∷ plain_lines (r.next + 1) after = plain_here r.next rest f.content after f.whole plain in
    let file : plain_lines number bytes ≡ r.found ++ bad ∷ plain_lines (r.next + 1) after = r.in_file ∙ ap (λ ls. r.found ++ ls) here in
    rw (shown, file) (cut_parallel bad _ _ (parallel r.found stand bad (plain_lines (r.next + 1) after) refl) not_text)

-- if the text is cut at a line that isn't UTF-8, reading it has the same results as reading the whole file
pub reads_cut : (number : ℕ) (bytes text rest line after : List ℕ) → 0 < length rest → FirstLine rest line after → is_readable line ≡ false → Reads number bytes text rest
    → StandFor true (logical_lines number (text ++ line_in_text line)) (logical_lines number bytes)
reads_cut number bytes text rest line after some f h r =
    cut_by (is_utf8 line) (is_comment (trim_start_matches is_blank_or_return line)) number bytes text rest line after f refl refl h some r
