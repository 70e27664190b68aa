-- The columns at which problems begin. A column is the number of a byte, counted from 1, in the first physical line of
-- a logical line.
use Rattle.std.specs.Prelude.{ℕ, ◌+◌, ◌-◌, ◌==◌, nat_eq, Bool, not, ◌&&◌, ◌||◌, if◌then◌else◌, List, [], drop, filter, is_ok, length, slice_get, slice_index, take, Option, None, unwrap_or}
use Rattle.std.specs.List.{after_last, find, last_or, position_or_len, prefix_len, range_with_len, starts_with}
use Rattle.std.specs.Option.{option_map_or}
use Rattle.cal_bytes.specs.rules.Separators.{is_blank}
use Rattle.cal_bytes.specs.rules.Trim.{trim_end_matches}
use Rattle.cal_spec.specs.computed.Expr.{expr_in}
use Rattle.cal_timer.specs.rules.Assignments.{assignment_of}
use Rattle.cal_timer.specs.rules.Lines.{Line, is_blank_or_return}
use Rattle.cal_lint.specs.declared.ambiguities.Ambiguity.{Ambiguity}
use Rattle.cal_lint.specs.declared.ambiguities.Ambiguity.TheVariants.{HourRange, HourList, MonthDay, Abbreviation}
use Rattle.cal_lint.specs.declared.problems.Problem.{Problem}
use Rattle.cal_lint.specs.declared.problems.Problem.TheVariants.{Invalid, NoInstanceFits, UnknownKey, Rejected, Ambiguous, BadHeader, UnknownSection, OutsideSection, NoEquals, NoKey, BadUnitName, IgnoredValue, OpenStep}

-- the physical line with this number, counted from 1, or an empty text if there are fewer lines
abbrev pub physical_line : List (List ℕ) → ℕ → List ℕ
physical_line lines number = unwrap_or (slice_get lines (number - 1)) []

-- the column of the first byte after the leading blanks of a line
abbrev pub first_column : List ℕ → ℕ
first_column line = prefix_len is_blank_or_return line + 1

-- the byte of the line, counted from 0, at which the last occurrence of `value` begins; None if the line doesn't
-- contain all of `value`
abbrev pub last_place : List ℕ → List ℕ → Option ℕ
last_place line value = last_or None (filter (λ i. starts_with nat_eq (drop i line) value) (range_with_len 0 (length line + 1)))

-- the column of the byte that is `index` bytes after the start of `value`; 1 if the line doesn't contain all of
-- `value`, which happens only if the line is continued
unfoldable pub value_column : List ℕ → List ℕ → ℕ → ℕ
value_column line value index = option_map_or (λ start. start + index + 1) (last_place line value) 1

-- whether a word begins at this byte: it is not a blank, and it is the first byte or follows a blank
abbrev pub begins_word : List ℕ → ℕ → Bool
begins_word text i = not (is_blank (slice_index text i)) && ((i == 0) || is_blank (slice_index text (i - 1)))

-- the end of the word that begins at this byte: the next blank, or the end of the text
abbrev pub word_end : List ℕ → ℕ → ℕ
word_end text i = i + position_or_len is_blank (drop i text)

-- whether a word begins at this byte, and the text up to the end of the word is not a valid expression
abbrev pub is_rejected_at : List ℕ → ℕ → Bool
is_rejected_at text i = begins_word text i && not (is_ok (expr_in (take (word_end text i) text)))

-- whether the text without its trailing blanks is empty or a valid expression; then no word of it is at fault
abbrev pub has_no_fault : List ℕ → Bool
has_no_fault trimmed = (length trimmed == 0) || is_ok (expr_in trimmed)

-- the first byte of the word at fault, counted from 0, or 0 if no word is at fault: the word at fault is the first one
-- up to whose end the text is not a valid expression
unfoldable pub fault_start : List ℕ → ℕ
fault_start text =
    if has_no_fault (trim_end_matches is_blank text) then 0
    else unwrap_or (find (is_rejected_at text) (range_with_len 0 (length text))) 0

-- the first byte of the last word of a text, counted from 0; the text doesn't end with a blank
abbrev pub last_word_start : List ℕ → ℕ
last_word_start text = length text - length (after_last is_blank text)

-- the first byte of the abbreviation, counted from 0, if the ambiguity is about one, and otherwise 0: the abbreviation is
-- the last word of the value
unfoldable pub ambiguity_start : Ambiguity → List ℕ → ℕ
ambiguity_start HourRange value = 0
ambiguity_start HourList value = 0
ambiguity_start MonthDay value = 0
ambiguity_start Abbreviation value = last_word_start (trim_end_matches is_blank value)

-- the column at which a problem begins, given the physical line and the value in it: at the word at fault, at the
-- abbreviation, or at the value; problems of a key, a header or a whole line begin after the leading blanks
abbrev pub column_of : List ℕ → List ℕ → Problem → ℕ
column_of line value (Invalid fault) = value_column line value (fault_start value)
column_of line value NoInstanceFits = value_column line value 0
column_of line value (UnknownKey section) = first_column line
column_of line value (Rejected rejection) = value_column line value 0
column_of line value (Ambiguous ambiguity) = value_column line value (ambiguity_start ambiguity value)
column_of line value BadHeader = first_column line
column_of line value UnknownSection = first_column line
column_of line value OutsideSection = first_column line
column_of line value NoEquals = first_column line
column_of line value NoKey = first_column line
column_of line value BadUnitName = value_column line value 0
column_of line value (IgnoredValue kind) = value_column line value 0
column_of line value (OpenStep flaw) = value_column line value 0

-- the value of the assignment in a logical line, or an empty text if the line has none
abbrev pub value_in : Line → List ℕ
value_in line = option_map_or (λ a. a.value) (assignment_of line) []
