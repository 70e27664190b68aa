-- What systemd 252 rejects in calendar expressions that are valid here: systemd.time(7), Calendar Events, and "What is
-- accepted" in docs/DIFFERENCES.md. The definitions are only about valid expressions.
use Rattle.std.specs.Prelude.{◌≡◌, ℕ, ◌-◌, ◌==◌, nat_le, nat_lt, Bool, true, false, not, ◌&&◌, ◌||◌, List, [], ◌∷◌, take, drop, Option, None, Some, is_some, unwrap_or, Result, Ok}
use Rattle.std.specs.List.{after_first, find, list_all, list_any, prefix_len, slice_split}
use Rattle.std.specs.Option.{option_map_or}
use Rattle.std.specs.Char.{is_ascii_digit}
use Rattle.std.specs.Str.Parse.{digits_value}
use Rattle.jiff_core.specs.Weekday.{monday_zero}
use Rattle.cal_bytes.specs.rules.Separators.{is_colon, is_comma, words, is_slash}
use Rattle.cal_civil.specs.rules.OffsetWord.{begins_zone, begins_with_sign}
use Rattle.cal_civil.specs.rules.ZoneName.{begins_with_letter}
use Rattle.cal_spec.specs.rules.Slot.{max_number}
use Rattle.cal_spec.specs.computed.Expr.{expr_in}
use Rattle.cal_spec.specs.rules.Fields.{Fields}
use Rattle.cal_spec.specs.declared.field.Part.{Part}
use Rattle.cal_spec.specs.declared.spec_fault.SpecFault.{SpecFault}
use Rattle.cal_bytes.specs.rules.AndThen.{◌>>=◌}
use Rattle.cal_spec.specs.rules.WeekdayNames.{day_named, days_of, leading_letters}
use Rattle.cal_lint.specs.declared.older_systemd.Rejection.{Rejection}
use Rattle.cal_lint.specs.declared.older_systemd.Rejection.TheVariants.{Tab, Blanks, PastSunday, OneSecond, SecondStep, DaysFromEnd, Offset, ZoneName}

-- ## Blanks

-- Spaces divide an expression into pieces, and an empty piece stands for an additional space.

abbrev pub is_tab : ℕ → Bool
is_tab b = b == 9

abbrev pub is_space : ℕ → Bool
is_space b = b == 32

-- whether `word`, the first word of an expression, is a list of weekdays and not a shorthand
abbrev pub is_weekday_list : List ℕ → Bool
is_weekday_list word = is_some (day_named (leading_letters word))

-- whether a word of an expression is its date, and not a list of weekdays, a shorthand, a time or a zone
abbrev pub is_date : List ℕ → Bool
is_date word = not (begins_zone word) && not (list_any is_colon word)

-- whether one of the pieces after a word is an additional space that systemd 252 doesn't skip; `skips` says whether
-- systemd 252 skips additional spaces after this word
abbrev pub has_extra_after : Bool → List (List ℕ) → Bool
has_extra_after skips [] = false
has_extra_after skips ([] ∷ pieces) = not skips || has_extra_after skips pieces
has_extra_after skips ((b ∷ bs) ∷ pieces) = has_extra_after (is_date (b ∷ bs)) pieces

-- whether an expression has an additional space that systemd 252 doesn't skip: anywhere except after the weekdays or
-- after the date
abbrev pub has_extra : List (List ℕ) → Bool
has_extra [] = false
has_extra ([] ∷ pieces) = true
has_extra ((b ∷ bs) ∷ pieces) = has_extra_after (is_weekday_list (b ∷ bs) || is_date (b ∷ bs)) pieces

-- ## Weekdays

-- whether an item of a weekday list is a range that ends on an earlier day of the week than it begins
abbrev pub runs_past_sunday : List ℕ → Bool
runs_past_sunday item =
    option_map_or (λ days. nat_lt (monday_zero days.last) (monday_zero days.first)) (days_of item) false

-- ## Seconds

-- the seconds of a time: the text after its second colon, or nothing if there is no second colon
abbrev pub seconds_in : List ℕ → List ℕ
seconds_in word = after_first is_colon (after_first is_colon word)

abbrev pub leading_digits : List ℕ → List ℕ
leading_digits part = take (prefix_len is_ascii_digit part) part

abbrev pub after_digits : List ℕ → List ℕ
after_digits part = drop (prefix_len is_ascii_digit part) part

-- whether two texts of digits are the same number, and this number isn't above `max_number`, the greatest number that
-- may be written in an expression
abbrev pub are_equal : List ℕ → List ℕ → Bool
are_equal a b = (digits_value 10 a == digits_value 10 b) && nat_le (digits_value 10 a) max_number

-- whether the text is `..` and then a number equal to `a`
abbrev pub is_up_to : List ℕ → List ℕ → Bool
is_up_to a [] = false
is_up_to a (b ∷ []) = false
is_up_to a (b ∷ c ∷ last) = (b == 46) && (c == 46) && list_all is_ascii_digit last && are_equal a last

-- whether the part is a range without a step whose ends are equal
abbrev pub is_one_second : List ℕ → Bool
is_one_second part = is_up_to (leading_digits part) (after_digits part)

-- the greatest step that systemd 252 accepts in a range of seconds: converted to microseconds, a step has to fit into
-- 31 bits
abbrev pub max_second_step : ℕ
max_second_step = 2147

-- the step of a part, given the texts between its slashes: the second text, or nothing if there is only one
abbrev pub step_in : List (List ℕ) → List ℕ
step_in (start ∷ step ∷ texts) = step
step_in texts = []

abbrev pub is_above : ℕ → List ℕ → Bool
is_above bound digits = list_all is_ascii_digit digits && nat_lt bound (digits_value 10 digits)

-- whether the part has a step above `max_second_step`
abbrev pub has_large_step : List ℕ → Bool
has_large_step part = is_above max_second_step (step_in (slice_split is_slash part))

-- ## Days

-- the greatest number that is written in a part, besides the step: its end, or its start if it has no end
abbrev pub end_or_start : Part → ℕ
end_or_start p = unwrap_or p.end p.start

-- whether a part has a number above its bound: `greatest` for the first part, and 3 less for each further part. A month
-- can have three days less than 31, so the first bound is 28; systemd 252 subtracts 3 again for each further part.
abbrev pub has_late_part : ℕ → List Part → Bool
has_late_part greatest [] = false
has_late_part greatest (p ∷ ps) = nat_lt greatest (end_or_start p) || has_late_part (greatest - 3) ps

abbrev pub late_among : Option (List Part) → Bool
late_among None = false
late_among (Some ps) = has_late_part 28 ps

-- whether days are counted from the month's end, and one of their numbers is too large for its position in the normal
-- form
abbrev pub has_late_days : Fields → Bool
has_late_days f = f.from_end && late_among f.day

-- ## Zones

abbrev pub is_empty : List ℕ → Bool
is_empty [] = true
is_empty (b ∷ bs) = false

-- ## All reasons

-- whether this piece makes systemd 252 reject an expression for this reason; a piece is an item of a weekday list, a
-- part of the seconds, or one of the texts that slashes separate in a zone's name
abbrev pub piece_is_rejected_for : Rejection → List ℕ → Bool
piece_is_rejected_for PastSunday item = runs_past_sunday item
piece_is_rejected_for OneSecond part = is_one_second part
piece_is_rejected_for SecondStep part = has_large_step part
piece_is_rejected_for ZoneName name = is_empty name
piece_is_rejected_for rejection piece = false

abbrev pub has_weekday_wrap : List (List ℕ) → Bool
has_weekday_wrap [] = false
has_weekday_wrap (word ∷ ws) = list_any (piece_is_rejected_for PastSunday) (slice_split is_comma word)

-- whether the word is the name of a zone that ends in `/` or contains `//`
abbrev pub has_empty_part : List ℕ → Bool
has_empty_part word = begins_with_letter word && list_any (piece_is_rejected_for ZoneName) (slice_split is_slash word)

-- whether this word makes systemd 252 reject an expression for this reason
abbrev pub word_is_rejected_for : Rejection → List ℕ → Bool
word_is_rejected_for OneSecond word = list_any (piece_is_rejected_for OneSecond) (slice_split is_comma (seconds_in word))
word_is_rejected_for SecondStep word = list_any (piece_is_rejected_for SecondStep) (slice_split is_comma (seconds_in word))
word_is_rejected_for Offset word = begins_with_sign word
word_is_rejected_for ZoneName word = has_empty_part word
word_is_rejected_for rejection word = false

-- whether systemd 252 rejects, for this reason, the expression `text`, whose normal form has the fields `f`
abbrev pub is_rejected_for : List ℕ → Fields → Rejection → Bool
is_rejected_for text f Tab = list_any is_tab text
is_rejected_for text f Blanks = has_extra (slice_split is_space text)
is_rejected_for text f PastSunday = has_weekday_wrap (words text)
is_rejected_for text f DaysFromEnd = has_late_days f
is_rejected_for text f rejection = list_any (word_is_rejected_for rejection) (words text)

abbrev pub rejections : List Rejection
rejections = Tab ∷ Blanks ∷ PastSunday ∷ OneSecond ∷ SecondStep ∷ DaysFromEnd ∷ Offset ∷ ZoneName ∷ []

-- the first reason for which systemd 252 rejects an expression, or None if systemd 252 accepts the expression
abbrev pub first_rejection : List ℕ → Fields → Option Rejection
first_rejection text f = find (is_rejected_for text f) rejections

-- the first reason for which systemd 252 rejects a valid expression, or None if systemd 252 accepts it; for an invalid
-- expression, the error
unfoldable pub rejection_in : List ℕ → Result (Option Rejection) SpecFault
rejection_in text = expr_in text >>= λ f. Ok (first_rejection text f)

-- the expression `text` is valid here, and none of these rules says that systemd 252 rejects it
abbrev pub IsNotRejected : List ℕ → Type 0
IsNotRejected text = rejection_in text ≡ Ok None
