-- Parsing the words of a printed instant: the name of its weekday, and its date and time in padded numbers.
use Rattle.std.proofs.Common.{◌≡◌, ℕ, ◌+◌, ◌-◌, ◌*◌, ◌^◌, ◌<◌, ◌≤◌, Bool, true, false, ◌&&◌, List, [], ◌∷◌, ◌++◌, length, get_or, decimal, nat_eq, nat_le, Some, Ok, Err, refl, ap, ◌∙◌, arith, inl, inr, length-append, le-leb, slice_index_or, unsigned_abs, ℤ, pos, negsuc, ◌≤ℤ◌}
use Rattle.std.specs.Char.{is_ascii_digit}
use Rattle.std.specs.List.{list_any, slice_split}
use Rattle.std.proofs.lemmas.Bool.{cases_lt, eqb-true, or_from, lt-leb}
use Rattle.std.proofs.lemmas.Bool.Decides.{nat_tests}
use Rattle.std.proofs.lemmas.Fmt.{length-decimal-le}
use Rattle.std.proofs.lemmas.List.{length-replicate}
use Rattle.jiff.proofs.SpanFacts.{signed_arith}
use Rattle.jiff.specs.Types.{Date, Weekday}
use Rattle.jiff.specs.Words.{epoch_day, monday_zero, month_length, IsBetween, IsYear}
use Rattle.jiff_core.proofs.CalendarLemmas.{days_in_month_bounds}
use Rattle.jiff_core.specs.declared.civil.weekday.Weekday.TheVariants.{Monday, Sunday}
use Rattle.cal_bytes.specs.rules.Separators.{is_point, is_colon, is_blank}
use Rattle.cal_civil.specs.rules.OffsetText.{zeros}
use Rattle.cal_civil.specs.rules.Weekday.{name_of, short_name_of, week}
use Rattle.cal_civil.specs.rules.ZoneName.{begins_with_letter}
use Rattle.cal_spec.specs.rules.WeekdayNames.{day_named}
use Rattle.cal_bytes.proofs.General.{below_all, some_front, IsClear, Apart, clear_of, split_alone, split_at}
use Rattle.cal_spec.proofs.ReadBackParts.{century_stays, number_printed, padded}
use Rattle.cal_spec.specs.rules.GrammarRule.{IsNumber}
use Rattle.cal_stamp.proofs.StampCivilRuleLemmas.{digit_first, digit_no_colon}
use Rattle.cal_stamp.specs.rules.StampTime.{begins_with_digit, clock_number, second_of_pieces, second_written, micros_due, time_numbers, time_of_pieces, time_written}
use Rattle.cal_stamp.specs.rules.StampDate.{date_numbers, date_of_pieces, day_due, day_of_date, day_written, digits_number, is_hyphen}
use Rattle.cal_stamp.specs.declared.fault.StampFault.TheVariants.{NoSuchDate}
use Rattle.cal_spec.proofs.SymbolLemmas.{digit_no_point}
use Rattle.std.proofs.lemmas.List.Folds.{list_any-append}

clear_append : (p : ℕ → Bool) (xs ys : List ℕ) → IsClear p xs → IsClear p ys → IsClear p (xs ++ ys)
clear_append p xs ys first second = list_any-append p xs ys ∙ or_from (list_any p xs) (list_any p ys) first second

-- ## Numbers

-- `ds` is a list of 1 to `width` digits that stand for the number `n`
record IsPrinted (width n : ℕ) (ds : List ℕ) : Type 0 where
  number : IsNumber ds n
  short : length ds ≤ width

printed : (width n : ℕ) → 0 < width → width ≤ 4 → n < 10 ^ width → n < 10_000 → IsPrinted width n (padded width n)
printed width n some narrow few small =
    let most = length-decimal-le width n some few (omega arith) in
    let long : length (padded width n) ≡ width - length (decimal n) + length (decimal n) = length-append (zeros width n) (decimal n) ∙ ap (λ m. m + length (decimal n)) (length-replicate (width - length (decimal n)) 48) in
    record { number = number_printed width n small; short = omega arith }

-- `IsPrinted` holds for a number below 10,000 that is padded to four digits, and for a number below 100 that is padded
-- to two digits
in_four : (n : ℕ) → n < 10_000 → IsPrinted 4 n (padded 4 n)
in_four n small = printed 4 n (omega arith) (omega arith) (omega arith) small

in_two : (n : ℕ) → n < 100 → IsPrinted 2 n (padded 2 n)
in_two n small = printed 2 n (omega arith) (omega arith) (omega arith) (omega arith)

-- for 1 to `width` digits that stand for `n`, `digits_number` returns `n`; so does `clock_number` if there are at most
-- two digits and `n` is at most `greatest`
digits_read : (width n : ℕ) (ds : List ℕ) → IsPrinted width n ds → digits_number width ds ≡ Some n
unfolding digits_number
digits_read width n ds h =
    rw (le-leb 1 (length ds) h.number.some, le-leb (length ds) width h.short, h.number.digits) (ap Some h.number.value)

clock_read : (greatest n : ℕ) (ds : List ℕ) → IsPrinted 2 n ds → n ≤ greatest → clock_number greatest ds ≡ Some n
unfolding clock_number
clock_read greatest n ds h most = rw (digits_read 2 n ds h, le-leb n greatest most) refl

-- a digit is neither a hyphen nor a blank
digit_no_hyphen : (b : ℕ) → is_ascii_digit b ≡ true → is_hyphen b ≡ false
digit_no_hyphen b h = grind (arith, nat_tests)

digit_no_blank : (b : ℕ) → is_ascii_digit b ≡ true → is_blank b ≡ false
digit_no_blank b h = grind (arith, nat_tests)

-- ## Three numbers with the byte `sign` between them

abbrev row : ℕ → List ℕ → List ℕ → List ℕ → List ℕ
row sign a b c = a ++ (sign ∷ (b ++ (sign ∷ c)))

row_clear : (p : ℕ → Bool) (sign : ℕ) (a b c : List ℕ) → p sign ≡ false → IsClear p a → IsClear p b → IsClear p c → IsClear p (row sign a b c)
row_clear p sign a b c apart first second third =
    clear_append p a (sign ∷ (b ++ (sign ∷ c))) first (or_from _ _ apart (clear_append p b (sign ∷ c) second (or_from _ _ apart third)))

row_split : (p : ℕ → Bool) (sign : ℕ) (a b c : List ℕ) → p sign ≡ true → IsClear p a → IsClear p b → IsClear p c → slice_split p (row sign a b c) ≡ a ∷ b ∷ c ∷ []
row_split p sign a b c is first second third =
    split_at p a sign (b ++ (sign ∷ c)) first is
    ∙ ap (λ ts. a ∷ ts) (split_at p b sign c second is ∙ ap (λ ts. b ∷ ts) (split_alone p c third))

-- ## The date

abbrev pub date_word : ℕ → ℕ → ℕ → List ℕ
date_word year month day = row 45 (padded 4 year) (padded 2 month) (padded 2 day)

-- a year of at most four digits, and a month and a day of at most two digits each
record IsWritable (year month day : ℕ) : Type 0 where
  year_in : year < 10_000
  month_in : month < 100
  day_in : day < 100

date_clear : (p : ℕ → Bool) (year month day : ℕ) → IsWritable year month day → Apart is_ascii_digit p → p 45 ≡ false → IsClear p (date_word year month day)
date_clear p year month day h apart sign =
    row_clear p 45 (padded 4 year) (padded 2 month) (padded 2 day) sign
    (clear_of is_ascii_digit p (padded 4 year) apart (in_four year h.year_in).number.digits)
    (clear_of is_ascii_digit p (padded 2 month) apart (in_two month h.month_in).number.digits)
    (clear_of is_ascii_digit p (padded 2 day) apart (in_two day h.day_in).number.digits)

date_numbers_back : (year month day : ℕ) → IsWritable year month day → date_numbers (date_word year month day) ≡ Some (record { year = year; month = month; day = day })
unfolding date_numbers
date_numbers_back year month day h =
    let y = in_four year h.year_in in
    let m = in_two month h.month_in in
    let d = in_two day h.day_in in
    ap date_of_pieces (row_split is_hyphen 45 (padded 4 year) (padded 2 month) (padded 2 day) refl
    (clear_of is_ascii_digit is_hyphen (padded 4 year) digit_no_hyphen y.number.digits)
    (clear_of is_ascii_digit is_hyphen (padded 2 month) digit_no_hyphen m.number.digits)
    (clear_of is_ascii_digit is_hyphen (padded 2 day) digit_no_hyphen d.number.digits))
    ∙ rw (digits_read 4 year (padded 4 year) y, digits_read 2 month (padded 2 month) m, digits_read 2 day (padded 2 day) d) refl

-- The next two lemmas: the tests of `is_day` succeed if the year is from 1970 to 2199, the month from 1 to 12, and the
-- day from 1 to `most`, the length of the month. They fail if the year isn't from 1970 to 2199.
day_tests : (year month day most : ℕ) → 1_970 ≤ year → year ≤ 2_199 → 1 ≤ month → month ≤ 12 → 1 ≤ day → day ≤ most
    → (nat_le 1_970 year && nat_le year 2_199 && nat_le 1 month && nat_le month 12 && nat_le 1 day && nat_le day most) ≡ true
day_tests year month day most from to first last one within =
    rw (le-leb 1_970 year from, le-leb year 2_199 to, le-leb 1 month first, le-leb month 12 last, le-leb 1 day one, le-leb day most within) refl

other_tests : (year month day most : ℕ) → (1_970 ≤ year → year ≤ 2_199 → ⊥)
    → (nat_le 1_970 year && nat_le year 2_199 && nat_le 1 month && nat_le month 12 && nat_le 1 day && nat_le day most) ≡ false
other_tests year month day most none =
    elim (cases_lt year 1_970) [
      | inl early ↦ rw (lt-leb 1_970 year early) refl
      | inr from ↦ elim (cases_lt 2_199 year) [ inl late ↦ rw (le-leb 1_970 year from, lt-leb year 2_199 late) refl | inr to ↦ absurd (none from to) ]
    ]

abbrev pub year_of : Date → ℕ
year_of date = unsigned_abs date.year

year_is : (year : ℤ) → pos 1_969 ≤ℤ year → pos (unsigned_abs year) ≡ year
year_is (pos n) from = refl
year_is (negsuc n) from = absurd (omega (arith, signed_arith))

year_below : (year : ℤ) → IsYear year → unsigned_abs year < 10_000
year_below (pos n) h = omega (arith, signed_arith, h.1)
year_below (negsuc n) h = omega (arith, signed_arith, h.0)

writable : (date : Date) → IsWritable (year_of date) date.month date.day
writable date =
    let bounds = days_in_month_bounds date.year date.month in
    record {
      year_in = year_below date.year date.year_in;
      month_in = omega (arith, date.month_in.1);
      day_in = omega (arith, date.day_in.1, bounds);
    }

due : (date : Date) → pos 1_969 ≤ℤ date.year → day_written (date_word (year_of date) date.month date.day) ≡ day_of_date (year_of date) date.month date.day
unfolding day_written
due date from =
    ap day_due (date_numbers_back (year_of date) date.month date.day (writable date))
    ∙ ap (λ y. day_of_date y date.month date.day) (century_stays (year_of date) (omega (arith, signed_arith, year_is date.year from)))

-- The next two lemmas: if the year is from 1970 to 2199, parsing a printed date gives its day number. If the year is
-- 1969, or 2200 or later, parsing fails with `NoSuchDate`.
pub date_back : (date : Date) → IsBetween (pos 1_970) (pos 2_199) date.year → day_written (date_word (year_of date) date.month date.day) ≡ Ok (epoch_day date)
unfolding day_of_date
date_back date h =
    let from : pos 1_969 ≤ℤ date.year = omega (arith, signed_arith, h.0) in
    let same = year_is date.year from in
    due date from
    ∙ rw (same, day_tests (year_of date) date.month date.day (month_length date) (omega (arith, signed_arith, same, h.0)) (omega (arith, signed_arith, same, h.1)) date.month_in.0 date.month_in.1 date.day_in.0 date.day_in.1) refl

pub other_date_back : (date : Date) → pos 1_969 ≤ℤ date.year → (IsBetween (pos 1_970) (pos 2_199) date.year → ⊥) → day_written (date_word (year_of date) date.month date.day) ≡ Err NoSuchDate
unfolding day_of_date
other_date_back date from none =
    let same = year_is date.year from in
    due date from
    ∙ rw (same, other_tests (year_of date) date.month date.day (month_length date) (λ low high. none (omega (arith, signed_arith, same, low), omega (arith, signed_arith, same, high)))) refl

-- ## The time

abbrev pub time_word : ℕ → ℕ → ℕ → List ℕ
time_word hour minute second = row 58 (padded 2 hour) (padded 2 minute) (padded 2 second)

pub record IsClock (hour minute second : ℕ) : Type 0 where
  pub hour_in : hour ≤ 23
  pub minute_in : minute ≤ 59
  pub second_in : second ≤ 59

time_clear : (p : ℕ → Bool) (hour minute second : ℕ) → IsClock hour minute second → Apart is_ascii_digit p → p 58 ≡ false → IsClear p (time_word hour minute second)
time_clear p hour minute second h apart sign =
    row_clear p 58 (padded 2 hour) (padded 2 minute) (padded 2 second) sign
    (clear_of is_ascii_digit p (padded 2 hour) apart (in_two hour (omega (arith, h.hour_in))).number.digits)
    (clear_of is_ascii_digit p (padded 2 minute) apart (in_two minute (omega (arith, h.minute_in))).number.digits)
    (clear_of is_ascii_digit p (padded 2 second) apart (in_two second (omega (arith, h.second_in))).number.digits)

pub time_digit : (hour minute second : ℕ) → IsClock hour minute second → begins_with_digit (time_word hour minute second) ≡ true
time_digit hour minute second h =
    let digits = in_two hour (omega (arith, h.hour_in)) in
    digit_first (padded 2 hour) (58 ∷ (padded 2 minute ++ (58 ∷ padded 2 second))) (record { some = digits.number.some; digits = digits.number.digits })

second_back : (second : ℕ) → second ≤ 59 → second_written (padded 2 second) ≡ Some (second * 1_000_000 + 0)
unfolding second_written
second_back second h =
    let digits = in_two second (omega (arith, h)) in
    ap second_of_pieces (split_alone is_point (padded 2 second) (clear_of is_ascii_digit is_point (padded 2 second) digit_no_point digits.number.digits))
    ∙ rw (clock_read 59 second (padded 2 second) digits h) refl

-- parsing a printed time gives its microseconds after midnight
pub time_back : (hour minute second : ℕ) → IsClock hour minute second
    → time_written (time_word hour minute second) ≡ Ok ((hour * 3_600 + minute * 60) * 1_000_000 + (second * 1_000_000 + 0))
unfolding time_written time_numbers
time_back hour minute second h =
    let a = in_two hour (omega (arith, h.hour_in)) in
    let b = in_two minute (omega (arith, h.minute_in)) in
    let c = in_two second (omega (arith, h.second_in)) in
    ap (λ ts. micros_due (time_of_pieces ts)) (row_split is_colon 58 (padded 2 hour) (padded 2 minute) (padded 2 second) refl
    (clear_of is_ascii_digit is_colon (padded 2 hour) digit_no_colon a.number.digits)
    (clear_of is_ascii_digit is_colon (padded 2 minute) digit_no_colon b.number.digits)
    (clear_of is_ascii_digit is_colon (padded 2 second) digit_no_colon c.number.digits))
    ∙ rw (clock_read 23 hour (padded 2 hour) a h.hour_in, clock_read 59 minute (padded 2 minute) b h.minute_in, second_back second h.second_in) refl

-- neither a printed date nor a printed time is empty or contains a blank, and a printed date contains no colon
pub date_solid : (date : Date) → list_any is_blank (date_word (year_of date) date.month date.day) ≡ false
date_solid date =
    date_clear is_blank (year_of date) date.month date.day (writable date) digit_no_blank refl

pub date_no_colon : (date : Date) → list_any is_colon (date_word (year_of date) date.month date.day) ≡ false
date_no_colon date =
    date_clear is_colon (year_of date) date.month date.day (writable date) digit_no_colon refl

pub time_solid : (hour minute second : ℕ) → IsClock hour minute second → list_any is_blank (time_word hour minute second) ≡ false
time_solid hour minute second h =
    time_clear is_blank hour minute second h digit_no_blank refl

pub date_some : (date : Date) → 0 < length (date_word (year_of date) date.month date.day)
date_some date =
    some_front (padded 4 (year_of date)) (45 ∷ (padded 2 date.month ++ (45 ∷ padded 2 date.day))) (in_four (year_of date) (writable date).year_in).number.some

pub time_some : (hour minute second : ℕ) → IsClock hour minute second → 0 < length (time_word hour minute second)
time_some hour minute second h =
    some_front (padded 2 hour) (58 ∷ (padded 2 minute ++ (58 ∷ padded 2 second))) (in_two hour (omega (arith, h.hour_in))).number.some

-- ## The weekday

-- `name` has three bytes, begins with a letter, contains no blank, and is parsed as the weekday `day`
pub record IsDayName (day : Weekday) (name : List ℕ) : Type 0 where
  pub long : length name ≡ 3
  pub capital : nat_le 65 (get_or name 0 0) ≡ true
  pub letter : begins_with_letter name ≡ true
  pub solid : list_any is_blank name ≡ false
  pub named : day_named name ≡ Some day

pub short_names : (day : Weekday) → IsDayName day (short_name_of day)
unfolding name_of day_named
short_names Monday = record { long = refl; capital = refl; letter = refl; solid = refl; named = refl }
short_names day = record { long = refl; capital = refl; letter = refl; solid = refl; named = refl }

-- the weekday at the index `n` of `week` has the number `n`, counting from Monday as 0
pub in_week : (n : ℕ) → n < 7 → monday_zero (slice_index_or week n Sunday) ≡ n
in_week n h = eqb-true _ n (below_all 7 (λ day. nat_eq (monday_zero (slice_index_or week day Sunday)) day) n refl h)
