-- The characters of a time span, the pairs of a number and a unit in it, and the values of these pairs:
-- systemd.time(7), Parsing Time Spans.
use Rattle.std.specs.Prelude.{ℕ, ◌+◌, ◌*◌, ◌/◌, ◌^◌, ◌==◌, nat_le, Bool, true, false, ◌&&◌, ◌||◌, if◌then◌else◌, List, [], ◌∷◌, count_by, Option, Some, None, Result, Ok, Err}
use Rattle.std.specs.List.{list_any, list_all, find, before_first, after_first}
use Rattle.std.specs.Str.{bytes_eq}
use Rattle.std.specs.Char.{digit_value, is_ascii_digit, is_ascii_alphabetic}
use Rattle.std.specs.Str.Parse.{digits_value}
use Rattle.cal_bytes.specs.rules.Separators.{is_blank, is_point}
use Rattle.cal_span.specs.declared.time_unit.TimeUnit.{TimeUnit}
use Rattle.cal_span.specs.declared.time_unit.TimeUnit.TheVariants.{Second}
use Rattle.cal_span.specs.declared.span.fault.SpanFault.{SpanFault}
use Rattle.cal_span.specs.declared.span.fault.SpanFault.TheVariants.{BadNumber, UnknownUnit}
use Rattle.cal_span.specs.declared.span.word.CharKind.{CharKind}
use Rattle.cal_span.specs.declared.span.word.CharKind.TheVariants.{Blank, Numeric, Letter, Other}
use Rattle.cal_span.specs.rules.UnitSpellings.{spellings_of}
use Rattle.cal_span.specs.rules.TimeUnit.{size_of, all_units}

-- the longest time span, in microseconds
abbrev pub limit : ℕ
limit = 9223372036854775807

-- whether two bytes are the micro sign, U+00B5, or the Greek letter mu, U+03BC, in UTF-8
abbrev pub is_micro : ℕ → ℕ → Bool
is_micro b c = ((b == 194) && (c == 181)) || ((b == 206) && (c == 188))

-- the kind of a character that consists of this one byte
abbrev pub kind_of : ℕ → CharKind
kind_of b =
    if is_blank b then Blank
    else (if is_ascii_digit b || is_point b then Numeric
    else (if is_ascii_alphabetic b then Letter else Other))

-- whether two kinds are the same
abbrev pub is_kind : CharKind → CharKind → Bool
is_kind Blank Blank = true
is_kind Numeric Numeric = true
is_kind Letter Letter = true
is_kind Other Other = true
is_kind _ _ = false

-- one or more consecutive characters of one kind
pub record Piece : Type 0 where
  pub kind : CharKind
  pub text : List ℕ

-- the characters of a text: a micro sign or mu is a letter of two bytes, and every other byte is a character of its own
abbrev pub characters : List ℕ → List Piece
characters [] = []
characters (b ∷ []) = record { kind = kind_of b; text = b ∷ [] } ∷ []
characters (b ∷ c ∷ bytes) =
    if is_micro b c then record { kind = Letter; text = b ∷ c ∷ [] } ∷ characters bytes
    else record { kind = kind_of b; text = b ∷ [] } ∷ characters (c ∷ bytes)

-- a number, and its unit if it has one; `number` is empty if a word of another kind stands where a number is expected
pub record Pair : Type 0 where
  pub number : List ℕ
  pub unit : Option (List ℕ)

-- whether the bytes are digits with at most one decimal point, and at least one of them is a digit
unfoldable pub is_number : List ℕ → Bool
is_number number =
    list_all (λ b. is_ascii_digit b || is_point b) number && nat_le (count_by is_point number) 1 && list_any is_ascii_digit number

-- the unit with this spelling, or `None` if no unit has it
unfoldable pub unit_named : List ℕ → Option TimeUnit
unit_named word = find (λ unit. list_any (bytes_eq word) (spellings_of unit)) all_units

-- the unit of a pair, which is `Second` if none is given
abbrev pub unit_in : Option (List ℕ) → Option TimeUnit
unit_in None = Some Second
unit_in (Some word) = unit_named word

-- What the digits after a decimal point add to a number, given the size of its unit and the decimal place of the first
-- of these digits. Each digit is multiplied by the size and divided by 10 to the power of its place, and the quotient
-- is rounded down.
abbrev pub fraction_worth : ℕ → ℕ → List ℕ → ℕ
fraction_worth size place [] = 0
fraction_worth size place (digit ∷ digits) =
    digit_value digit * size / 10 ^ place + fraction_worth size (place + 1) digits

-- the value in microseconds of a number with these digits before and after its decimal point, in a unit of this size
abbrev pub digits_worth : List ℕ → List ℕ → ℕ → ℕ
digits_worth whole fraction size = digits_value 10 whole * size + fraction_worth size 1 fraction

-- the value in microseconds of a number in a unit of this size
unfoldable pub number_worth : List ℕ → ℕ → ℕ
number_worth number size =
    digits_worth (before_first is_point number) (after_first is_point number) size

-- the value in microseconds of a number in the given unit, or the error `UnknownUnit` if no unit was found (`None`)
abbrev pub worth_in : List ℕ → Option TimeUnit → Result ℕ SpanFault
worth_in number None = Err UnknownUnit
worth_in number (Some unit) = Ok (number_worth number (size_of unit))

-- the value of a pair in microseconds, or its error; the number is checked before the unit
unfoldable pub worth_of : Pair → Result ℕ SpanFault
worth_of p = if is_number p.number then worth_in p.number (unit_in p.unit) else Err BadNumber
