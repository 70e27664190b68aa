-- Parsing of one part of a component, and checks of its values: systemd.time(7), Calendar Events. The text is split
-- into symbols, which are then parsed from left to right.
use Rattle.std.specs.Prelude.{ℕ, ◌+◌, ◌==◌, nat_lt, nat_le, Bool, true, false, not, ◌&&◌, if◌then◌else◌, List, [], ◌∷◌, Option, None, Some, Result, Ok, Err}
use Rattle.std.specs.Char.{is_ascii_digit}
use Rattle.std.specs.Str.Parse.{digits_value}
use Rattle.cal_bytes.specs.rules.AndThen.{◌>>=◌}
use Rattle.cal_spec.specs.rules.Slot.{least, greatest, max_number}
use Rattle.cal_spec.specs.declared.field.Part.{Part}
use Rattle.cal_spec.specs.declared.slot.Slot.{Slot}
use Rattle.cal_spec.specs.declared.slot.Slot.TheVariants.{DayFromEnd, Hour, Minute, Second}
use Rattle.cal_spec.specs.declared.spec_fault.SpecFault.{SpecFault}
use Rattle.cal_spec.specs.declared.spec_fault.SpecFault.TheVariants.{BadDate, BadTime, FractionalSecond, NumberTooLarge, OutOfField, BackwardRange, ZeroRepeat, NoRepeat}
use Rattle.cal_bytes.specs.rules.Separators.{is_point, is_slash}

-- ## Kinds of slots

-- whether the slot is the hour, the minute or the second
abbrev pub is_time : Slot → Bool
is_time Hour = true
is_time Minute = true
is_time Second = true
is_time slot = false

abbrev pub is_second : Slot → Bool
is_second Second = true
is_second slot = false

abbrev pub is_from_end : Slot → Bool
is_from_end DayFromEnd = true
is_from_end slot = false

-- the error for a part with wrong syntax in this slot
abbrev pub bad : Slot → SpecFault
bad slot = if is_time slot then BadTime else BadDate

-- ## Splitting a text into symbols

-- a symbol: a maximal run of digits, two dots, a slash, a single dot, or any other byte
pub data Symbol : Type 0 where
  digits : List ℕ → Symbol
  dots : Symbol
  slash : Symbol
  point : Symbol
  other : ℕ → Symbol

-- puts a digit before symbols; if the first symbol is a run of digits, the digit becomes the first of this run
abbrev pub with_digit : ℕ → List Symbol → List Symbol
with_digit b (digits ds ∷ ss) = digits (b ∷ ds) ∷ ss
with_digit b ss = digits (b ∷ []) ∷ ss

-- the symbol of a byte that is not a digit
abbrev pub lone : ℕ → Symbol
lone b = if is_point b then point else (if is_slash b then slash else other b)

abbrev pub with_byte : ℕ → List Symbol → List Symbol
with_byte b ss = if is_ascii_digit b then with_digit b ss else lone b ∷ ss

-- splits a text into symbols; two consecutive dots are one symbol, and they are paired from the left, so `...` is
-- `..` and then `.`
abbrev pub symbols : List ℕ → List Symbol
symbols [] = []
symbols (b ∷ []) = with_byte b []
symbols (b ∷ c ∷ bs) = if is_point b && is_point c then dots ∷ symbols bs else with_byte b (symbols (c ∷ bs))

-- ## Parsing the symbols of a part: `a`, `a/r`, `a..b` or `a..b/r`

abbrev pub starts_with_point : List Symbol → Bool
starts_with_point (point ∷ ss) = true
starts_with_point ss = false

-- the result of parsing a number: its value, and the symbols after it
pub record Counted : Type 0 where
  pub number : ℕ
  pub after : List Symbol

-- checks that a number is at most `max_number` and, for seconds, that no fraction follows
abbrev pub after_number : Slot → ℕ → List Symbol → Result Counted SpecFault
after_number slot n ss =
    if nat_lt max_number n then Err NumberTooLarge
    else (if is_second slot && starts_with_point ss then Err FractionalSecond
    else Ok (record { number = n; after = ss }))

-- parses a number at the start of the symbols
abbrev pub number_due : Slot → List Symbol → Result Counted SpecFault
number_due slot (digits ds ∷ ss) = after_number slot (digits_value 10 ds) ss
number_due slot ss = Err (bad slot)

abbrev pub part_at_end : Slot → Part → List Symbol → Result Part SpecFault
part_at_end slot p [] = Ok p
part_at_end slot p ss = Err (bad slot)

-- parses the step that follows the slash of a part; nothing may follow the step
unfoldable pub with_step : Slot → ℕ → Option ℕ → List Symbol → Result Part SpecFault
with_step slot a last ss =
    number_due slot ss >>= λ r. part_at_end slot (record { start = a; end = last; step = Some r.number }) r.after

-- parses what follows the end of a range
unfoldable pub after_end : Slot → ℕ → ℕ → List Symbol → Result Part SpecFault
after_end slot a b [] = Ok (record { start = a; end = Some b; step = None })
after_end slot a b (slash ∷ ss) = with_step slot a (Some b) ss
after_end slot a b ss = Err (bad slot)

-- parses what follows the first number of a part
unfoldable pub after_start : Slot → ℕ → List Symbol → Result Part SpecFault
after_start slot a [] = Ok (record { start = a; end = None; step = None })
after_start slot a (dots ∷ ss) = number_due slot ss >>= λ b. after_end slot a b.number b.after
after_start slot a (slash ∷ ss) = with_step slot a None ss
after_start slot a ss = Err (bad slot)

-- parses a part, or fails with the first error of its syntax
unfoldable pub part_of : Slot → List ℕ → Result Part SpecFault
part_of slot text = number_due slot (symbols text) >>= λ a. after_start slot a.number a.after

-- ## Checking the values of a part

abbrev pub is_within : Slot → ℕ → Bool
is_within slot n = nat_le (least slot) n && nat_le n (greatest slot)

-- whether the start or the end of a part is a number that the slot doesn't allow
abbrev pub is_outside : Slot → ℕ → Option ℕ → Bool
is_outside slot a None = not (is_within slot a)
is_outside slot a (Some b) = not (is_within slot a && is_within slot b)

-- whether a range ends below its start
abbrev pub is_backward : ℕ → Option ℕ → Bool
is_backward a None = false
is_backward a (Some b) = nat_lt b a

abbrev pub is_zero : Option ℕ → Bool
is_zero None = false
is_zero (Some r) = r == 0

-- whether a part is an open-ended repetition, `a/r`, that doesn't reach a second number
abbrev pub reaches_no_further_value : Slot → ℕ → Option ℕ → Option ℕ → Bool
reaches_no_further_value slot a None (Some r) = if is_from_end slot then nat_le a r else nat_lt (greatest slot) (a + r)
reaches_no_further_value slot a last step = false

-- the first error in the part's values, if there is one
unfoldable pub fault_of : Slot → Part → Option SpecFault
fault_of slot p =
    if is_outside slot p.start p.end then Some OutOfField
    else (if is_backward p.start p.end then Some BackwardRange
    else (if is_zero p.step then Some ZeroRepeat
    else (if reaches_no_further_value slot p.start p.end p.step then Some NoRepeat else None)))
