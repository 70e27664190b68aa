-- A word such as `+02:00` is parsed as the fixed UTC offset that it stands for, and an offset of whole minutes is
-- printed as such a word.
use Rattle.std.proofs.Common.{◌≡◌, ◌⊎◌, inl, inr, ℕ, zero, suc, ℤ, pos, negsuc, neg_ℤ, int_lt, if◌then◌else◌, append-nil, append_assoc, length-append, ◌+◌, ◌*◌, ◌/◌, ◌%◌, ◌<◌, ◌≤◌, Bool, true, false, ◌&&◌, ◌||◌, ◌==◌, cond, List, [], ◌∷◌, ◌++◌, length, codes, decimal, unsigned_abs, Option, None, Some, option_map, refl, arith, le-leb, leb-true}
use Rattle.std.specs.Char.{is_ascii_digit}
use Rattle.std.specs.Fmt.{digits}
use Rattle.std.specs.List.{list_all}
use Rattle.std.specs.Str.Parse.{digits_value}
use Rattle.std.proofs.lemmas.Bool.{and_parts, eqb-true, le-ltb}
use Rattle.std.proofs.lemmas.Bool.Decides.{nat_tests}
use Rattle.std.proofs.lemmas.Option.{cond_some}
use Rattle.jiff_core.proofs.SignedLemmas.{signed_arith}
use Rattle.cal_bytes.specs.rules.Bytes.{joined}
use Rattle.cal_civil.specs.rules.OffsetText.{offset_text, zeros}
use Rattle.cal_civil.specs.rules.OffsetWord.{AreWholeMinutes, AreTwoDigits, IsHourMinute, IsOffsetWord, begins_with_sign, is_sign}
use Rattle.cal_civil.specs.computed.ReadOffset.{hour_minute_seconds, hour_minute_in, offset_in, two_digits}
use Rattle.cal_bytes.proofs.General.{list_all-both, all_below, below_all}

-- ## Parsing two digits

two-found : (greatest a b n : ℕ) → two_digits greatest a b ≡ Some n → AreTwoDigits (a ∷ b ∷ []) n × (n ≤ greatest)
unfolding two_digits
two-found greatest a b n h = grind (arith, signed_arith, cond_some, and_parts, leb-true)

two-only : (greatest n : ℕ) (text : List ℕ) → AreTwoDigits text n → n ≤ greatest
    → (a : ℕ) × (b : ℕ) × (text ≡ a ∷ b ∷ []) × (two_digits greatest a b ≡ Some n)
unfolding two_digits
two-only greatest n [] h most = absurd (omega (arith, h.two))
two-only greatest n (a ∷ []) h most = absurd (omega (arith, h.two))
two-only greatest n (a ∷ b ∷ []) h most =
    let first = and_parts _ _ h.digits in
    let second = and_parts _ _ first.1 in
    let tens : is_ascii_digit a ≡ true = first.0 in
    let ones : is_ascii_digit b ≡ true = second.0 in
    (a, b, refl, rw (tens, ones, h.value, le-leb n greatest most) refl)
two-only greatest n (a ∷ b ∷ c ∷ text) h most = absurd (omega (arith, h.two))

-- ## Parsing hours and minutes, `hh:mm`

clock-parts : (hours minutes : Option ℕ) (n : ℕ) → hour_minute_seconds hours minutes ≡ Some n
    → (h : ℕ) × (m : ℕ) × (hours ≡ Some h) × (minutes ≡ Some m) × (n ≡ h * 3_600 + m * 60)
clock-parts None minutes n is = absurd (cc)
clock-parts (Some h) None n is = absurd (cc)
clock-parts (Some h) (Some m) n is = (h, m, refl, refl, cc)

guard-clock : (t : Bool) (o : Option ℕ) (n : ℕ) → cond t o None ≡ Some n → (t ≡ true) × (o ≡ Some n)
guard-clock true o n h = (refl, h)
guard-clock false o n h = absurd (cc)

clock-found : (text : List ℕ) (n : ℕ) → hour_minute_in text ≡ Some n → IsHourMinute text n
unfolding hour_minute_in
clock-found [] n is = absurd (cc)
clock-found (a ∷ []) n is = absurd (cc)
clock-found (a ∷ b ∷ []) n is = absurd (cc)
clock-found (a ∷ b ∷ c ∷ []) n is = absurd (cc)
clock-found (a ∷ b ∷ c ∷ d ∷ []) n is = absurd (cc)
clock-found (a ∷ b ∷ c ∷ d ∷ e ∷ []) n is =
    let colon = guard-clock (c == 58) _ n is in
    let at : c ≡ 58 = grind (arith, nat_tests, colon.0) in
    let parts = clock-parts (two_digits 25 a b) (two_digits 59 d e) n colon.1 in
    let hour = two-found 25 a b parts.0 parts.2 in
    let minute = two-found 59 d e parts.1 parts.3 in
    record {
      hour = a ∷ b ∷ [];
      minute = d ∷ e ∷ [];
      hours = parts.0;
      minutes = parts.1;
      whole = rw at refl;
      hour_is = hour.0;
      minute_is = minute.0;
      hours_in = hour.1;
      minutes_in = minute.1;
      sum = parts.4;
    }
clock-found (a ∷ b ∷ c ∷ d ∷ e ∷ f ∷ text) n is = absurd (cc)

clock-only : (text : List ℕ) (n : ℕ) → IsHourMinute text n → hour_minute_in text ≡ Some n
unfolding hour_minute_in
clock-only text n h =
    let hour = two-only 25 h.hours h.hour h.hour_is h.hours_in in
    let minute = two-only 59 h.minutes h.minute h.minute_is h.minutes_in in
    rw (h.whole, hour.2, minute.2, hour.3, minute.3, h.sum) refl

-- ## Parsing the sign and what follows it

mapped-some : {A : Type 0} (f : ℕ → A) (o : Option ℕ) (x : A) → option_map f o ≡ Some x → (n : ℕ) × (o ≡ Some n) × (x ≡ f n)
mapped-some f None x h = absurd (cc)
mapped-some f (Some n) x h = (n, refl, cc)

offset-by : (sign : ℕ) (clock : List ℕ) (seconds : ℤ) (t u : Bool) → (sign == 43) ≡ t → (sign == 45) ≡ u
    → cond t (option_map pos (hour_minute_in clock)) (cond u (option_map (λ n. neg_ℤ (pos n)) (hour_minute_in clock)) None) ≡ Some seconds
    → IsOffsetWord (sign ∷ clock) seconds
offset-by sign clock seconds true u plus minus is =
    let found = mapped-some pos (hour_minute_in clock) seconds is in
    let at : sign ≡ 43 = grind (arith, nat_tests, plus) in
    record { clock = clock; distance = found.0; clock_is = clock-found clock found.0 found.1; signed = inl (rw at refl, found.2) }
offset-by sign clock seconds false true plus minus is =
    let found = mapped-some (λ n. neg_ℤ (pos n)) (hour_minute_in clock) seconds is in
    let at : sign ≡ 45 = grind (arith, nat_tests, minus) in
    record { clock = clock; distance = found.0; clock_is = clock-found clock found.0 found.1; signed = inr (rw at refl, found.2) }
offset-by sign clock seconds false false plus minus is = absurd (cc)

pub offset-found : (word : List ℕ) (seconds : ℤ) → offset_in word ≡ Some seconds → IsOffsetWord word seconds
unfolding offset_in
offset-found [] seconds is = absurd (cc)
offset-found (sign ∷ clock) seconds is = offset-by sign clock seconds (sign == 43) (sign == 45) refl refl is

signed-only : (word clock : List ℕ) (distance : ℕ) (seconds : ℤ) → hour_minute_in clock ≡ Some distance
    → ((word ≡ codes "+" ++ clock) × (seconds ≡ pos distance)) ⊎ ((word ≡ codes "-" ++ clock) × (seconds ≡ neg_ℤ (pos distance)))
    → offset_in word ≡ Some seconds
unfolding offset_in
signed-only word clock distance seconds is (inl east) = rw (east.0, is, east.1) refl
signed-only word clock distance seconds is (inr west) = rw (west.0, is, west.1) refl

pub offset-only : (word : List ℕ) (seconds : ℤ) → IsOffsetWord word seconds → offset_in word ≡ Some seconds
offset-only word seconds h = signed-only word h.clock h.distance seconds (clock-only h.clock h.distance h.clock_is) h.signed

-- ## Which bytes a word for an offset can have

abbrev pub is_offset_byte : ℕ → Bool
is_offset_byte b = is_ascii_digit b || (is_sign b || (b == 58))

digit_bytes : (bs : List ℕ) → list_all is_ascii_digit bs ≡ true → list_all is_offset_byte bs ≡ true
digit_bytes [] h = refl
digit_bytes (b ∷ bs) h = let parts = and_parts (is_ascii_digit b) (list_all is_ascii_digit bs) h in rw (parts.0, digit_bytes bs parts.1) refl

clock-bytes : (text : List ℕ) (n : ℕ) → IsHourMinute text n → (list_all is_offset_byte text ≡ true) × (length text ≡ 5)
clock-bytes text n h = grind (arith, signed_arith, digit_bytes, length-append, list_all-both)

bytes-by : (word clock : List ℕ) (distance : ℕ) (seconds : ℤ) → (list_all is_offset_byte clock ≡ true) × (length clock ≡ 5)
    → ((word ≡ codes "+" ++ clock) × (seconds ≡ pos distance)) ⊎ ((word ≡ codes "-" ++ clock) × (seconds ≡ neg_ℤ (pos distance)))
    → (list_all is_offset_byte word ≡ true) × (length word ≡ 6) × (begins_with_sign word ≡ true)
bytes-by word clock distance seconds h (inl east) = rw east.0 (h.0, omega (arith, h.1), refl)
bytes-by word clock distance seconds h (inr west) = rw west.0 (h.0, omega (arith, h.1), refl)

-- a word that stands for a UTC offset has six bytes, all of them digits, signs or colons, and begins with a sign
pub offset-bytes : (word : List ℕ) (seconds : ℤ) → IsOffsetWord word seconds
    → (list_all is_offset_byte word ≡ true) × (length word ≡ 6) × (begins_with_sign word ≡ true)
offset-bytes word seconds h = bytes-by word h.clock h.distance seconds (clock-bytes h.clock h.distance h.clock_is) h.signed

-- ## A word stands for a whole number of minutes

clock-minutes : (n hours minutes : ℕ) → hours ≤ 25 → minutes ≤ 59 → n ≡ hours * 3_600 + minutes * 60 → (n ≤ 93_540) × (n % 60 ≡ 0)
clock-minutes n hours minutes h m is = (omega (arith, h, m, is), omega (arith, is))

whole-by : (word clock : List ℕ) (distance : ℕ) (seconds : ℤ) → (distance ≤ 93_540) × (distance % 60 ≡ 0)
    → ((word ≡ codes "+" ++ clock) × (seconds ≡ pos distance)) ⊎ ((word ≡ codes "-" ++ clock) × (seconds ≡ neg_ℤ (pos distance)))
    → AreWholeMinutes seconds
whole-by word clock distance seconds h (inl east) = rw east.1 (record { near = h.0; whole = h.1 })
whole-by word clock zero seconds h (inr west) = rw west.1 (record { near = h.0; whole = h.1 })
whole-by word clock (suc n) seconds h (inr west) = rw west.1 (record { near = h.0; whole = h.1 })

pub offset-minutes : (word : List ℕ) (seconds : ℤ) → offset_in word ≡ Some seconds → AreWholeMinutes seconds
offset-minutes word seconds is =
    let h = offset-found word seconds is in
    let c = h.clock_is in
    whole-by word h.clock h.distance seconds (clock-minutes h.distance c.hours c.minutes c.hours_in c.minutes_in c.sum) h.signed

-- ## Printing an offset and parsing it again

abbrev pub two : ℕ → List ℕ
two n = zeros 2 n ++ decimal n

abbrev is_two : ℕ → Bool
is_two n = (length (two n) == 2) && (list_all is_ascii_digit (two n) && (digits_value 10 (two n) == n))

sixty : all_below 60 is_two ≡ true
unfolding digits
sixty = refl

pub two_printed : (n : ℕ) → n < 60 → AreTwoDigits (two n) n
two_printed n small =
    let parts = and_parts _ _ (below_all 60 is_two n sixty small) in
    let more = and_parts _ _ parts.1 in
    let long : (length (two n) == 2) ≡ true = parts.0 in
    let value : (digits_value 10 (two n) == n) ≡ true = more.1 in
    record { two = eqb-true _ _ long; digits = more.0; value = eqb-true _ _ value }

printed-clock : (n : ℕ) → n ≤ 93_540 → n % 60 ≡ 0 → IsHourMinute (two (n / 3_600) ++ (codes ":" ++ two (n / 60 % 60))) n
printed-clock n near whole = grind (arith, signed_arith, two_printed)

pieces-joined : (sign a b c d : List ℕ) → joined (sign ∷ a ∷ b ∷ codes ":" ∷ c ∷ d ∷ []) ≡ sign ++ ((a ++ b) ++ (codes ":" ++ (c ++ d)))
pieces-joined sign a b c d = grind (arith, signed_arith, append-nil, append_assoc)

printed-by : (seconds : ℤ) (clock : List ℕ) (t : Bool) → clock ≡ two (unsigned_abs seconds / 3_600) ++ (codes ":" ++ two (unsigned_abs seconds / 60 % 60))
    → unsigned_abs seconds % 60 ≡ 0 → int_lt seconds (pos 0) ≡ t → offset_text seconds ≡ (if t then codes "-" else codes "+") ++ clock
unfolding offset_text
printed-by seconds clock t is whole west = grind (arith, signed_arith, pieces-joined)

pub printed-word : (seconds : ℤ) → AreWholeMinutes seconds → IsOffsetWord (offset_text seconds) seconds
printed-word (pos n) h =
    record {
      clock = two (n / 3_600) ++ (codes ":" ++ two (n / 60 % 60));
      distance = n;
      clock_is = printed-clock n h.near h.whole;
      signed = inl (printed-by (pos n) _ false refl h.whole (le-ltb n 0 (omega arith)), refl);
    }
printed-word (negsuc n) h =
    record {
      clock = two (suc n / 3_600) ++ (codes ":" ++ two (suc n / 60 % 60));
      distance = suc n;
      clock_is = printed-clock (suc n) h.near h.whole;
      signed = inr (printed-by (negsuc n) _ true refl h.whole refl, refl);
    }

pub offset-back : (seconds : ℤ) → AreWholeMinutes seconds → offset_in (offset_text seconds) ≡ Some seconds
offset-back seconds h = offset-only (offset_text seconds) seconds (printed-word seconds h)
