-- The parser accepts exactly the values and the steps that the grammar allows.
use Rattle.std.proofs.Common.{◌≡◌, ◌∙◌, ℕ, ◌+◌, ◌<◌, ◌≤◌, inl, inr, cond, Bool, true, false, nat_eq, nat_lt, List, [], ◌∷◌, map, length, Option, None, Some, Ok, Err, refl, ap, arith}
use Rattle.std.specs.Prelude.{Result}
use Rattle.std.specs.List.{AllByRecursion, list_all}
use Rattle.std.specs.Option.{ok_or}
use Rattle.std.specs.Char.{is_ascii_alphabetic, is_ascii_digit, is_ascii_lowercase, to_ascii_lowercase}
use Rattle.std.specs.Str.{str_eq_ignore_ascii_case}
use Rattle.std.specs.Str.Parse.{digits_value}
use Rattle.std.proofs.lemmas.Bool.{and_parts, and_from, ltb-false, ltb-true, lt-ltb, le-ltb, ne_eqb, eqb-false}
use Rattle.std.proofs.lemmas.Bool.Decides.{nat_tests}
use Rattle.std.proofs.lemmas.List.Folds.{list_all-map}
use Rattle.std.proofs.lemmas.Slice.Eq.{bytes_eq-Decides}
use Rattle.cal_bytes.proofs.General.{list_all-wider}
use Rattle.cal_spec.proofs.WeekdayRule.{letter_by}
use Rattle.cal_cron.specs.computed.Items.{is_number, number_within, step_in, step_within, value_in}
use Rattle.cal_cron.specs.rules.CronGrammar.{IsNumber, IsValue, IsWithin, greatest, least, max_step, month_names, name_from, name_in, weekday_names}
use Rattle.cal_cron.specs.declared.cron_field.CronField.{CronField}
use Rattle.cal_cron.specs.declared.cron_field.CronField.TheVariants.{Month, Weekday}
use Rattle.cal_cron.specs.declared.field_fault.FieldFault.{FieldFault}
use Rattle.cal_cron.specs.declared.field_fault.FieldFault.TheVariants.{BadValue, BadStep, OutOfField, ZeroStep, LargeStep}

pub cond_ok : {A : Type 0} (test : Bool) (e : FieldFault) (r : Result A FieldFault) (y : A) → cond test (Err e) r ≡ Ok y → (test ≡ false) × (r ≡ Ok y)
cond_ok true e r y at = cc
cond_ok false e r y at = (refl, at)

-- ## Names consist of letters

abbrev IsLetters : List ℕ → Type 0
IsLetters name = list_all is_ascii_lowercase (map to_ascii_lowercase name) ≡ true

letters_by : (text name : List ℕ) → IsLetters name → str_eq_ignore_ascii_case text name ≡ true → list_all is_ascii_alphabetic text ≡ true
letters_by text name letters test =
    let same : map to_ascii_lowercase text ≡ map to_ascii_lowercase name = (bytes_eq-Decides (map to_ascii_lowercase text) (map to_ascii_lowercase name)).0 test in
    let all : list_all is_ascii_lowercase (map to_ascii_lowercase text) ≡ true = ap (list_all is_ascii_lowercase) same ∙ letters in
    list_all-wider (λ b. is_ascii_lowercase (to_ascii_lowercase b)) is_ascii_alphabetic text letter_by (rw list_all-map at all)

pub record IsNamed (n count : ℕ) (text : List ℕ) (k : ℕ) : Type 0 where
  pub letters : list_all is_ascii_alphabetic text ≡ true
  pub from : n ≤ k
  pub below : k < n + count

named_step : (n : ℕ) (name : List ℕ) (names : List (List ℕ)) (text : List ℕ) (k : ℕ) (test : Bool) → IsLetters name → str_eq_ignore_ascii_case text name ≡ test
    → (name_from (n + 1) names text ≡ Some k → IsNamed (n + 1) (length names) text k)
    → cond test (Some n) (name_from (n + 1) names text) ≡ Some k → IsNamed n (length (name ∷ names)) text k
named_step n name names text k true letters is rest at =
    let same : n ≡ k = cc in
    record { letters = letters_by text name letters is; from = omega (arith, same); below = omega (arith, same) }
named_step n name names text k false letters is rest at =
    let more = rest at in record { letters = more.letters; from = omega (arith, more.from); below = omega (arith, more.below) }

named : (n : ℕ) (names : List (List ℕ)) (text : List ℕ) (k : ℕ) → AllByRecursion IsLetters names → name_from n names text ≡ Some k → IsNamed n (length names) text k
named n [] text k letters at = cc
named n (name ∷ names) text k letters at =
    named_step n name names text k (str_eq_ignore_ascii_case text name) letters.0 refl (named (n + 1) names text k letters.1) at

months_letters : AllByRecursion IsLetters month_names
months_letters = (refl, (refl, (refl, (refl, (refl, (refl, (refl, (refl, (refl, (refl, (refl, (refl, tt))))))))))))

weekdays_letters : AllByRecursion IsLetters weekday_names
weekdays_letters = (refl, (refl, (refl, (refl, (refl, (refl, (refl, tt)))))))

name_letters : (field : CronField) (text : List ℕ) (k : ℕ) → name_in field text ≡ Some k → list_all is_ascii_alphabetic text ≡ true
name_letters Month text k at = (named 1 month_names text k months_letters at).letters
name_letters Weekday text k at = (named 0 weekday_names text k weekdays_letters at).letters
name_letters field text k at = cc

name_within : (field : CronField) (text : List ℕ) (k : ℕ) → name_in field text ≡ Some k → IsWithin field k
name_within Month text k at = let is = named 1 month_names text k months_letters at in record { above = is.from; below = omega (arith, is.below) }
name_within Weekday text k at = let is = named 0 weekday_names text k weekdays_letters at in record { above = is.from; below = omega (arith, is.below) }
name_within field text k at = cc

pub value_within : (field : CronField) (text : List ℕ) (n : ℕ) → IsValue field text n → IsWithin field n
value_within field text n (inl is) = name_within field text n is
value_within field text n (inr is) = is.1

-- a text of letters isn't a number
no_digits : (text : List ℕ) → list_all is_ascii_alphabetic text ≡ true → is_number text ≡ false
no_digits [] letters = refl
no_digits (b ∷ bs) letters = grind (arith, nat_tests)

-- ## Numbers

number_is : (text : List ℕ) (n : ℕ) → is_number text ≡ true → digits_value 10 text ≡ n → IsNumber text n
number_is text n test value =
    let parts = and_parts (nat_lt 0 (length text)) (list_all is_ascii_digit text) test in
    record { some = ltb-true _ _ parts.0; digits = parts.1; value = value }

number_only : (text : List ℕ) (n : ℕ) → IsNumber text n → is_number text ≡ true
number_only text n is = and_from (nat_lt 0 (length text)) (list_all is_ascii_digit text) (lt-ltb _ _ is.some) is.digits

within_ok : (field : CronField) (m n : ℕ) → number_within field m ≡ Ok n → (m ≡ n) × IsWithin field m
within_ok field m n at =
    let low = cond_ok (nat_lt m (least field)) OutOfField (cond (nat_lt (greatest field) m) (Err OutOfField) (Ok m)) n at in
    let high = cond_ok (nat_lt (greatest field) m) OutOfField (Ok m) n low.1 in
    (let e = high.1 in cc, record { above = ltb-false _ _ low.0; below = ltb-false _ _ high.0 })

within_only : (field : CronField) (n : ℕ) → IsWithin field n → number_within field n ≡ Ok n
within_only field n is = rw (le-ltb _ _ is.above, le-ltb _ _ is.below) refl

-- ## Values

named_ok : (o : Option ℕ) (n : ℕ) → ok_or o BadValue ≡ Ok n → o ≡ Some n
named_ok None n at = cc
named_ok (Some k) n at = cc

found_by : (field : CronField) (text : List ℕ) (n : ℕ) (test : Bool) → is_number text ≡ test
    → cond test (number_within field (digits_value 10 text)) (ok_or (name_in field text) BadValue) ≡ Ok n → IsValue field text n
found_by field text n true is at =
    let within = within_ok field (digits_value 10 text) n at in
    inr (number_is text n is within.0, rw within.0 at within.1)
found_by field text n false is at = inl (named_ok (name_in field text) n at)

pub value_found : (field : CronField) (text : List ℕ) (n : ℕ) → value_in field text ≡ Ok n → IsValue field text n
unfolding value_in
value_found field text n at = found_by field text n (is_number text) refl at

pub value_only : (field : CronField) (text : List ℕ) (n : ℕ) → IsValue field text n → value_in field text ≡ Ok n
unfolding value_in
value_only field text n (inl is) = rw (no_digits text (name_letters field text n is), is) refl
value_only field text n (inr is) = rw (number_only text n is.0, is.0.value) (within_only field n is.1)

-- ## Steps

pub record IsStep (text : List ℕ) (n : ℕ) : Type 0 where
  pub number : IsNumber text n
  pub positive : 0 < n
  pub small : n ≤ max_step

step_ok : (m n : ℕ) → step_within m ≡ Ok n → (m ≡ n) × (0 < m) × (m ≤ max_step)
step_ok m n at =
    let low = cond_ok (nat_eq m 0) ZeroStep (cond (nat_lt max_step m) (Err LargeStep) (Ok m)) n at in
    let high = cond_ok (nat_lt max_step m) LargeStep (Ok m) n low.1 in
    let some = eqb-false m 0 low.0 in
    (let e = high.1 in cc, omega (arith, some), ltb-false _ _ high.0)

step_by : (text : List ℕ) (n : ℕ) (test : Bool) → is_number text ≡ test → cond test (step_within (digits_value 10 text)) (Err BadStep) ≡ Ok n → IsStep text n
step_by text n true is at =
    let ok = step_ok (digits_value 10 text) n at in
    record { number = number_is text n is ok.0; positive = rw ok.0 at ok.1; small = rw ok.0 at ok.2 }
step_by text n false is at = cc

pub step_found : (text : List ℕ) (n : ℕ) → step_in text ≡ Ok n → IsStep text n
unfolding step_in
step_found text n at = step_by text n (is_number text) refl at

pub step_only : (text : List ℕ) (n : ℕ) → IsStep text n → step_in text ≡ Ok n
unfolding step_in
step_only text n is =
    rw (number_only text n is.number, is.number.value, ne_eqb n 0 (λ e. omega (arith, e, is.positive)), le-ltb _ _ is.small) refl

-- ## The bytes of a value

-- no value has a byte below 48, such as `*`, `,`, `-` or `/`
abbrev pub is_value_byte : ℕ → Bool
is_value_byte b = nat_lt 47 b

digit_high : (b : ℕ) → is_ascii_digit b ≡ true → is_value_byte b ≡ true
digit_high b h = grind (arith, nat_tests)

letter_high : (b : ℕ) → is_ascii_alphabetic b ≡ true → is_value_byte b ≡ true
letter_high b h = grind (arith, nat_tests)

pub number_bytes : (text : List ℕ) (n : ℕ) → IsNumber text n → list_all is_value_byte text ≡ true
number_bytes text n is = list_all-wider is_ascii_digit is_value_byte text digit_high is.digits

pub value_bytes : (field : CronField) (text : List ℕ) (n : ℕ) → IsValue field text n → list_all is_value_byte text ≡ true
value_bytes field text n (inl is) = list_all-wider is_ascii_alphabetic is_value_byte text letter_high (name_letters field text n is)
value_bytes field text n (inr is) = number_bytes text n is.0
