-- Parsing a printed expression returns the same expression.
use Rattle.std.proofs.Common.{◌≡◌, ℕ, ◌<◌, Bool, true, false, ◌||◌, nat_eq, nat_lt, List, [], ◌∷◌, ◌++◌, length, codes, Option, None, Some, Ok, refl, ap, ◌∙◌, arith, append_assoc, inl}
use Rattle.std.specs.Prelude.{filter}
use Rattle.std.specs.Char.{is_ascii_alphabetic}
use Rattle.std.specs.List.{list_all, list_any}
use Rattle.std.proofs.lemmas.Bool.{and_parts, le-ltb, lt-ltb}
use Rattle.std.proofs.lemmas.Bool.Decides.{nat_tests}
use Rattle.std.proofs.lemmas.List.{append-nil}
use Rattle.cal_bytes.specs.rules.Bytes.{joined}
use Rattle.cal_bytes.specs.rules.Separators.{is_colon, is_blank, words}
use Rattle.cal_spec.specs.rules.ExprText.{component_text, day_lead, expr_text, fields_text, row_text, zone_text}
use Rattle.cal_spec.specs.rules.Fields.{Fields}
use Rattle.cal_spec.specs.computed.Grammar.{fields_at, fields_in}
use Rattle.cal_spec.specs.computed.NormalParts.{normal_fields}
use Rattle.cal_spec.specs.rules.Slot.{day_slot}
use Rattle.cal_spec.specs.rules.ValidFields.{IsValidFields}
use Rattle.cal_spec.specs.rules.WeekdayRuns.{runs_from, runs_text}
use Rattle.cal_spec.specs.computed.WeekdayLists.{weekdays_in}
use Rattle.cal_spec.specs.computed.Words.{after_weekdays, date_or_time, roles_of}
use Rattle.cal_spec.specs.rules.UnparsedTexts.{WordRoles}
use Rattle.cal_civil.specs.rules.ZoneName.{begins_with_letter}
use Rattle.cal_civil.specs.rules.OffsetWord.{begins_zone, begins_with_sign, is_sign}
use Rattle.cal_spec.specs.rules.ZoneSuffix.{IsSuffixOption, ZoneSuffix, suffix_text}
use Rattle.cal_spec.specs.computed.ParsedSuffix.{suffix_due, suffix_in}
use Rattle.cal_spec.proofs.SuffixLemmas.{suffix_word, letter_some}
use Rattle.cal_spec.specs.declared.slot.Slot.TheVariants.{Year, Month, Hour, Minute, Second}
use Rattle.cal_spec.proofs.LengthLemmas.{AreSmall, expr_length, small_component, small_second}
use Rattle.cal_spec.proofs.NormalFieldsLemmas.{fields_valid}
use Rattle.cal_bytes.proofs.General.{split_alone, split_at, some_front, list_all-both, clear_of, list_all-wider}
use Rattle.cal_spec.proofs.ComponentRule.{is_component_byte}
use Rattle.cal_spec.proofs.ReadBackParts.{component_printed, printed_bytes, printed_some}
use Rattle.cal_spec.specs.rules.GrammarRule.{IsDate, IsTime, last_sign}
use Rattle.cal_spec.proofs.ReadBackWeekdays.{ReadsDays, weekdays_all, weekdays_some}
use Rattle.cal_spec.proofs.WordRule.{no_shorthand}
use Rattle.cal_spec.proofs.WeekdayLemmas.{weekdays_text-all, weekdays_text-some}
use Rattle.cal_spec.proofs.DateRule.{are_few, date_only, time_only}

-- the fields are valid and their parts are small (see `IsSmall`), so they can be printed and parsed again
pub record IsReadable (f : Fields) : Type 0 where
  pub valid : IsValidFields f
  pub year : AreSmall f.year
  pub month : AreSmall f.month
  pub day : AreSmall f.day
  pub hour : AreSmall f.hour
  pub minute : AreSmall f.minute
  pub second : AreSmall f.second

-- ## The printed date and time are a word for the date, a space, and a word for the time

date_word : Fields → List ℕ
date_word f = component_text 4 f.year ++ (45 ∷ (component_text 2 f.month ++ (day_lead f.from_end ++ component_text 2 f.day)))

time_word : Fields → List ℕ
time_word f = component_text 2 f.hour ++ (58 ∷ (component_text 2 f.minute ++ (58 ∷ component_text 2 f.second)))

layout : (lead a b c d e g : List ℕ)
    → joined (joined ([] ∷ a ∷ []) ∷ joined (codes "-" ∷ b ∷ []) ∷ joined (lead ∷ c ∷ []) ∷ joined (codes " " ∷ d ∷ []) ∷ joined (codes ":" ∷ e ∷ []) ∷ joined (codes ":" ∷ g ∷ []) ∷ [])
    ≡ (a ++ (45 ∷ (b ++ (lead ++ c)))) ++ (32 ∷ (d ++ (58 ∷ (e ++ (58 ∷ g)))))
layout lead a b c d e g =
    rw (append-nil a, append-nil b, append-nil c, append-nil d, append-nil e, append-nil g, append-nil g) (simp append_assoc)

fields_printed : (f : Fields) → fields_text f ≡ date_word f ++ (32 ∷ time_word f)
unfolding fields_text row_text date_word time_word
fields_printed f =
    layout (day_lead f.from_end) (component_text 4 f.year) (component_text 2 f.month) (component_text 2 f.day) (component_text 2 f.hour) (component_text 2 f.minute) (component_text 2 f.second)

-- ## The bytes that can occur in a date or in a time
--
-- These are the bytes of components, and separators. None of them is a letter or a blank.

abbrev is_date_byte : ℕ → Bool
is_date_byte b = is_component_byte b || (nat_eq b 45 || nat_eq b 126)

abbrev is_time_byte : ℕ → Bool
is_time_byte b = is_component_byte b || nat_eq b 58

in_date : (b : ℕ) → is_component_byte b ≡ true → is_date_byte b ≡ true
in_date b h = rw h refl

in_time : (b : ℕ) → is_component_byte b ≡ true → is_time_byte b ≡ true
in_time b h = rw h refl

date_no_blank : (b : ℕ) → is_date_byte b ≡ true → is_blank b ≡ false
date_no_blank b h = grind (arith, nat_tests)

date_no_colon : (b : ℕ) → is_date_byte b ≡ true → is_colon b ≡ false
date_no_colon b h = grind (arith, nat_tests)

date_no_letter : (b : ℕ) → is_date_byte b ≡ true → is_ascii_alphabetic b ≡ false
date_no_letter b h = grind (arith, nat_tests)

time_no_blank : (b : ℕ) → is_time_byte b ≡ true → is_blank b ≡ false
time_no_blank b h = grind (arith, nat_tests)

time_no_letter : (b : ℕ) → is_time_byte b ≡ true → is_ascii_alphabetic b ≡ false
time_no_letter b h = grind (arith, nat_tests)

lead_in_date : (t : Bool) → list_all is_date_byte (day_lead t) ≡ true
lead_in_date true = refl
lead_in_date false = refl

date_bytes : (f : Fields) → IsReadable f → list_all is_date_byte (date_word f) ≡ true
unfolding date_word
date_bytes f h =
    list_all-both is_date_byte (component_text 4 f.year) (45 ∷ (component_text 2 f.month ++ (day_lead f.from_end ++ component_text 2 f.day)))
    (list_all-wider is_component_byte is_date_byte (component_text 4 f.year) in_date (printed_bytes Year 4 f.year h.valid.year h.year))
    (list_all-both is_date_byte (component_text 2 f.month) (day_lead f.from_end ++ component_text 2 f.day)
    (list_all-wider is_component_byte is_date_byte (component_text 2 f.month) in_date (printed_bytes Month 2 f.month h.valid.month h.month))
    (list_all-both is_date_byte (day_lead f.from_end) (component_text 2 f.day) (lead_in_date f.from_end)
    (list_all-wider is_component_byte is_date_byte (component_text 2 f.day) in_date (printed_bytes (day_slot f.from_end) 2 f.day h.valid.day h.day))))

time_bytes : (f : Fields) → IsReadable f → list_all is_time_byte (time_word f) ≡ true
unfolding time_word
time_bytes f h =
    list_all-both is_time_byte (component_text 2 f.hour) (58 ∷ (component_text 2 f.minute ++ (58 ∷ component_text 2 f.second)))
    (list_all-wider is_component_byte is_time_byte (component_text 2 f.hour) in_time (printed_bytes Hour 2 f.hour h.valid.hour h.hour))
    (list_all-both is_time_byte (component_text 2 f.minute) (58 ∷ component_text 2 f.second)
    (list_all-wider is_component_byte is_time_byte (component_text 2 f.minute) in_time (printed_bytes Minute 2 f.minute h.valid.minute h.minute))
    (list_all-wider is_component_byte is_time_byte (component_text 2 f.second) in_time (printed_bytes Second 2 f.second h.valid.second h.second)))

date_some : (f : Fields) → IsReadable f → 0 < length (date_word f)
unfolding date_word
date_some f h = some_front (component_text 4 f.year) _ (printed_some Year 4 f.year h.valid.year h.year)

time_some : (f : Fields) → IsReadable f → 0 < length (time_word f)
unfolding time_word
time_some f h = some_front (component_text 2 f.hour) _ (printed_some Hour 2 f.hour h.valid.hour h.hour)

no_letter_first : (q : ℕ → Bool) (word : List ℕ) → ((b : ℕ) → q b ≡ true → is_ascii_alphabetic b ≡ false) → list_all q word ≡ true → begins_with_letter word ≡ false
no_letter_first q [] apart all = refl
no_letter_first q (b ∷ bs) apart all = apart b (and_parts (q b) (list_all q bs) all).0

component_sign : (b : ℕ) → is_component_byte b ≡ true → is_sign b ≡ false
component_sign b h = grind (arith, nat_tests)

-- if a text begins with a component, it doesn't begin with `+` or `-`
front_no_sign : (front rest : List ℕ) → 0 < length front → list_all is_component_byte front ≡ true → begins_with_sign (front ++ rest) ≡ false
front_no_sign [] rest some all = absurd (omega arith)
front_no_sign (b ∷ bs) rest some all = component_sign b (and_parts (is_component_byte b) (list_all is_component_byte bs) all).0

date_zone : (f : Fields) → IsReadable f → begins_zone (date_word f) ≡ false
unfolding date_word
date_zone f h =
    let letter = no_letter_first is_date_byte (date_word f) date_no_letter (date_bytes f h) in
    let sign = front_no_sign (component_text 4 f.year) (45 ∷ (component_text 2 f.month ++ (day_lead f.from_end ++ component_text 2 f.day))) (printed_some Year 4 f.year h.valid.year h.year) (printed_bytes Year 4 f.year h.valid.year h.year) in
    rw (letter, sign) refl

time_zone : (f : Fields) → IsReadable f → begins_zone (time_word f) ≡ false
unfolding time_word
time_zone f h =
    let letter = no_letter_first is_time_byte (time_word f) time_no_letter (time_bytes f h) in
    let sign = front_no_sign (component_text 2 f.hour) (58 ∷ (component_text 2 f.minute ++ (58 ∷ component_text 2 f.second))) (printed_some Hour 2 f.hour h.valid.hour h.hour) (printed_bytes Hour 2 f.hour h.valid.hour h.hour) in
    rw (letter, sign) refl

-- ## The grammar allows the printed date and the printed time

lead_is : (t : Bool) → day_lead t ≡ last_sign t
lead_is true = refl
lead_is false = refl

date_printed : (f : Fields) → IsReadable f → IsDate (date_word f) f
unfolding date_word
date_printed f h = record {
  texts = record { year = component_text 4 f.year; month = component_text 2 f.month; day = component_text 2 f.day; from_end = f.from_end };
  shape = inl (ap (λ lead. component_text 4 f.year ++ (45 ∷ (component_text 2 f.month ++ (lead ++ component_text 2 f.day)))) (lead_is f.from_end));
  from_end = refl;
  year = component_printed Year 4 f.year h.valid.year h.year;
  month = component_printed Month 2 f.month h.valid.month h.month;
  day = component_printed (day_slot f.from_end) 2 f.day h.valid.day h.day;
}

time_printed : (f : Fields) → IsReadable f → IsTime (time_word f) f
unfolding time_word
time_printed f h = record {
  texts = record { hour = component_text 2 f.hour; minute = component_text 2 f.minute; second = component_text 2 f.second };
  shape = inl refl;
  hour = component_printed Hour 2 f.hour h.valid.hour h.hour;
  minute = component_printed Minute 2 f.minute h.valid.minute h.minute;
  second = component_printed Second 2 f.second h.valid.second h.second;
}

-- ## Splitting the printed date, time and zone into words

word_first : (w rest : List ℕ) → list_any is_blank w ≡ false → 0 < length w → words (w ++ (32 ∷ rest)) ≡ w ∷ words rest
unfolding words
word_first w rest clear some =
    let kept : nat_lt 0 (length w) ≡ true = lt-ltb 0 (length w) some in
    ap (filter (λ word. nat_lt 0 (length word))) (split_at is_blank w 32 rest clear refl) ∙ rw kept refl

word_last : (w : List ℕ) → list_any is_blank w ≡ false → 0 < length w → words w ≡ w ∷ []
unfolding words
word_last w clear some =
    let kept : nat_lt 0 (length w) ≡ true = lt-ltb 0 (length w) some in
    ap (filter (λ word. nat_lt 0 (length word))) (split_alone is_blank w clear) ∙ rw kept refl

abbrev zone_words : Option ZoneSuffix → List (List ℕ)
zone_words None = []
zone_words (Some suffix) = suffix_text suffix ∷ []

words_to_zone : (w : List ℕ) (suffix : Option ZoneSuffix) → list_any is_blank w ≡ false → 0 < length w → IsSuffixOption suffix → words (w ++ (zone_text suffix ++ [])) ≡ w ∷ zone_words suffix
words_to_zone w None clear some h = ap words (append-nil w) ∙ word_last w clear some
words_to_zone w (Some suffix) clear some h =
    let text = suffix_text suffix in
    let word = suffix_word suffix h in
    let trimmed : zone_text (Some suffix) ++ [] ≡ 32 ∷ text = ap (λ t. 32 ∷ t) (append-nil (text ++ []) ∙ append-nil text) in
    ap (λ t. words (w ++ t)) trimmed ∙ word_first w text clear some ∙ ap (λ ws. w ∷ ws) (word_last text word.clear word.some)

words_of_fields : (f : Fields) → IsReadable f → words (fields_text f ++ (zone_text f.zone ++ [])) ≡ date_word f ∷ time_word f ∷ zone_words f.zone
words_of_fields f h =
    let after = zone_text f.zone ++ [] in
    ap (λ t. words (t ++ after)) (fields_printed f)
    ∙ ap words (append_assoc (date_word f) (32 ∷ time_word f) after)
    ∙ word_first (date_word f) (time_word f ++ after) (clear_of is_date_byte is_blank (date_word f) date_no_blank (date_bytes f h)) (date_some f h)
    ∙ ap (λ ws. date_word f ∷ ws) (words_to_zone (time_word f) f.zone (clear_of is_time_byte is_blank (time_word f) time_no_blank (time_bytes f h)) (time_some f h) h.valid.zone)

-- ## The parser recognizes the printed weekdays, date, time and zone

roles : Option (List ℕ) → Fields → WordRoles
roles weekdays f = record { weekdays = weekdays; date = date_word f; time = time_word f; rest = zone_words f.zone }

-- if `date` has no colon and `time` doesn't begin with a letter, `+` or `-`, `date_or_time` recognizes them as the date
-- and the time
date_roles : (weekdays : Option (List ℕ)) (date time : List ℕ) (rest : List (List ℕ)) → list_any is_colon date ≡ false → begins_zone time ≡ false
    → date_or_time weekdays date (time ∷ rest) ≡ record { weekdays = weekdays; date = date; time = time; rest = rest }
date_roles weekdays date time rest no_time no_zone = rw (no_time, no_zone) refl

after_days : (word date time : List ℕ) (rest : List (List ℕ)) → begins_zone date ≡ false → list_any is_colon date ≡ false → begins_zone time ≡ false
    → after_weekdays (Some word) (date ∷ time ∷ rest) ≡ record { weekdays = Some word; date = date; time = time; rest = rest }
after_days word date time rest no_zone no_time next = rw no_zone (date_roles (Some word) date time rest no_time next)

roles_all : (f : Fields) → IsReadable f → roles_of (date_word f ∷ time_word f ∷ zone_words f.zone) ≡ Some (roles None f)
unfolding roles_of roles
roles_all f h =
    let plain = no_letter_first is_date_byte (date_word f) date_no_letter (date_bytes f h) in
    let no_time = clear_of is_date_byte is_colon (date_word f) date_no_colon (date_bytes f h) in
    rw (no_shorthand (date_word f) plain, plain) (ap Some (date_roles None (date_word f) (time_word f) (zone_words f.zone) no_time (time_zone f h)))

roles_some : (f : Fields) (word : List ℕ) → IsReadable f → ReadsDays word f.weekdays → roles_of (word ∷ date_word f ∷ time_word f ∷ zone_words f.zone) ≡ Some (roles (Some word) f)
unfolding roles_of roles
roles_some f word h days =
    let no_time = clear_of is_date_byte is_colon (date_word f) date_no_colon (date_bytes f h) in
    rw (days.plain, days.letter) (ap Some (after_days word (date_word f) (time_word f) (zone_words f.zone) (date_zone f h) no_time (time_zone f h)))

zone_back : (suffix : Option ZoneSuffix) → IsSuffixOption suffix → suffix_in (zone_words suffix) ≡ Ok suffix
zone_back None h = refl
zone_back (Some suffix) h = ap suffix_due (suffix_word suffix h).back

roles_back : (f : Fields) (weekdays : Option (List ℕ)) → IsReadable f → weekdays_in weekdays ≡ Ok f.weekdays → fields_at (roles weekdays f) ≡ Ok f
unfolding fields_at roles
roles_back f weekdays h days =
    let few = are_few f h.valid.few in
    let date = date_only (date_word f) f few (date_printed f h) in
    let time = time_only (time_word f) f few (time_printed f h) in
    let name = zone_back f.zone h.valid.zone in
    rw (days, date, time, name) refl

-- ## Parsing a whole printed expression returns the same fields

back_by : (f : Fields) (ws : List (List ℕ)) (p : WordRoles) → length (expr_text f) < 4_096 → words (expr_text f) ≡ ws → roles_of ws ≡ Some p → fields_at p ≡ Ok f → fields_in (expr_text f) ≡ Ok f
unfolding fields_in
back_by f ws p short split roles_are read =
    let fits : nat_lt 4_096 (length (expr_text f)) ≡ false = le-ltb 4_096 (length (expr_text f)) (omega arith) in
    rw (fits, split, roles_are) read

back_all : (f : Fields) → IsReadable f → length (expr_text f) < 4_096 → list_all (λ d. d) f.weekdays ≡ true → fields_in (expr_text f) ≡ Ok f
unfolding expr_text
back_all f h short all =
    let text : expr_text f ≡ fields_text f ++ (zone_text f.zone ++ []) = ap (λ t. t ++ (fields_text f ++ (zone_text f.zone ++ []))) (weekdays_text-all f.weekdays all) in
    back_by f (date_word f ∷ time_word f ∷ zone_words f.zone) (roles None f) short (ap words text ∙ words_of_fields f h) (roles_all f h)
    (roles_back f None h (ap Ok (weekdays_all f.weekdays h.valid.seven all)))

back_some : (f : Fields) → IsReadable f → length (expr_text f) < 4_096 → list_all (λ d. d) f.weekdays ≡ false → fields_in (expr_text f) ≡ Ok f
unfolding expr_text
back_some f h short some =
    let word = runs_text (runs_from 0 f.weekdays) in
    let days = weekdays_some f.weekdays h.valid.seven some h.valid.chosen in
    let rest = fields_text f ++ (zone_text f.zone ++ []) in
    let text : expr_text f ≡ word ++ (32 ∷ rest) =
    ap (λ t. t ++ rest) (weekdays_text-some f.weekdays some) ∙ append_assoc word (32 ∷ []) rest in
    back_by f (word ∷ date_word f ∷ time_word f ∷ zone_words f.zone) (roles (Some word) f) short
    (ap words text ∙ word_first word rest days.clear (letter_some word days.letter) ∙ ap (λ ws. word ∷ ws) (words_of_fields f h))
    (roles_some f word h days)
    (roles_back f (Some word) h days.read)

back_by_days : (f : Fields) (t : Bool) → IsReadable f → length (expr_text f) < 4_096 → list_all (λ d. d) f.weekdays ≡ t → fields_in (expr_text f) ≡ Ok f
back_by_days f true h short is = back_all f h short is
back_by_days f false h short is = back_some f h short is

pub readable_back : (f : Fields) → IsReadable f → fields_in (expr_text f) ≡ Ok f
readable_back f h =
    back_by_days f (list_all (λ d. d) f.weekdays) h (expr_length f h.valid h.year h.month h.day h.hour h.minute h.second) refl

readable : (f : Fields) → IsValidFields f → IsReadable (normal_fields f)
unfolding normal_fields
readable f valid = record {
  valid = fields_valid f valid;
  year = small_component Year f.year valid.year;
  month = small_component Month f.month valid.month;
  day = small_component (day_slot f.from_end) f.day valid.day;
  hour = small_component Hour f.hour valid.hour;
  minute = small_component Minute f.minute valid.minute;
  second = small_second f.second valid.second;
}

-- parsing the printed normal form of valid fields returns this normal form
pub normal_back : (f : Fields) → IsValidFields f → fields_in (expr_text (normal_fields f)) ≡ Ok (normal_fields f)
normal_back f valid = readable_back (normal_fields f) (readable f valid)
