-- Parsing words gives a civil time if and only if the words and the civil time satisfy `IsCivilTime`.
use Rattle.std.proofs.Common.{ℕ, ◌<◌, ◌≡◌, Bool, inl, inr, true, false, ◌&&◌, ◌||◌, List, [], ◌∷◌, ◌++◌, length, refl, sym, ap, ◌∙◌, arith, Option, Some, None, Ok, ℤ}
use Rattle.std.specs.Prelude.{nat_le, is_some}
use Rattle.std.specs.Char.{is_ascii_digit, is_ascii_alphabetic}
use Rattle.std.specs.List.{list_all, list_any, slice_split, join_with_byte}
use Rattle.std.specs.Option.{option_to_list}
use Rattle.std.proofs.lemmas.Bool.{and_parts, cases_Bool}
use Rattle.std.proofs.lemmas.Bool.Decides.{nat_tests}
use Rattle.std.proofs.lemmas.List.Folds.{list_any-append}
use Rattle.std.proofs.lemmas.List.Splits.{join_with_byte-slice_split}
use Rattle.jiff.specs.Types.{TimeZone, Weekday}
use Rattle.cal_civil.proofs.OffsetWordLemmas.{offset-found, offset-only}
use Rattle.cal_civil.specs.computed.ReadOffset.{offset_in}
use Rattle.cal_civil.specs.rules.OffsetWord.{IsOffsetWord}
use Rattle.cal_zone.specs.rules.FixedOffsetZone.{fixed_offset_zone}
use Rattle.cal_civil.specs.rules.ZoneName.{begins_with_letter}
use Rattle.cal_bytes.specs.rules.Separators.{is_colon}
use Rattle.cal_spec.specs.rules.WeekdayNames.{day_named}
use Rattle.cal_zone.specs.rules.Setting.{Setting}
use Rattle.cal_stamp.specs.rules.StampCivilRule.{CivilStamp, IsCivilTime, MeansZone, NamesWeekday, WritesDate, WritesTime, NamesZone}
use Rattle.cal_stamp.specs.rules.StampTime.{begins_with_digit, up_to, clock_number, time_by, time_of_pieces, time_numbers, micros_due, time_written}
use Rattle.cal_stamp.specs.computed.Stamp.{name_found, offset_found, zone_of_word, zone_alone, zone_by_words, civil_stamp_in, after_date, after_weekday, weekday_found, civil_time}
use Rattle.cal_stamp.specs.declared.date.DateNumbers.{DateNumbers}
use Rattle.cal_stamp.specs.rules.StampDate.{is_hyphen, digits_number, date_by, date_of_pieces, date_numbers, day_due, day_written}
use Rattle.cal_spec.proofs.ReadLemmas.{bind_ok}
use Rattle.cal_bytes.proofs.General.{clear_of}

digit_no_letter : (b : ℕ) → is_ascii_digit b ≡ true → is_ascii_alphabetic b ≡ false
digit_no_letter b h = grind (arith, nat_tests)

letter_no_digit : (b : ℕ) → is_ascii_alphabetic b ≡ true → is_ascii_digit b ≡ false
letter_no_digit b h = grind (arith, nat_tests)

-- ## What each word begins with and contains

pub record IsNumber (word : List ℕ) : Type 0 where
  pub some : 0 < length word
  pub digits : list_all is_ascii_digit word ≡ true

number_by : (most : ℕ) (word : List ℕ) (n : ℕ) (test : Bool) → (nat_le 1 (length word) && nat_le (length word) most && list_all is_ascii_digit word) ≡ test → digits_number most word ≡ Some n → IsNumber word
unfolding digits_number
number_by most word n true e h =
    let parts = and_parts (nat_le 1 (length word) && nat_le (length word) most) (list_all is_ascii_digit word) e in
    let long = (and_parts (nat_le 1 (length word)) (nat_le (length word) most) parts.0).0 in
    record { some = grind (arith, nat_tests, long); digits = parts.1 }
number_by most word n false e h = let none = rw e at h in cc

-- the next three lemmas: a digit is not a colon, a number contains no colon, and a text that begins with a number
-- begins with a digit
pub digit_no_colon : (b : ℕ) → is_ascii_digit b ≡ true → is_colon b ≡ false
digit_no_colon b h = grind (arith, nat_tests)

no_colon : (ds : List ℕ) → list_all is_ascii_digit ds ≡ true → list_any is_colon ds ≡ false
no_colon ds h = clear_of is_ascii_digit is_colon ds digit_no_colon h

pub digit_first : (word rest : List ℕ) → IsNumber word → begins_with_digit (word ++ rest) ≡ true
digit_first [] rest h = absurd (omega (arith, h.some))
digit_first (d ∷ ds) rest h = (and_parts (is_ascii_digit d) (list_all is_ascii_digit ds) h.digits).0

pub no_letter_first : (word : List ℕ) → begins_with_digit word ≡ true → begins_with_letter word ≡ false
no_letter_first [] h = refl
no_letter_first (b ∷ bs) h = digit_no_letter b h

no_digit_first : (word : List ℕ) → begins_with_letter word ≡ true → begins_with_digit word ≡ false
no_digit_first [] h = refl
no_digit_first (b ∷ bs) h = letter_no_digit b h

-- the next two lemmas: an offset begins with neither a letter nor a digit, and the word for a zone never begins with a
-- digit
offset_begins : (word : List ℕ) (seconds : ℤ) → IsOffsetWord word seconds → (begins_with_letter word ≡ false) × (begins_with_digit word ≡ false)
offset_begins word seconds h = elim h.signed [
  | inl east ↦ rw east.0 (refl, refl)
  | inr west ↦ rw west.0 (refl, refl)
]

pub zone_begins : (find : List ℕ → Option TimeZone) (word : List ℕ) (zone : TimeZone) → MeansZone find word zone → begins_with_digit word ≡ false
zone_begins find word zone (inl name) = no_digit_first word name.0
zone_begins find word zone (inr offset) = (offset_begins word offset.0 offset.1).1

-- `word` is three numbers with hyphens between them; by `date_word`, this is true of every valid date
record AreDatePieces (word : List ℕ) : Type 0 where
  year : List ℕ
  month : List ℕ
  day : List ℕ
  whole : word ≡ year ++ (45 ∷ (month ++ (45 ∷ day)))
  is_year : IsNumber year
  is_month : IsNumber month
  is_day : IsNumber day

by_numbers : (year month day : List ℕ) (y m d : Option ℕ) (date : DateNumbers) → digits_number 4 year ≡ y → digits_number 2 month ≡ m → digits_number 2 day ≡ d → date_by y m d ≡ Some date → IsNumber year × IsNumber month × IsNumber day
by_numbers year month day (Some y) (Some m) (Some d) date ey em ed h =
    (number_by 4 year y _ refl ey, number_by 2 month m _ refl em, number_by 2 day d _ refl ed)
by_numbers year month day y m d date ey em ed h = cc

date_pieces : (word : List ℕ) (pieces : List (List ℕ)) (date : DateNumbers) → word ≡ join_with_byte 45 pieces → date_of_pieces pieces ≡ Some date → AreDatePieces word
date_pieces word (year ∷ month ∷ day ∷ []) date whole h =
    let are = by_numbers year month day _ _ _ date refl refl refl h in
    record { year = year; month = month; day = day; whole = whole; is_year = are.0; is_month = are.1; is_day = are.2 }
date_pieces word pieces date whole h = cc

date_word : (word : List ℕ) (numbers : Option DateNumbers) (day : ℤ) → date_numbers word ≡ numbers → day_due numbers ≡ Ok day → AreDatePieces word
unfolding date_numbers
date_word word None day e h = cc
date_word word (Some date) day e h =
    date_pieces word (slice_split is_hyphen word) date (sym (join_with_byte-slice_split 45 word)) e

pub date_no_colon : (word : List ℕ) (day : ℤ) → day_written word ≡ Ok day → list_any is_colon word ≡ false
unfolding day_written
date_no_colon word day h =
    let p = date_word word _ day refl h in
    rw (p.whole, list_any-append is_colon p.year (45 ∷ (p.month ++ (45 ∷ p.day))), list_any-append is_colon p.month (45 ∷ p.day), no_colon p.year p.is_year.digits, no_colon p.month p.is_month.digits, no_colon p.day p.is_day.digits) refl

pub date_begins : (word : List ℕ) (day : ℤ) → day_written word ≡ Ok day → begins_with_letter word ≡ false
unfolding day_written
date_begins word day h =
    let p = date_word word _ day refl h in
    rw p.whole (no_letter_first (p.year ++ (45 ∷ (p.month ++ (45 ∷ p.day)))) (digit_first p.year (45 ∷ (p.month ++ (45 ∷ p.day))) p.is_year))

-- `word` begins with a number and a colon; by `time_word`, this is true of every valid time
record AreTimePieces (word : List ℕ) : Type 0 where
  hour : List ℕ
  after : List ℕ
  whole : word ≡ hour ++ (58 ∷ after)
  is_hour : IsNumber hour

hour_by : (hour : List ℕ) (n minute micros : Option ℕ) (all : ℕ) → digits_number 2 hour ≡ n → time_by (up_to 23 n) minute micros ≡ Some all → IsNumber hour
hour_by hour None minute micros all e h = cc
hour_by hour (Some n) minute micros all e h = number_by 2 hour n _ refl e

time_pieces : (word : List ℕ) (pieces : List (List ℕ)) (micros : ℕ) → word ≡ join_with_byte 58 pieces → time_of_pieces pieces ≡ Some micros → AreTimePieces word
unfolding clock_number
time_pieces word (hour ∷ minute ∷ []) micros whole h =
    record { hour = hour; after = minute; whole = whole; is_hour = hour_by hour _ _ _ micros refl h }
time_pieces word (hour ∷ minute ∷ second ∷ []) micros whole h =
    record { hour = hour; after = minute ++ (58 ∷ second); whole = whole; is_hour = hour_by hour _ _ _ micros refl h }
time_pieces word pieces micros whole h = cc

time_word : (word : List ℕ) (numbers : Option ℕ) (micros : ℕ) → time_numbers word ≡ numbers → micros_due numbers ≡ Ok micros → AreTimePieces word
unfolding time_numbers
time_word word None micros e h = cc
time_word word (Some n) micros e h =
    time_pieces word (slice_split is_colon word) n (sym (join_with_byte-slice_split 58 word)) e

pub time_has_colon : (word : List ℕ) (micros : ℕ) → time_written word ≡ Ok micros → list_any is_colon word ≡ true
unfolding time_written
time_has_colon word micros h =
    let p = time_word word _ micros refl h in
    rw (p.whole, list_any-append is_colon p.hour (58 ∷ p.after), no_colon p.hour p.is_hour.digits) refl

pub time_begins : (word : List ℕ) (micros : ℕ) → time_written word ≡ Ok micros → begins_with_digit word ≡ true
unfolding time_written
time_begins word micros h =
    let p = time_word word _ micros refl h in rw p.whole (digit_first p.hour (58 ∷ p.after) p.is_hour)

-- ## If words and a civil time satisfy `IsCivilTime`, parsing the words gives this civil time

pub means_from : (find : List ℕ → Option TimeZone) (word : List ℕ) (zone : TimeZone) → MeansZone find word zone → zone_of_word find word ≡ Ok zone
means_from find word zone (inl name) = rw (name.0, name.1) refl
means_from find word zone (inr offset) =
    rw ((offset_begins word offset.0 offset.1).0, offset-only word offset.0 offset.1, offset.2) refl

pub zone_from : (at : Setting) (name : Option (List ℕ)) (zone : TimeZone) → NamesZone at name zone → zone_by_words at (option_to_list name) ≡ Ok zone
zone_from at None zone h = ap Ok (sym h)
zone_from at (Some word) zone h = rw (means_from at.find word zone h) refl

written_from : (at : Setting) (weekday : Option Weekday) (day : Option ℤ) (micros : ℕ) (name : Option (List ℕ)) (zone : TimeZone) → NamesZone at name zone
    → civil_stamp_in at weekday day micros (option_to_list name) ≡ Ok (record { weekday = weekday; day = day; micros = micros; zone = zone })
written_from at weekday day micros name zone h = rw (zone_from at name zone h) refl

after_date_from : (at : Setting) (weekday : Option Weekday) (day : ℤ) (time name : Option (List ℕ)) (micros : ℕ) (zone : TimeZone) → WritesTime time micros → NamesZone at name zone
    → after_date at weekday day (option_to_list time ++ option_to_list name) ≡ Ok (record { weekday = weekday; day = Some day; micros = micros; zone = zone })
after_date_from at weekday day None None micros zone t z =
    rw t (written_from at weekday (Some day) 0 None zone z)
after_date_from at weekday day None (Some word) micros zone t z =
    rw (t, zone_begins at.find word zone z) (written_from at weekday (Some day) 0 (Some word) zone z)
after_date_from at weekday day (Some word) name micros zone t z =
    rw (time_begins word micros t, t) (written_from at weekday (Some day) micros name zone z)

after_weekday_from : (at : Setting) (weekday : Option Weekday) (date time name : Option (List ℕ)) (day : Option ℤ) (micros : ℕ) (zone : TimeZone) → (is_some date || is_some time) ≡ true → WritesDate date day → WritesTime time micros → NamesZone at name zone
    → after_weekday at weekday (option_to_list date ++ (option_to_list time ++ option_to_list name)) ≡ Ok (record { weekday = weekday; day = day; micros = micros; zone = zone })
after_weekday_from at weekday None None name day micros zone some d t z = cc
after_weekday_from at weekday None (Some word) name day micros zone some d t z =
    rw (time_has_colon word micros t, t, d) (written_from at weekday None micros name zone z)
after_weekday_from at weekday (Some word) time name day micros zone some d t z =
    rw (date_no_colon word d.0 d.1, d.1, d.2) (after_date_from at weekday d.0 time name micros zone t z)

civil_from : (at : Setting) (first date time name : Option (List ℕ)) (weekday : Option Weekday) (day : Option ℤ) (micros : ℕ) (zone : TimeZone) → (is_some date || is_some time) ≡ true → NamesWeekday first weekday → WritesDate date day → WritesTime time micros → NamesZone at name zone
    → civil_time at (option_to_list first ++ (option_to_list date ++ (option_to_list time ++ option_to_list name))) ≡ Ok (record { weekday = weekday; day = day; micros = micros; zone = zone })
civil_from at (Some word) date time name weekday day micros zone some w d t z =
    rw (w.1, w.2, w.3) (after_weekday_from at (Some w.0) date time name day micros zone some d t z)
civil_from at None (Some word) time name weekday day micros zone some w d t z =
    rw (date_begins word d.0 d.1, w) (after_weekday_from at None (Some word) time name day micros zone some d t z)
civil_from at None None (Some word) name weekday day micros zone some w d t z =
    rw (no_letter_first word (time_begins word micros t), w) (after_weekday_from at None None (Some word) name day micros zone some d t z)
civil_from at None None None name weekday day micros zone some w d t z = cc

pub only : (at : Setting) (ws : List (List ℕ)) (c : CivilStamp) → IsCivilTime at ws c → civil_time at ws ≡ Ok c
only at ws c h =
    ap (civil_time at) h.whole ∙ civil_from at h.weekday h.date h.time h.zone c.weekday c.day c.micros c.zone h.some h.has_weekday h.has_date h.has_time h.has_zone

-- ## If parsing words gives a civil time, the words and the civil time satisfy `IsCivilTime`

means_name : (found : Option TimeZone) (zone : TimeZone) → name_found found ≡ Ok zone → found ≡ Some zone
means_name None zone h = cc
means_name (Some z) zone h = cc

means_offset : (word : List ℕ) (zone : TimeZone) (offset : Option ℤ) → offset_in word ≡ offset → offset_found offset ≡ Ok zone → (seconds : ℤ) × IsOffsetWord word seconds × (zone ≡ fixed_offset_zone seconds)
means_offset word zone None e h = cc
means_offset word zone (Some seconds) e h = (seconds, offset-found word seconds e, cc)

pub means : (find : List ℕ → Option TimeZone) (word : List ℕ) (zone : TimeZone) → zone_of_word find word ≡ Ok zone → MeansZone find word zone
means find word zone h =
    elim (cases_Bool (begins_with_letter word)) [
      | inl letter ↦ inl (letter, means_name (find word) zone (rw letter at h))
      | inr other ↦ inr (means_offset word zone _ refl (rw other at h))
    ]

pub zone_of_words : (at : Setting) (ws : List (List ℕ)) (zone : TimeZone) → zone_by_words at ws ≡ Ok zone → (name : Option (List ℕ)) × (ws ≡ option_to_list name) × NamesZone at name zone
zone_of_words at [] zone h = (None, refl, cc)
zone_of_words at (w ∷ []) zone h =
    let meant = bind_ok (zone_of_word at.find w) (λ z. zone_alone z []) zone h in
    (Some w, refl, means at.find w zone (meant.first ∙ meant.next))
zone_of_words at (w ∷ v ∷ vs) zone h =
    let none = (bind_ok (zone_of_word at.find w) (λ z. zone_alone z (v ∷ vs)) zone h).next in cc

-- In this module, `first` is the word for the weekday, or `None` if no weekday is named. The lemmas are about the words
-- that come after the weekday.
module _ (at : Setting) (first : Option (List ℕ)) (weekday : Option Weekday) (c : CivilStamp) (names : NamesWeekday first weekday) where
  written : (date time : Option (List ℕ)) (day : Option ℤ) (micros : ℕ) (ws : List (List ℕ)) → (is_some date || is_some time) ≡ true → WritesDate date day → WritesTime time micros → civil_stamp_in at weekday day micros ws ≡ Ok c
      → IsCivilTime at (option_to_list first ++ (option_to_list date ++ (option_to_list time ++ ws))) c
  written date time day micros ws some d t h =
      let read = bind_ok (zone_by_words at ws) (λ zone. Ok (record { weekday = weekday; day = day; micros = micros; zone = zone })) c h in
      let last = zone_of_words at ws read.value read.first in
      let same : ◌≡◌ {A = CivilStamp} (record { weekday = weekday; day = day; micros = micros; zone = read.value }) c = (let e = read.next in cc) in
      rw (← same) (record {
        weekday = first;
        date = date;
        time = time;
        zone = last.0;
        whole = ap (λ vs. option_to_list first ++ (option_to_list date ++ (option_to_list time ++ vs))) last.1;
        some = some;
        has_weekday = names;
        has_date = d;
        has_time = t;
        has_zone = last.2;
      })

  after_day : (d : List ℕ) (day : ℤ) (ws : List (List ℕ)) → day_written d ≡ Ok day → after_date at weekday day ws ≡ Ok c → IsCivilTime at (option_to_list first ++ (d ∷ ws)) c
  after_day d day [] e h = written (Some d) None (Some day) 0 [] refl (day, e, refl) refl h
  after_day d day (w ∷ ws) e h =
      elim (cases_Bool (begins_with_digit w)) [
        | inl digit ↦ (let time = bind_ok (time_written w) (λ micros. civil_stamp_in at weekday (Some day) micros ws) c (rw digit at h) in written (Some d) (Some w) (Some day) time.value ws refl (day, e, refl) time.first time.next)
        | inr other ↦ written (Some d) None (Some day) 0 (w ∷ ws) refl (day, e, refl) refl (rw other at h)
      ]

  body : (ws : List (List ℕ)) → after_weekday at weekday ws ≡ Ok c → IsCivilTime at (option_to_list first ++ ws) c
  body [] h = cc
  body (w ∷ ws) h =
      elim (cases_Bool (list_any is_colon w)) [
        | inl colon ↦ (let time = bind_ok (time_written w) (λ micros. civil_stamp_in at weekday None micros ws) c (rw colon at h) in written None (Some w) None time.value ws refl refl time.first time.next)
        | inr none ↦ (let day = bind_ok (day_written w) (λ day. after_date at weekday day ws) c (rw none at h) in after_day w day.value ws day.first day.next)
      ]

named : (at : Setting) (w : List ℕ) (ws : List (List ℕ)) (c : CivilStamp) (weekday : Option Weekday) → begins_with_letter w ≡ true → day_named w ≡ weekday → weekday_found at weekday ws ≡ Ok c → IsCivilTime at (w ∷ ws) c
named at w ws c None letter e h = cc
named at w ws c (Some day) letter e h = body at (Some w) (Some day) c (day, letter, e, refl) ws h

pub found : (at : Setting) (ws : List (List ℕ)) (c : CivilStamp) → civil_time at ws ≡ Ok c → IsCivilTime at ws c
found at [] c h = cc
found at (w ∷ ws) c h =
    elim (cases_Bool (begins_with_letter w)) [
      | inl letter ↦ named at w ws c _ letter refl (rw letter at h)
      | inr other ↦ body at None None c refl (w ∷ ws) (rw other at h)
    ]
