-- Parsing a printed instant gives the same instant if, at this instant, the zone's clock shows a year from 1970 to 2199
-- and the zone's UTC offset is a whole number of minutes.
use Rattle.std.proofs.Common.{◌≡◌, ℕ, ◌+◌, ◌-◌, ◌*◌, ◌/◌, ◌%◌, ◌<◌, ◌≤◌, true, false, inr, List, [], ◌∷◌, ◌++◌, length, get_or, codes, ℤ, pos, neg_ℤ, ◌+ℤ◌, ◌*ℤ◌, ◌≤ℤ◌, Option, Some, Ok, Err, refl, sym, ap, ◌∙◌, arith, append_assoc, append-nil, decimal, eq-eqb, length-append, leb-true, reverse, slice_index_or, unsigned_abs}
use Rattle.std.specs.List.{list_any}
use Rattle.std.proofs.lemmas.List.{get_or-reverse}
use Rattle.std.proofs.Math.ListN.{get_or-append}
use Rattle.std.proofs.Math.Seq.{get_or-append_right}
use Rattle.std.proofs.lemmas.Bool.Decides.{nat_tests}
use Rattle.jiff.proofs.SpanFacts.{signed_arith}
use Rattle.jiff.specs.Types.{Date, TimeZone, UTC, Weekday}
use Rattle.jiff.specs.Words.{epoch_day, monday_zero, nanos_of_seconds, weekday_of, IsBetween}
use Rattle.jiff_core.proofs.CalendarLemmas.{weekday_number_bound}
use Rattle.jiff_core.specs.Calendar.{weekday_number}
use Rattle.jiff_core.specs.declared.civil.weekday.Weekday.TheVariants.{Sunday}
use Rattle.cal_civil.proofs.DayLemmas.{epoch_day-date_of}
use Rattle.cal_zone.proofs.YearLemmas.{year-from_1969, year-from_1970, year-to_2199}
use Rattle.cal_zone.proofs.ZoneLemmas.{offset_at-in_range}
use Rattle.cal_zone.specs.rules.Civil.{civil_of, shown_fields}
use Rattle.cal_civil.specs.rules.Days.{date_of}
use Rattle.cal_zone.specs.rules.Instant.{IsInstant, micros_of}
use Rattle.cal_civil.specs.rules.OffsetText.{zeros}
use Rattle.cal_zone.specs.rules.InstantText.{date_text, instant_text, shown_text, time_text, weekday_name}
use Rattle.cal_civil.specs.rules.LocalSecond.{IsLocalSecond, day_of, hour_of, minute_of, second_of, second_of_day}
use Rattle.cal_zone.specs.rules.Place.{settle_of}
use Rattle.cal_civil.specs.rules.Weekday.{short_name_of, week}
use Rattle.cal_zone.specs.rules.Zone.{local_shown_at, utc, zone_of}
use Rattle.cal_zone.specs.rules.ZoneTable.{ZoneMap, zone_named}
use Rattle.cal_zone.specs.declared.civil_fields.Civil.{Civil}
use Rattle.cal_zone.specs.declared.zone.Zone.{Zone}
use Rattle.cal_spec.proofs.WordsBetween.{words_only}
use Rattle.cal_bytes.specs.rules.Separators.{is_colon, is_blank, words}
use Rattle.cal_spec.specs.rules.WordsOfText.{IsWord}
use Rattle.cal_bytes.specs.rules.TrimRule.{StartsSolid, IsTrimmed}
use Rattle.cal_stamp.proofs.StampCounted.{in_time}
use Rattle.cal_stamp.proofs.StampPrintedTexts.{IsClock, IsDayName, date_back, date_no_colon, date_solid, date_some, date_word, in_week, other_date_back, short_names, time_back, time_digit, time_solid, time_some, time_word, year_of}
use Rattle.cal_zone.proofs.PlaceLemmas.{local_shown_at-UTC}
use Rattle.cal_stamp.proofs.StampPrintedZones.{IsLastWord, last_byte, shown_last, shown_offset, shown_read, shown_unread, shown_word, utc_minutes}
use Rattle.cal_stamp.proofs.StampRuleLemmas.{only}
use Rattle.cal_bytes.specs.rules.AndThen.{◌>>=◌}
use Rattle.cal_zone.specs.rules.Setting.{Setting}
use Rattle.cal_stamp.specs.computed.Stamp.{after_date, civil_time, fits_weekday, in_moments, moment_in, moment_of_form, moment_of_civil_stamp, settle_on, civil_stamp_in, zone_of_word}
use Rattle.cal_stamp.specs.rules.StampTime.{begins_with_digit, time_written}
use Rattle.cal_stamp.specs.rules.StampDate.{day_written}
use Rattle.cal_stamp.specs.rules.StampRule.{Form, civil, counted, earlier, later, FitsByEnd, FitsBySign, FitsByWords, HasForm, IsBehindSign, IsBeforeWord, IsRelativeDay}
use Rattle.cal_stamp.specs.rules.StampPrinted.{ShowsMinutes, ShowsYear}
use Rattle.cal_stamp.specs.rules.StampViews.{setting}
use Rattle.cal_stamp.specs.declared.fault.StampFault.TheVariants.{NoSuchDate, StrayWord}

-- ## The form of a printed instant
--
-- A printed instant consists of a weekday, a date, a time and a zone. The names of definitions and lemmas say `line`
-- for a printed instant.

abbrev after_name : List ℕ → List ℕ → List ℕ → List ℕ
after_name date time zone = 32 ∷ (date ++ (32 ∷ (time ++ (32 ∷ zone))))

abbrev line : List ℕ → List ℕ → List ℕ → List ℕ → List ℕ
line name date time zone = name ++ after_name date time zone

abbrev line_words : List ℕ → List ℕ → List ℕ → List ℕ → List (List ℕ)
line_words name date time zone = name ∷ date ∷ time ∷ zone ∷ []

last_of : (front back : List ℕ) → 0 < length back → last_byte (front ++ back) ≡ last_byte back
last_of front back some =
    let long = length-append front back in
    let here : length (front ++ back) - 1 - length front ≡ length back - 1 = omega (arith, long) in
    get_or-append_right front back (length (front ++ back) - 1) 0 (omega (arith, long)) ∙ ap (λ k. get_or back k 0) here

capital_no_blank : (b : ℕ) → 65 ≤ b → is_blank b ≡ false
capital_no_blank b h = grind (arith, nat_tests)

last_no_blank : (b : ℕ) → 43 ≤ b → is_blank b ≡ false
last_no_blank b h = grind (arith, nat_tests)

solid_at : (text : List ℕ) → is_blank (get_or text 0 0) ≡ false → StartsSolid is_blank text
solid_at [] h = tt
solid_at (b ∷ bs) h = h

-- a text whose first byte is at least 65 (`A`) doesn't begin with `sign`, which is below 65
no_sign : (core : List ℕ) (sign : ℕ) (means : List ℕ → Form) → 65 ≤ get_or core 0 0 → sign < 65 → (other : Form) → IsBehindSign (sign ∷ []) means core other → ⊥
no_sign core sign means capital below other p = absurd (omega (arith, capital, below, ap (λ t. get_or t 0 0) p.1))

-- if the last byte of `word` is above 90 (`Z`), and the last byte of a text is at most 90, the text doesn't end with a
-- blank and `word`
no_word : (core word : List ℕ) (means : List ℕ → Form) → last_byte core ≤ 90 → ((blank : ℕ) → last_byte (blank ∷ word) ≤ 90 → ⊥) → (other : Form) → IsBeforeWord word means core other → ⊥
no_word core word means last apart other p =
    let same : last_byte core ≡ last_byte (p.1 ∷ word) = ap last_byte p.3 ∙ last_of p.0 (p.1 ∷ word) (omega arith) in
    apart p.1 (omega (arith, same, last))

-- a text whose first word has three bytes doesn't begin with `today`, `yesterday` or `tomorrow`, which are longer
no_relative_day : (core name word : List ℕ) (rest : List (List ℕ)) (shift : ℤ) → words core ≡ name ∷ rest → length name ≡ 3 → 3 < length word → (other : Form) → IsRelativeDay word shift core other → ⊥
no_relative_day core name word rest shift are short long other p =
    let same : name ∷ rest ≡ word ∷ p.0 = sym are ∙ p.1 in
    let first : name ≡ word = cc in
    absurd (omega (arith, short, long, ap length first))

-- `name` is the name of the weekday `day`; `date`, `time` and `zone` are words, and `zone` can be the last word of a
-- printed instant
record IsLine (day : Weekday) (name date time zone : List ℕ) : Type 0 where
  named : IsDayName day name
  date_word : IsWord date
  time_word : IsWord time
  zone_word : IsLastWord zone

module _ (day : Weekday) (name date time zone : List ℕ) (is : IsLine day name date time zone) where
  line_read : words (line name date time zone) ≡ line_words name date time zone
  line_read =
      words_only (line name date time zone) (line_words name date time zone)
      ([], after_name date time zone, refl, refl, record { some = omega (arith, is.named.long); solid = is.named.solid }, refl, (32 ∷ [], 32 ∷ (time ++ (32 ∷ zone)), refl, refl, is.date_word, refl, (32 ∷ [], 32 ∷ zone, refl, refl, is.time_word, refl, (32 ∷ [], [], ap (λ t. 32 ∷ t) (sym (append-nil zone)), refl, is.zone_word.is_word, tt, refl))))

  line_long : 3 < length (line name date time zone)
  line_long = omega (arith, is.named.long, length-append name (after_name date time zone))

  line_capital : 65 ≤ get_or (line name date time zone) 0 0
  line_capital =
      let capital = leb-true 65 (get_or name 0 0) is.named.capital in
      omega (arith, capital, get_or-append name (after_name date time zone) 0 0 (omega (arith, is.named.long)))

  -- the last byte of a printed instant is the last byte of its zone
  line_last : last_byte (line name date time zone) ≡ last_byte zone
  line_last =
      last_of name (after_name date time zone) (omega arith)
      ∙ last_of (32 ∷ date) (32 ∷ (time ++ (32 ∷ zone))) (omega arith)
      ∙ last_of (32 ∷ time) (32 ∷ zone) (omega arith)
      ∙ last_of (32 ∷ []) zone is.zone_word.is_word.some

  line_end : last_byte (line name date time zone) ≤ 90
  line_end = omega (arith, line_last, is.zone_word.to)

  line_trimmed : IsTrimmed is_blank (line name date time zone) (line name date time zone)
  line_trimmed =
      let core = line name date time zone in
      let back : get_or (reverse core) 0 0 ≡ last_byte core = get_or-reverse core 0 0 (omega (arith, line_long)) ∙ ap (λ k. get_or core k 0) (omega arith) in
      record {
        front = [];
        back = [];
        blanks = tt;
        blanks_after = tt;
        whole = sym (append-nil core);
        solid_start = solid_at core (capital_no_blank (get_or core 0 0) line_capital);
        solid_end = solid_at (reverse core) (ap is_blank (back ∙ line_last) ∙ last_no_blank (last_byte zone) is.zone_word.from);
      }

  fits_words : FitsByWords (line name date time zone) (civil (line_words name date time zone))
  fits_words =
      let rest = date ∷ time ∷ zone ∷ [] in
      let core = line name date time zone in
      inr (no_relative_day core name (codes "today") rest (pos 0) line_read is.named.long (omega arith), inr (no_relative_day core name (codes "yesterday") rest (neg_ℤ (pos 1)) line_read is.named.long (omega arith), inr (no_relative_day core name (codes "tomorrow") rest (pos 1) line_read is.named.long (omega arith), ap civil (sym line_read))))

  fits_end : FitsByEnd (line name date time zone) (civil (line_words name date time zone))
  fits_end =
      let core = line name date time zone in
      inr (no_word core (codes "left") later line_end (λ b e. absurd (omega (arith, e))), inr (no_word core (codes "ago") earlier line_end (λ b e. absurd (omega (arith, e))), fits_words))

  fits_sign : FitsBySign (line name date time zone) (civil (line_words name date time zone))
  fits_sign =
      let core = line name date time zone in
      inr (no_sign core 43 later line_capital (omega arith), inr (no_sign core 45 earlier line_capital (omega arith), inr (no_sign core 64 counted line_capital (omega arith), fits_end)))

  -- a printed instant has the form of a civil time
  line_form : HasForm (line name date time zone) (civil (line_words name date time zone))
  line_form = record {
    core = line name date time zone;
    trimmed = line_trimmed;
    fits = inr (λ other p. absurd (omega (arith, line_long, ap length p.0)), inr (λ other p. absurd (omega (arith, line_long, ap length p.0)), fits_sign));
  }

-- ## Parsing the words of a printed instant, from left to right

date_first : (at : Setting) (day : Weekday) (name date time zone : List ℕ) → IsDayName day name → list_any is_colon date ≡ false
    → civil_time at (line_words name date time zone) ≡ (day_written date >>= λ number. after_date at (Some day) number (time ∷ zone ∷ []))
date_first at day name date time zone h colon = rw (h.letter, h.named, colon) refl

then_time : (at : Setting) (day : Weekday) (number : ℤ) (time zone : List ℕ) (micros : ℕ) → begins_with_digit time ≡ true → time_written time ≡ Ok micros
    → after_date at (Some day) number (time ∷ zone ∷ []) ≡ civil_stamp_in at (Some day) (Some number) micros (zone ∷ [])
then_time at day number time zone micros digit read = rw (digit, read) refl

then_zone : (at : Setting) (day : Option Weekday) (number : Option ℤ) (micros : ℕ) (word : List ℕ) (zone : TimeZone) → zone_of_word at.find word ≡ Ok zone
    → civil_stamp_in at day number micros (word ∷ []) ≡ Ok (record { weekday = day; day = number; micros = micros; zone = zone })
then_zone at day number micros word zone meant = rw meant refl

no_zone : (at : Setting) (day : Option Weekday) (number : Option ℤ) (micros : ℕ) (word : List ℕ) → zone_of_word at.find word ≡ Err StrayWord → civil_stamp_in at day number micros (word ∷ []) ≡ Err StrayWord
no_zone at day number micros word meant = rw meant refl

-- ## The text that is printed for a date, a second of the day and the word for a zone

abbrev date_in : Date → List ℕ
date_in date = date_word (year_of date) date.month date.day

abbrev time_in : ℕ → List ℕ
time_in second = time_word (hour_of second) (minute_of second) (second_of second)

abbrev day_in : Date → Weekday
day_in date = slice_index_or week (weekday_of date) Sunday

abbrev line_of : Date → ℕ → List ℕ → List ℕ
line_of date second zone = line (short_name_of (day_in date)) (date_in date) (time_in second) zone

clock_of : (second : ℕ) → second < 86_400 → IsClock (hour_of second) (minute_of second) (second_of second)
clock_of second h = record { hour_in = omega arith; minute_in = omega arith; second_in = omega arith }

is_line : (date : Date) (second : ℕ) (zone : List ℕ) → second < 86_400 → IsLastWord zone → IsLine (day_in date) (short_name_of (day_in date)) (date_in date) (time_in second) zone
is_line date second zone h last =
    let clock = clock_of second h in
    record {
      named = short_names (day_in date);
      date_word = record { some = date_some date; solid = date_solid date };
      time_word = record { some = time_some (hour_of second) (minute_of second) (second_of second) clock; solid = time_solid (hour_of second) (minute_of second) (second_of second) clock };
      zone_word = last;
    }

-- The printed date is three padded numbers with hyphens between them, and the printed time is three padded numbers with
-- colons between them. A padded number is zeros followed by digits. The first lemma only regroups these pieces.
pieces_row : (sign : ℕ) (a b c d e f : List ℕ) → a ++ (b ++ ((sign ∷ []) ++ (c ++ (d ++ ((sign ∷ []) ++ (e ++ (f ++ []))))))) ≡ (a ++ b) ++ (sign ∷ ((c ++ d) ++ (sign ∷ (e ++ f))))
pieces_row sign a b c d e f = simp (append_assoc, append-nil)

date_printed : (c : Civil) → date_text c ≡ date_word (unsigned_abs c.year) c.month c.day
unfolding date_text
date_printed c =
    let year = unsigned_abs c.year in
    pieces_row 45 (zeros 4 year) (decimal year) (zeros 2 c.month) (decimal c.month) (zeros 2 c.day) (decimal c.day)

time_printed : (hour minute second : ℕ) → time_text hour minute second ≡ time_word hour minute second
unfolding time_text
time_printed hour minute second =
    pieces_row 58 (zeros 2 hour) (decimal hour) (zeros 2 minute) (decimal minute) (zeros 2 second) (decimal second)

pieces_line : (name date time zone : List ℕ) → (name ++ (32 ∷ (date ++ (32 ∷ (time ++ (32 ∷ [])))))) ++ zone ≡ line name date time zone
pieces_line name date time zone = simp append_assoc

fields_printed : (date : Date) (second : ℕ) (offset : ℤ) (zone : List ℕ) → shown_text (shown_fields date second offset) ++ zone ≡ line_of date second zone
unfolding shown_text weekday_name
fields_printed date second offset zone =
    let number : weekday_of date + 1 - 1 ≡ weekday_of date = omega arith in
    rw (number, date_printed (shown_fields date second offset), time_printed (hour_of second) (minute_of second) (second_of second))
    (pieces_line (short_name_of (day_in date)) (date_in date) (time_in second) zone)

-- the local second that the zone's clock shows at an instant
abbrev local_in : Zone → ℤ → ℤ
local_in zone secs = local_shown_at (zone_of zone) secs

abbrev shown_date : Zone → ℤ → Date
shown_date zone secs = date_of (day_of (local_in zone secs))

printed_line : (zone : Zone) (secs : ℤ) → instant_text zone secs ≡ line_of (shown_date zone secs) (second_of_day (local_in zone secs)) (shown_word zone secs)
unfolding instant_text civil_of
printed_line zone secs =
    fields_printed (shown_date zone secs) (second_of_day (local_in zone secs)) (shown_offset zone secs) (shown_word zone secs)

-- ## The moment to which a printed instant resolves

second_below : (secs : ℤ) → second_of_day secs < 86_400
second_below secs = omega (arith, signed_arith)

-- The next three lemmas: at an instant, a clock shows a local second from -93,599 to 7,258,305,597. The date that the
-- clock shows has the day number of this local second, and its year is 1969 or later.
local_within : (zone : Zone) (secs : ℤ) → IsInstant secs → IsBetween (neg_ℤ (pos 93_599)) (pos 7_258_305_597) (local_in zone secs)
unfolding local_shown_at
local_within zone secs h =
    let offset = offset_at-in_range (zone_of zone) (nanos_of_seconds secs) in
    (omega (arith, signed_arith, h.0, offset.0), omega (arith, signed_arith, h.1, offset.1))

shown_day : (zone : Zone) (secs : ℤ) → IsInstant secs → epoch_day (shown_date zone secs) ≡ day_of (local_in zone secs)
shown_day zone secs h =
    let within = local_within zone secs h in
    epoch_day-date_of (day_of (local_in zone secs)) (omega (arith, signed_arith, within.0), omega (arith, signed_arith, within.1))

shown_since : (zone : Zone) (secs : ℤ) → IsInstant secs → pos 1_969 ≤ℤ (shown_date zone secs).year
shown_since zone secs h =
    let within = local_within zone secs h in
    year-from_1969 (shown_date zone secs) (omega (arith, signed_arith, shown_day zone secs h, within.0))

-- parsing a printed instant comes down to parsing its date, then its time and its zone, and converting the civil time
-- to a moment
words_read : (now : ℤ) (at : Setting) (date : Date) (second : ℕ) (zone : List ℕ) → second < 86_400 → IsLastWord zone
    → moment_in now at (line_of date second zone)
    ≡ ((day_written (date_in date) >>= λ number. after_date at (Some (day_in date)) number (time_in second ∷ zone ∷ [])) >>= λ stamp. moment_of_civil_stamp now stamp)
unfolding moment_in
words_read now at date second zone h last =
    let name = short_name_of (day_in date) in
    let is = is_line date second zone h last in
    ap (moment_of_form now at) (sym (only (line_of date second zone) (civil (line_words name (date_in date) (time_in second) zone)) (line_form (day_in date) name (date_in date) (time_in second) zone is)))
    ∙ ap (λ read. read >>= λ stamp. moment_of_civil_stamp now stamp) (date_first at (day_in date) name (date_in date) (time_in second) zone is.named (date_no_colon date))

-- the microseconds from midnight to a second of the day, as the parser of times computes them
abbrev micros_in : ℕ → ℕ
micros_in second = (hour_of second * 3_600 + minute_of second * 60) * 1_000_000 + (second_of second * 1_000_000 + 0)

micros_in-is : (second : ℕ) → second < 86_400 → micros_in second ≡ second * 1_000_000
micros_in-is second h = omega arith

settle_on_back : (zone : TimeZone) (local secs : ℤ) → IsInstant secs → settle_of zone local ≡ secs → settle_on zone (day_of local) (micros_in (second_of_day local)) ≡ Ok (micros_of secs)
unfolding settle_on
settle_on_back zone local secs h back =
    let micros = micros_in-is (second_of_day local) (second_below local) in
    let shown = day_of local *ℤ pos 86_400 +ℤ pos (micros_in (second_of_day local) / 1_000_000) in
    let whole : shown ≡ local = omega (arith, signed_arith, micros) in
    let rest : micros_in (second_of_day local) % 1_000_000 ≡ 0 = omega (arith, micros) in
    let settles : settle_of zone shown ≡ secs = ap (settle_of zone) whole ∙ back in
    let same : micros_of (settle_of zone shown) +ℤ pos (micros_in (second_of_day local) % 1_000_000) ≡ micros_of secs = omega (arith, signed_arith, settles, rest) in
    ap in_moments same ∙ in_time (micros_of secs) (omega (arith, signed_arith, h.0)) (omega (arith, signed_arith, h.1))

fits : (date : Date) (number : ℤ) → epoch_day date ≡ number → fits_weekday (Some (day_in date)) number ≡ true
fits date number e =
    let same : weekday_number number ≡ monday_zero (day_in date) = ap weekday_number (sym e) ∙ sym (in_week (weekday_of date) (weekday_number_bound (epoch_day date))) in
    eq-eqb (weekday_number number) (monday_zero (day_in date)) same

moment_back : (now local secs : ℤ) (zone : TimeZone) (date : Date) → IsInstant secs → settle_of zone local ≡ secs → epoch_day date ≡ day_of local
    → moment_of_civil_stamp now (record { weekday = Some (day_in date); day = Some (day_of local); micros = micros_in (second_of_day local); zone = zone }) ≡ Ok (micros_of secs)
unfolding moment_of_civil_stamp
moment_back now local secs zone date h back e =
    rw (fits date (day_of local) e) (settle_on_back zone local secs h back)

-- ## The proof of `printed_instants_read_back` in `cal_stamp::laws`

-- if the year of a printed instant is from 1970 to 2199, its date and its time are valid, so what remains is to parse
-- its zone and to convert the civil time to a moment
zone_judged : (now local : ℤ) (at : Setting) (date : Date) (zone : List ℕ) → IsLastWord zone → IsBetween (pos 1_970) (pos 2_199) date.year → epoch_day date ≡ day_of local
    → moment_in now at (line_of date (second_of_day local) zone)
    ≡ (civil_stamp_in at (Some (day_in date)) (Some (day_of local)) (micros_in (second_of_day local)) (zone ∷ []) >>= λ stamp. moment_of_civil_stamp now stamp)
zone_judged now local at date zone last years e =
    let second = second_of_day local in
    let below = second_below local in
    let clock = clock_of second below in
    let day : day_written (date_in date) ≡ Ok (day_of local) = date_back date years ∙ ap Ok e in
    let time = then_time at (day_in date) (day_of local) (time_in second) zone (micros_in second) (time_digit (hour_of second) (minute_of second) (second_of second) clock) (time_back (hour_of second) (minute_of second) (second_of second) clock) in
    words_read now at date second zone below last
    ∙ rw (day, time) refl

pub reads_back : (now : ℤ) (local : TimeZone) (table : ZoneMap) (zone : Zone) (secs : ℤ) → IsInstant secs → ShowsYear (civil_of (zone_of zone) secs) → ShowsMinutes (civil_of (zone_of zone) secs)
    → moment_in now (setting local (zone_named table)) (instant_text zone secs) ≡ Ok (micros_of secs)
unfolding civil_of
reads_back now local table zone secs h years minutes =
    let at = setting local (zone_named table) in
    let date = shown_date zone secs in
    let shows = local_in zone secs in
    let day = shown_day zone secs h in
    let read = shown_read table zone secs minutes in
    let written = then_zone at (Some (day_in date)) (Some (day_of shows)) (micros_in (second_of_day shows)) (shown_word zone secs) read.zone read.meant in
    ap (moment_in now at) (printed_line zone secs)
    ∙ zone_judged now shows at date (shown_word zone secs) (shown_last zone secs) years day
    ∙ ap (λ read. read >>= λ stamp. moment_of_civil_stamp now stamp) written
    ∙ moment_back now shows secs read.zone date h read.back day

pub seconds_are_unread : (now : ℤ) (local : TimeZone) (table : ZoneMap) (zone : Zone) (secs : ℤ) → IsInstant secs → ShowsYear (civil_of (zone_of zone) secs) → (ShowsMinutes (civil_of (zone_of zone) secs) → ⊥)
    → moment_in now (setting local (zone_named table)) (instant_text zone secs) ≡ Err StrayWord
unfolding civil_of
seconds_are_unread now local table zone secs h years none =
    let at = setting local (zone_named table) in
    let date = shown_date zone secs in
    let shows = local_in zone secs in
    let stray = no_zone at (Some (day_in date)) (Some (day_of shows)) (micros_in (second_of_day shows)) (shown_word zone secs) (shown_unread (zone_named table) zone secs none) in
    ap (moment_in now at) (printed_line zone secs)
    ∙ zone_judged now shows at date (shown_word zone secs) (shown_last zone secs) years (shown_day zone secs h)
    ∙ ap (λ read. read >>= λ stamp. moment_of_civil_stamp now stamp) stray

pub reads_as_none : (now : ℤ) (local : TimeZone) (table : ZoneMap) (zone : Zone) (secs : ℤ) → IsInstant secs → (ShowsYear (civil_of (zone_of zone) secs) → ⊥)
    → moment_in now (setting local (zone_named table)) (instant_text zone secs) ≡ Err NoSuchDate
unfolding civil_of
reads_as_none now local table zone secs h none =
    let at = setting local (zone_named table) in
    let shows = local_in zone secs in
    ap (moment_in now at) (printed_line zone secs)
    ∙ words_read now at (shown_date zone secs) (second_of_day shows) (shown_word zone secs) (second_below shows) (shown_last zone secs)
    ∙ rw (other_date_back (shown_date zone secs) (shown_since zone secs h) none) refl

-- the next two lemmas: at a second from 1970 to 2199, the year on a clock in UTC is from 1970 to 2199; the UTC offset
-- of this clock is a whole number of minutes
utc_shows : (secs : ℤ) → IsLocalSecond secs → ShowsYear (civil_of (zone_of utc) secs)
unfolding civil_of zone_of
utc_shows secs h =
    let same = local_shown_at-UTC secs in
    let day = epoch_day-date_of (day_of (local_shown_at UTC secs)) (omega (arith, signed_arith, same, h.0), omega (arith, signed_arith, same, h.1)) in
    (year-from_1970 (date_of (day_of (local_shown_at UTC secs))) (omega (arith, signed_arith, same, day, h.0)), year-to_2199 (date_of (day_of (local_shown_at UTC secs))) (omega (arith, signed_arith, same, day, h.1)))

utc_minute : (secs : ℤ) → ShowsMinutes (civil_of (zone_of utc) secs)
unfolding civil_of zone_of
utc_minute secs = utc_minutes secs

pub reads_back_utc : (now : ℤ) (local : TimeZone) (table : ZoneMap) (secs : ℤ) → IsLocalSecond secs
    → moment_in now (setting local (zone_named table)) (instant_text utc secs) ≡ Ok (micros_of secs)
reads_back_utc now local table secs h =
    reads_back now local table utc secs (h.0, omega (arith, signed_arith, h.1)) (utc_shows secs h) (utc_minute secs)
