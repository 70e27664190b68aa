-- Parsing the last word of a printed instant, which is `UTC` or an offset.
use Rattle.std.proofs.Common.{◌≡◌, ℕ, ◌-◌, ◌/◌, ◌%◌, ◌<◌, ◌≤◌, ◌==◌, inl, inr, Bool, true, false, ◌&&◌, List, [], ◌∷◌, ◌++◌, length, get_or, codes, decimal, nat_le, ℤ, pos, negsuc, int_lt, ◌-ℤ◌, unsigned_abs, Option, None, Some, Ok, Err, refl, ap, ◌∙◌, arith, append_assoc, append-nil, length-append}
use Rattle.std.specs.Char.{is_ascii_alphabetic, is_ascii_digit}
use Rattle.std.specs.List.{list_all}
use Rattle.std.proofs.lemmas.Bool.{ne_eqb}
use Rattle.std.proofs.lemmas.Bool.Decides.{nat_tests}
use Rattle.std.proofs.lemmas.List.Sums.{AllPass-from_list_all}
use Rattle.jiff.proofs.SpanFacts.{signed_arith}
use Rattle.jiff.specs.Types.{TimeZone, UTC}
use Rattle.jiff.specs.Words.{nanos_of_seconds, offset_at, IsOffsetSeconds}
use Rattle.cal_bytes.specs.rules.Bytes.{joined}
use Rattle.cal_bytes.proofs.General.{list_all-both, clear_of, list_all-wider}
use Rattle.cal_civil.proofs.OffsetWordLemmas.{offset-back, offset-found, two_printed, two}
use Rattle.cal_zone.proofs.OffsetLemmas.{nearest}
use Rattle.cal_zone.proofs.PlaceLemmas.{settle_of-UTC, settle_of-fixed_zone, local_shown_at-UTC}
use Rattle.cal_zone.proofs.ZoneLemmas.{offset_at-in_range}
use Rattle.cal_civil.specs.rules.OffsetText.{offset_text, sign_text, zeros}
use Rattle.cal_zone.specs.rules.InstantText.{zone_word}
use Rattle.cal_civil.specs.rules.OffsetWord.{AreWholeMinutes, IsOffsetWord}
use Rattle.cal_civil.specs.computed.ReadOffset.{offset_in}
use Rattle.cal_zone.specs.rules.Place.{settle_of}
use Rattle.cal_zone.specs.rules.Zone.{is_utc, is_utc_kind, local_shown_at, zone_of, zone_of_kind}
use Rattle.cal_zone.specs.rules.FixedOffsetZone.{offset_of_seconds, fixed_offset_zone}
use Rattle.cal_zone.specs.rules.ZoneTable.{ZoneMap, zone_named}
use Rattle.cal_civil.specs.rules.ZoneName.{begins_with_letter, is_utc_name}
use Rattle.cal_zone.specs.declared.zone.Zone.{Zone}
use Rattle.cal_zone.specs.declared.zone.ZoneKind.{ZoneKind}
use Rattle.cal_zone.specs.declared.zone.ZoneKind.TheVariants.{Utc}
use Rattle.cal_spec.specs.rules.WordsOfText.{IsWord}
use Rattle.cal_bytes.specs.rules.Separators.{is_blank}
use Rattle.cal_stamp.specs.computed.Stamp.{zone_of_word}
use Rattle.cal_stamp.specs.declared.fault.StampFault.TheVariants.{StrayWord}

abbrev pub last_byte : List ℕ → ℕ
last_byte text = get_or text (length text - 1) 0

-- `word` can be the last word of a printed instant: its last byte is from `+` to `Z`, so this byte is neither a blank
-- nor a lowercase letter
pub record IsLastWord (word : List ℕ) : Type 0 where
  pub is_word : IsWord word
  pub from : 43 ≤ last_byte word
  pub to : last_byte word ≤ 90

-- ## The bytes of an offset

-- whether a byte is from `+` to `:`, as all signs, digits and colons are
abbrev is_signed_byte : ℕ → Bool
is_signed_byte b = nat_le 43 b && nat_le b 58

digit_fits : (b : ℕ) → is_ascii_digit b ≡ true → is_signed_byte b ≡ true
digit_fits b h = grind (arith, nat_tests)

sign_fits : (b : ℕ) → 43 ≤ b → b ≤ 45 → is_signed_byte b ≡ true
sign_fits b from to = grind (arith, nat_tests)

byte_within : (b : ℕ) → is_signed_byte b ≡ true → (43 ≤ b) × (b ≤ 58)
byte_within b h =
    let from : 43 ≤ b = grind (arith, nat_tests) in let to : b ≤ 58 = grind (arith, nat_tests) in (from, to)

no_blank : (b : ℕ) → is_signed_byte b ≡ true → is_blank b ≡ false
no_blank b h = grind (arith, nat_tests)

no_letter : (b : ℕ) → b ≤ 45 → is_ascii_alphabetic b ≡ false
no_letter b to = grind (arith, nat_tests)

digits_fit : (ds : List ℕ) → list_all is_ascii_digit ds ≡ true → list_all is_signed_byte ds ≡ true
digits_fit ds = list_all-wider is_ascii_digit is_signed_byte ds digit_fits

-- `text` is a sign (a byte from `+` to `-`), followed by bytes from `+` to `:`
record IsSigned (text : List ℕ) : Type 0 where
  sign : ℕ
  body : List ℕ
  whole : text ≡ sign ∷ body
  from : 43 ≤ sign
  to : sign ≤ 45
  low : list_all is_signed_byte body ≡ true

signed_all : (text : List ℕ) (h : IsSigned text) → list_all is_signed_byte text ≡ true
signed_all text h = rw (h.whole, sign_fits h.sign h.from h.to) h.low

signed_some : (text : List ℕ) → IsSigned text → 0 < length text
signed_some text h = rw h.whole (omega arith)

signed_last : (text : List ℕ) → IsSigned text → IsLastWord text
signed_last text h =
    let all = signed_all text h in
    let some = signed_some text h in
    let within = byte_within (last_byte text) (AllPass-from_list_all is_signed_byte text all (length text - 1) 0 (omega arith)) in
    record {
      is_word = record { some = some; solid = clear_of is_signed_byte is_blank text no_blank all };
      from = within.0;
      to = omega (arith, within.1);
    }

signed_no_letter : (text : List ℕ) → IsSigned text → begins_with_letter text ≡ false
signed_no_letter text h = rw h.whole (no_letter h.sign h.to)

-- ## The text of an offset

abbrev hour_in : ℤ → List ℕ
hour_in offset = two (unsigned_abs offset / 3_600)

abbrev minute_in : ℤ → List ℕ
minute_in offset = two (unsigned_abs offset / 60 % 60)

abbrev second_in : ℤ → List ℕ
second_in offset = two (unsigned_abs offset % 60)

hours_row : (sign a b c d : List ℕ) → joined (sign ∷ a ∷ b ∷ codes ":" ∷ c ∷ d ∷ []) ≡ sign ++ ((a ++ b) ++ (58 ∷ (c ++ d)))
hours_row sign a b c d = simp (append_assoc, append-nil)

seconds_row : (sign a b c d e f : List ℕ) → joined (sign ∷ a ∷ b ∷ codes ":" ∷ c ∷ d ∷ codes ":" ∷ e ∷ f ∷ []) ≡ sign ++ ((a ++ b) ++ (58 ∷ ((c ++ d) ++ (58 ∷ (e ++ f)))))
seconds_row sign a b c d e f = simp (append_assoc, append-nil)

in_minutes : (offset : ℤ) → (unsigned_abs offset % 60 == 0) ≡ true → offset_text offset ≡ sign_text offset ++ (hour_in offset ++ (58 ∷ minute_in offset))
unfolding offset_text
in_minutes offset h =
    let ahead = unsigned_abs offset in
    rw h (hours_row (sign_text offset) (zeros 2 (ahead / 3_600)) (decimal (ahead / 3_600)) (zeros 2 (ahead / 60 % 60)) (decimal (ahead / 60 % 60)))

in_seconds : (offset : ℤ) → (unsigned_abs offset % 60 == 0) ≡ false
    → offset_text offset ≡ sign_text offset ++ (hour_in offset ++ (58 ∷ (minute_in offset ++ (58 ∷ second_in offset))))
unfolding offset_text
in_seconds offset h =
    let ahead = unsigned_abs offset in
    rw h (seconds_row (sign_text offset) (zeros 2 (ahead / 3_600)) (decimal (ahead / 3_600)) (zeros 2 (ahead / 60 % 60)) (decimal (ahead / 60 % 60)) (zeros 2 (ahead % 60)) (decimal (ahead % 60)))

abs_within : (offset : ℤ) → IsOffsetSeconds offset → unsigned_abs offset ≤ 93_599
abs_within (pos n) h = omega (arith, signed_arith, h.1)
abs_within (negsuc n) h = omega (arith, signed_arith, h.0)

signed_by : (offset : ℤ) (body : List ℕ) (west : Bool) → int_lt offset (pos 0) ≡ west → list_all is_signed_byte body ≡ true → IsSigned (sign_text offset ++ body)
signed_by offset body true e low = record { sign = 45; body = body; whole = rw e refl; from = omega arith; to = omega arith; low = low }
signed_by offset body false e low = record { sign = 43; body = body; whole = rw e refl; from = omega arith; to = omega arith; low = low }

minutes_fit : (offset : ℤ) → IsOffsetSeconds offset → list_all is_signed_byte (hour_in offset ++ (58 ∷ minute_in offset)) ≡ true
minutes_fit offset h =
    let most = abs_within offset h in
    let hour = digits_fit (hour_in offset) (two_printed (unsigned_abs offset / 3_600) (omega arith)).digits in
    let minute = digits_fit (minute_in offset) (two_printed (unsigned_abs offset / 60 % 60) (omega arith)).digits in
    list_all-both is_signed_byte (hour_in offset) (58 ∷ minute_in offset) hour minute

seconds_fit : (offset : ℤ) → IsOffsetSeconds offset → list_all is_signed_byte (hour_in offset ++ (58 ∷ (minute_in offset ++ (58 ∷ second_in offset)))) ≡ true
seconds_fit offset h =
    let most = abs_within offset h in
    let hour = digits_fit (hour_in offset) (two_printed (unsigned_abs offset / 3_600) (omega arith)).digits in
    let minute = digits_fit (minute_in offset) (two_printed (unsigned_abs offset / 60 % 60) (omega arith)).digits in
    let second = digits_fit (second_in offset) (two_printed (unsigned_abs offset % 60) (omega arith)).digits in
    list_all-both is_signed_byte (hour_in offset) (58 ∷ (minute_in offset ++ (58 ∷ second_in offset))) hour
    (list_all-both is_signed_byte (minute_in offset) (58 ∷ second_in offset) minute second)

offset_signed_by : (offset : ℤ) (whole : Bool) → IsOffsetSeconds offset → (unsigned_abs offset % 60 == 0) ≡ whole → IsSigned (offset_text offset)
offset_signed_by offset true h e = rw (in_minutes offset e) (signed_by offset _ _ refl (minutes_fit offset h))
offset_signed_by offset false h e = rw (in_seconds offset e) (signed_by offset _ _ refl (seconds_fit offset h))

offset_signed : (offset : ℤ) → IsOffsetSeconds offset → IsSigned (offset_text offset)
offset_signed offset h = offset_signed_by offset _ h refl

-- ## A printed offset of whole minutes is parsed as the same offset, and any other printed offset is rejected

whole_minutes : (offset : ℤ) → IsOffsetSeconds offset → unsigned_abs offset % 60 ≡ 0 → AreWholeMinutes offset
whole_minutes offset h whole =
    let most = abs_within offset h in record { near = omega (arith, most, whole); whole = whole }

minutes_read : (find : List ℕ → Option TimeZone) (offset : ℤ) → IsOffsetSeconds offset → unsigned_abs offset % 60 ≡ 0 → zone_of_word find (offset_text offset) ≡ Ok (fixed_offset_zone offset)
minutes_read find offset h whole =
    rw (signed_no_letter (offset_text offset) (offset_signed offset h), offset-back offset (whole_minutes offset h whole)) refl

sign_long : (offset : ℤ) (west : Bool) → int_lt offset (pos 0) ≡ west → length (sign_text offset) ≡ 1
sign_long offset true e = rw e refl
sign_long offset false e = rw e refl

row_long : (sign a b c : List ℕ) → length sign ≡ 1 → length a ≡ 2 → length b ≡ 2 → length c ≡ 2 → length (sign ++ (a ++ (58 ∷ (b ++ (58 ∷ c))))) ≡ 9
row_long sign a b c one first second third =
    omega (arith, length-append sign (a ++ (58 ∷ (b ++ (58 ∷ c)))), length-append a (58 ∷ (b ++ (58 ∷ c))), length-append b (58 ∷ c))

seconds_long : (offset : ℤ) → IsOffsetSeconds offset → (unsigned_abs offset % 60 == 0) ≡ false → length (offset_text offset) ≡ 9
seconds_long offset h e =
    let most = abs_within offset h in
    let hour = (two_printed (unsigned_abs offset / 3_600) (omega arith)).two in
    let minute = (two_printed (unsigned_abs offset / 60 % 60) (omega arith)).two in
    let second = (two_printed (unsigned_abs offset % 60) (omega arith)).two in
    rw (in_seconds offset e) (row_long (sign_text offset) (hour_in offset) (minute_in offset) (second_in offset) (sign_long offset _ refl) hour minute second)

word_long : (word : List ℕ) (seconds : ℤ) → IsOffsetWord word seconds → length word ≡ 6
word_long word seconds h =
    let c = h.clock_is in
    let clock : length h.clock ≡ 5 = (rw (c.whole, length-append) (omega (arith, c.hour_is.two, c.minute_is.two))) in
    elim h.signed [
      | inl east ↦ rw (east.0) (omega (arith, clock))
      | inr west ↦ rw (west.0) (omega (arith, clock))
    ]

long_none : (word : List ℕ) (found : Option ℤ) → length word ≡ 9 → offset_in word ≡ found → found ≡ None
long_none word None long e = refl
long_none word (Some seconds) long e = absurd (omega (arith, long, word_long word seconds (offset-found word seconds e)))

seconds_unread : (find : List ℕ → Option TimeZone) (offset : ℤ) → IsOffsetSeconds offset → (unsigned_abs offset % 60 == 0) ≡ false → zone_of_word find (offset_text offset) ≡ Err StrayWord
seconds_unread find offset h e =
    rw (signed_no_letter (offset_text offset) (offset_signed offset h), long_none (offset_text offset) _ (seconds_long offset h e) refl) refl

-- ## The word for a zone

settle_of-ahead : (offset local : ℤ) → IsOffsetSeconds offset → settle_of (fixed_offset_zone offset) local ≡ local -ℤ offset
unfolding fixed_offset_zone
settle_of-ahead offset local h =
    settle_of-fixed_zone (offset_of_seconds offset) local ∙ ap (λ seconds. local -ℤ seconds) (nearest offset h)

utc_kind : (kind : ZoneKind) → is_utc_kind kind ≡ true → zone_of_kind kind ≡ UTC
utc_kind Utc h = refl
utc_kind kind h = cc

utc_zone : (zone : Zone) → is_utc zone ≡ true → zone_of zone ≡ UTC
unfolding zone_of
utc_zone zone h = utc_kind zone.kind h

utc_of_word : (table : ZoneMap) → zone_of_word (zone_named table) (codes "UTC") ≡ Ok UTC
unfolding zone_named is_utc_name
utc_of_word table = refl

-- the UTC offset of a zone at a second
abbrev pub shown_offset : Zone → ℤ → ℤ
shown_offset zone secs = offset_at (zone_of zone) (nanos_of_seconds secs)

abbrev pub shown_word : Zone → ℤ → List ℕ
shown_word zone secs = zone_word (is_utc zone) (shown_offset zone secs)

last_by : (utc : Bool) (offset : ℤ) → IsOffsetSeconds offset → IsLastWord (zone_word utc offset)
unfolding zone_word
last_by true offset h =
    record { is_word = record { some = omega arith; solid = refl }; from = omega arith; to = omega arith }
last_by false offset h = signed_last (offset_text offset) (offset_signed offset h)

pub shown_last : (zone : Zone) (secs : ℤ) → IsLastWord (shown_word zone secs)
shown_last zone secs = last_by (is_utc zone) (shown_offset zone secs) (offset_at-in_range (zone_of zone) (nanos_of_seconds secs))

-- `word` stands for a zone in which the local second `local` is converted to the instant `secs`
pub record ConvertsBack (find : List ℕ → Option TimeZone) (word : List ℕ) (local secs : ℤ) : Type 0 where
  pub zone : TimeZone
  pub meant : zone_of_word find word ≡ Ok zone
  pub back : settle_of zone local ≡ secs

read_by : (table : ZoneMap) (tz : TimeZone) (utc : Bool) (secs : ℤ) → (utc ≡ true → tz ≡ UTC) → unsigned_abs (offset_at tz (nanos_of_seconds secs)) % 60 ≡ 0
    → ConvertsBack (zone_named table) (zone_word utc (offset_at tz (nanos_of_seconds secs))) (local_shown_at tz secs) secs
unfolding zone_word local_shown_at
read_by table tz true secs is h = record {
  zone = UTC;
  meant = utc_of_word table;
  back = settle_of-UTC (local_shown_at tz secs) ∙ ap (λ z. local_shown_at z secs) (is refl) ∙ local_shown_at-UTC secs;
}
read_by table tz false secs is h =
    let offset = offset_at tz (nanos_of_seconds secs) in
    let within = offset_at-in_range tz (nanos_of_seconds secs) in
    record {
      zone = fixed_offset_zone offset;
      meant = minutes_read (zone_named table) offset within h;
      back = settle_of-ahead offset (local_shown_at tz secs) within ∙ omega (arith, signed_arith);
    }

pub shown_read : (table : ZoneMap) (zone : Zone) (secs : ℤ) → unsigned_abs (shown_offset zone secs) % 60 ≡ 0
    → ConvertsBack (zone_named table) (shown_word zone secs) (local_shown_at (zone_of zone) secs) secs
shown_read table zone secs h = read_by table (zone_of zone) (is_utc zone) secs (utc_zone zone) h

pub utc_minutes : (secs : ℤ) → unsigned_abs (offset_at UTC (nanos_of_seconds secs)) % 60 ≡ 0
unfolding offset_at
utc_minutes secs = refl

unread_by : (find : List ℕ → Option TimeZone) (tz : TimeZone) (utc : Bool) (secs : ℤ) → (utc ≡ true → tz ≡ UTC) → (unsigned_abs (offset_at tz (nanos_of_seconds secs)) % 60 ≡ 0 → ⊥)
    → zone_of_word find (zone_word utc (offset_at tz (nanos_of_seconds secs))) ≡ Err StrayWord
unfolding zone_word
unread_by find tz true secs is none =
    absurd (none (ap (λ z. unsigned_abs (offset_at z (nanos_of_seconds secs)) % 60) (is refl) ∙ utc_minutes secs))
unread_by find tz false secs is none =
    let offset = offset_at tz (nanos_of_seconds secs) in
    seconds_unread find offset (offset_at-in_range tz (nanos_of_seconds secs)) (ne_eqb (unsigned_abs offset % 60) 0 none)

pub shown_unread : (find : List ℕ → Option TimeZone) (zone : Zone) (secs : ℤ) → (unsigned_abs (shown_offset zone secs) % 60 ≡ 0 → ⊥) → zone_of_word find (shown_word zone secs) ≡ Err StrayWord
shown_unread find zone secs none = unread_by find (zone_of zone) (is_utc zone) secs (utc_zone zone) none
