-- If two instants are on the same day and have the same UTC offset, they are printed with the same day and zone, and
-- only the time differs.
use Rattle.std.proofs.Common.{◌≡◌, ◌∙◌, ◌+◌, ◌*◌, ℕ, ℤ, pos, ◌+ℤ◌, ◌-ℤ◌, ◌≤ℤ◌, ◌<ℤ◌, unsigned_abs, codes, List, [], ◌∷◌, ◌++◌, refl, ap, arith}
use Rattle.std.specs.Int.Signed.{pos-nat_abs, yes_non_neg}
use Rattle.std.proofs.lemmas.List.{append-nil, append_assoc}
use Rattle.jiff.specs.Types.{TimeZone}
use Rattle.jiff.specs.Words.{nanos_of_seconds, offset_at, weekday_of}
use Rattle.jiff.proofs.SpanFacts.{signed_arith}
use Rattle.cal_bytes.specs.rules.Bytes.{joined}
use Rattle.cal_zone.specs.rules.CivilAt.{at_second}
use Rattle.cal_zone.specs.rules.Civil.{civil_of}
use Rattle.cal_civil.specs.rules.Days.{date_of}
use Rattle.cal_zone.specs.computed.FormattedDay.{day_text}
use Rattle.cal_zone.specs.rules.InstantText.{date_text, instant_text, shown_text, time_text, weekday_name, zone_word}
use Rattle.cal_civil.specs.rules.LocalSecond.{day_of, second_of_day, hour_of, minute_of, second_of}
use Rattle.cal_zone.specs.rules.Zone.{is_utc, local_shown_at, zone_of}
use Rattle.cal_zone.specs.declared.civil_fields.Civil.{Civil}
use Rattle.cal_zone.specs.declared.zone.Zone.{Zone}

-- the time of day in seconds since midnight
abbrev pub seconds_shown : Civil → ℕ
seconds_shown c = c.hour * 3_600 + c.minute * 60 + c.second

-- `here` is a second of Unix time, and `midnight` is `here` minus the time of day that the clock shows at `here`. If
-- `second` is in `midnight..midnight + 86_400` and has the same UTC offset as `here`, then the clock at `second` shows
-- the date of `here`, and the time that has passed since `midnight`.
pub day_goes_on : (tz : TimeZone) (here second midnight : ℤ) → offset_at tz (nanos_of_seconds second) ≡ offset_at tz (nanos_of_seconds here)
    → midnight ≡ here -ℤ pos (seconds_shown (civil_of tz here)) → midnight ≤ℤ second → second <ℤ (midnight +ℤ pos 86_400)
    → civil_of tz second ≡ at_second (civil_of tz here) (unsigned_abs (second -ℤ midnight))
unfolding civil_of local_shown_at
day_goes_on tz here second midnight offset is from before =
    let local : ℤ = here +ℤ offset_at tz (nanos_of_seconds here) in
    let later : ℤ = second +ℤ offset_at tz (nanos_of_seconds second) in
    let after : pos 0 ≤ℤ (second -ℤ midnight) = omega (arith, signed_arith) in
    let since = pos-nat_abs (second -ℤ midnight) (yes_non_neg after) in
    let day : day_of later ≡ day_of local = omega (arith, signed_arith) in
    let within : second_of_day later ≡ unsigned_abs (second -ℤ midnight) = omega (arith, signed_arith, since) in
    λ i. record {
      year = (date_of (day i)).year;
      month = (date_of (day i)).month;
      day = (date_of (day i)).day;
      weekday = weekday_of (date_of (day i)) + 1;
      hour = hour_of (within i);
      minute = minute_of (within i);
      second = second_of (within i);
      offset = offset i;
    }

regrouped : (weekday date time space word : List ℕ)
    → joined (weekday ∷ space ∷ date ∷ space ∷ time ∷ space ∷ []) ++ word ≡ joined (joined (weekday ∷ space ∷ date ∷ space ∷ []) ∷ time ∷ (space ++ word) ∷ [])
regrouped weekday date time space word = simp (append_assoc, append-nil) refl

same_date : (c : Civil) (since : ℕ) → date_text (at_second c since) ≡ date_text c
unfolding date_text
same_date c since = refl

shown_parts : (c : Civil) → shown_text c ≡ joined (weekday_name c.weekday ∷ codes " " ∷ date_text c ∷ codes " " ∷ time_text c.hour c.minute c.second ∷ codes " " ∷ [])
unfolding shown_text
shown_parts c = refl

shown_on_day : (c : Civil) (since : ℕ) (word : List ℕ)
    → shown_text (at_second c since) ++ word ≡ joined (day_text c ∷ time_text (hour_of since) (minute_of since) (second_of since) ∷ (codes " " ++ word) ∷ [])
unfolding day_text
shown_on_day c since word =
    let time : List ℕ = time_text (hour_of since) (minute_of since) (second_of since) in
    ap (λ shown. shown ++ word) (shown_parts (at_second c since) ∙ ap (λ date. joined (weekday_name c.weekday ∷ codes " " ∷ date ∷ codes " " ∷ time ∷ codes " " ∷ [])) (same_date c since))
    ∙ regrouped (weekday_name c.weekday) (date_text c) time (codes " ") word

-- if the clock at `second` shows the day of `shown`, and a time `since` seconds after midnight, then `second` is
-- printed as this day, this time and the zone
pub text_on_day : (zone : Zone) (second : ℤ) (shown : Civil) (since : ℕ) → civil_of (zone_of zone) second ≡ at_second shown since
    → instant_text zone second ≡ joined (day_text shown ∷ time_text (hour_of since) (minute_of since) (second_of since) ∷ (codes " " ++ zone_word (is_utc zone) shown.offset) ∷ [])
unfolding instant_text
text_on_day zone second shown since e = grind (arith, signed_arith, shown_on_day)
