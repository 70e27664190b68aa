-- A timestamp resolves to a moment if and only if its form stands for this moment (`MeansTime`), and it has an error if
-- and only if its form has this error (`HasError`).
use Rattle.std.proofs.Common.{ℕ, ◌/◌, ◌%◌, ◌<◌, ◌≡◌, ◌⊎◌, Bool, true, false, inl, inr, List, refl, sym, ap, ◌∙◌, arith, rules, Option, Some, None, Ok, Err, ℤ, pos, negsuc, ◌+ℤ◌, ◌-ℤ◌, ◌*ℤ◌, ◌<ℤ◌, ◌≤ℤ◌, eq-eqb, unsigned_abs}
use Rattle.std.specs.Prelude.{Result, ◌↔◌, if◌then◌else◌}
use Rattle.std.specs.Int.{int_div_euclid, int_rem_euclid}
use Rattle.std.specs.Option.{unwrap_or}
use Rattle.std.proofs.lemmas.Bool.{cases_Bool, cases_lt, eqb-true, false≢true}
use Rattle.std.proofs.lemmas.Int.{ints}
use Rattle.jiff.proofs.SpanFacts.{signed_arith}
use Rattle.jiff.specs.Types.{TimeZone, Weekday}
use Rattle.jiff_core.specs.Calendar.{weekday_number}
use Rattle.jiff_core.specs.Weekday.{monday_zero}
use Rattle.cal_span.specs.declared.span.fault.SpanFault.{SpanFault}
use Rattle.cal_span.specs.computed.SpanValue.{span_of}
use Rattle.cal_span.proofs.SpanRuleLemmas.{span_is_value}
use Rattle.cal_zone.specs.rules.Instant.{IsMoment, last_moment, micros_of}
use Rattle.cal_civil.specs.rules.LocalSecond.{day_of}
use Rattle.cal_zone.specs.rules.Zone.{local_shown_at}
use Rattle.cal_spec.proofs.ReadLemmas.{bind_ok}
use Rattle.cal_zone.specs.rules.Setting.{Setting}
use Rattle.cal_stamp.specs.rules.StampCivilRule.{CivilStamp, IsCivilTime}
use Rattle.cal_stamp.specs.computed.Stamp.{in_moments, after_second, before_second, today, settle_on, zone_by_words, civil_time, fits_weekday, moment_of_civil_stamp, moment_of_form, moment_in}
use Rattle.cal_stamp.specs.rules.StampFaultRule.{HasError, IsBadSpan, IsWrong}
use Rattle.cal_stamp.specs.rules.StampRule.{Form, nothing, present, later, earlier, counted, from_today, civil, HasForm}
use Rattle.cal_stamp.specs.computed.StampForm.{form_of}
use Rattle.cal_stamp.specs.rules.StampMomentRule.{LiesAfter, LiesBefore, IsPresentDay, IsDay, FallsOn, IsTimeOfDay, IsMidnight, IsCivilMoment, MeansTime, ResolvesTo}
use Rattle.cal_stamp.specs.declared.fault.StampFault.{StampFault}
use Rattle.cal_stamp.specs.declared.fault.StampFault.TheVariants.{OutOfRange, WrongWeekday, BadSpan}
use Rattle.cal_stamp.proofs.StampCivilRuleLemmas as civil_rule
use Rattle.cal_stamp.proofs.StampFaultRuleLemmas.{err_of, first-found, first-only, zone-found, zone-only}
use Rattle.cal_stamp.proofs.StampLemmas.{too_late}
use Rattle.cal_stamp.proofs.StampRuleLemmas as form_rule

-- ## The range of moments

cases_moment : (micros : ℤ) → IsMoment micros ⊎ ((micros <ℤ pos 0) ⊎ (last_moment <ℤ micros))
cases_moment (pos n) =
    elim (cases_lt 7_258_211_998_999_999 n) [
      | inl late ↦ inr (inr (omega (arith, ints)))
      | inr within ↦ inl (omega (arith, ints), omega (arith, ints))
    ]
cases_moment (negsuc n) = inr (inl (omega (arith, ints)))

within : (micros : ℤ) → IsMoment micros → in_moments micros ≡ Ok micros
unfolding in_moments
within micros h = grind (arith, ints)

too_early : (micros : ℤ) → micros <ℤ pos 0 → in_moments micros ≡ Err OutOfRange
unfolding in_moments
too_early micros early = grind (arith, ints)

outside : (micros : ℤ) → (IsMoment micros → ⊥) → in_moments micros ≡ Err OutOfRange
outside micros h =
    elim (cases_moment micros) [
      | inl is ↦ absurd (h is)
      | inr (inl early) ↦ too_early micros early
      | inr (inr late) ↦ too_late micros late
    ]

is_moment : (micros time : ℤ) → in_moments micros ≡ Ok time → (micros ≡ time) × IsMoment time
is_moment micros time h =
    elim (cases_moment micros) [
      | inl is ↦ (let e = sym (within micros is) ∙ h in let same : micros ≡ time = cc in (same, rw (← same) is))
      | inr (inl early) ↦ (let e = sym (too_early micros early) ∙ h in cc)
      | inr (inr late) ↦ (let e = sym (too_late micros late) ∙ h in cc)
    ]

is_outside : (micros : ℤ) (fault : StampFault) → in_moments micros ≡ Err fault → (fault ≡ OutOfRange) × (IsMoment micros → ⊥)
is_outside micros fault h =
    elim (cases_moment micros) [
      | inl is ↦ (let e = sym (within micros is) ∙ h in cc)
      | inr (inl early) ↦ (let e = sym (too_early micros early) ∙ h in (cc, λ is. omega (arith, signed_arith, is.0)))
      | inr (inr late) ↦ (let e = sym (too_late micros late) ∙ h in (cc, λ is. omega (arith, signed_arith, is.1)))
    ]

-- ## Days

around : (local : ℤ) → ((day_of local *ℤ pos 86_400) ≤ℤ local) × (local <ℤ (day_of local *ℤ pos 86_400 +ℤ pos 86_400))
around (pos n) = (omega (arith, signed_arith), omega (arith, signed_arith))
around (negsuc n) = (omega (arith, signed_arith), omega (arith, signed_arith))

one_day : (local day : ℤ) → (day *ℤ pos 86_400) ≤ℤ local → local <ℤ (day *ℤ pos 86_400 +ℤ pos 86_400) → day ≡ day_of local
one_day (pos n) day begun lasts = omega (arith, signed_arith)
one_day (negsuc n) day begun lasts = omega (arith, signed_arith)

is_today : (now : ℤ) (zone : TimeZone) → IsPresentDay now zone (today now zone)
unfolding today
is_today now zone =
    let shown = around (local_shown_at zone now) in
    record { begun = omega (arith, signed_arith, shown.0); lasts = omega (arith, signed_arith, shown.1) }

only_today : (now : ℤ) (zone : TimeZone) (day : ℤ) → IsPresentDay now zone day → day ≡ today now zone
unfolding today
only_today now zone day h =
    let same = one_day (local_shown_at zone now) day h.begun h.lasts in omega (arith, signed_arith, same)

is_day : (now : ℤ) (zone : TimeZone) (written : Option ℤ) → IsDay now zone written (unwrap_or written (today now zone))
is_day now zone None = is_today now zone
is_day now zone (Some day) = refl

only_day : (now : ℤ) (zone : TimeZone) (written : Option ℤ) (day : ℤ) → IsDay now zone written day → day ≡ unwrap_or written (today now zone)
only_day now zone None day h = only_today now zone day h
only_day now zone (Some written) day h = h

-- ## Weekdays

in_weeks : (z : ℤ) → z ≡ int_div_euclid z (pos 7) *ℤ pos 7 +ℤ pos (unsigned_abs (int_rem_euclid z (pos 7)))
in_weeks (pos n) = omega (arith, signed_arith)
in_weeks (negsuc n) = omega (arith, signed_arith)

of_week : (z week : ℤ) (n : ℕ) → n < 7 → z ≡ week *ℤ pos 7 +ℤ pos n → unsigned_abs (int_rem_euclid z (pos 7)) ≡ n
of_week (pos m) week n below h = omega (arith, signed_arith)
of_week (negsuc m) week n below h = omega (arith, signed_arith)

below_seven : (weekday : Weekday) → monday_zero weekday < 7
below_seven weekday = search rules

falls : (weekday : Option Weekday) (day : ℤ) → fits_weekday weekday day ≡ true → FallsOn weekday day
unfolding weekday_number
falls None day h = tt
falls (Some weekday) day h =
    let same = eqb-true (unsigned_abs (int_rem_euclid (day +ℤ pos 3) (pos 7))) (monday_zero weekday) h in
    (int_div_euclid (day +ℤ pos 3) (pos 7), in_weeks (day +ℤ pos 3) ∙ ap (λ n. int_div_euclid (day +ℤ pos 3) (pos 7) *ℤ pos 7 +ℤ pos n) same)

fits : (weekday : Option Weekday) (day : ℤ) → FallsOn weekday day → fits_weekday weekday day ≡ true
unfolding weekday_number
fits None day h = refl
fits (Some weekday) day h = eq-eqb _ _ (of_week (day +ℤ pos 3) h.0 (monday_zero weekday) (below_seven weekday) h.1)

-- ## Times of day

is_time : (zone : TimeZone) (day : ℤ) (micros : ℕ) (time : ℤ) → settle_on zone day micros ≡ Ok time → IsTimeOfDay zone day micros time × IsMoment time
unfolding settle_on
is_time zone day micros time h =
    let is = is_moment _ time h in
    (record { second = micros / 1_000_000; rest = micros % 1_000_000; whole = omega arith; below = omega arith; settled = sym is.0 }, is.1)

settles : (zone : TimeZone) (day : ℤ) (micros : ℕ) (time : ℤ) → IsTimeOfDay zone day micros time → settle_on zone day micros ≡ in_moments time
unfolding settle_on
settles zone day micros time h =
    let whole = h.whole in
    let below = h.below in
    let second : micros / 1_000_000 ≡ h.second = omega arith in
    let rest : micros % 1_000_000 ≡ h.rest = omega arith in
    rw (second, rest) (ap in_moments (sym h.settled))

settles_outside : (zone : TimeZone) (day : ℤ) (micros : ℕ) (fault : StampFault) → settle_on zone day micros ≡ Err fault → (fault ≡ OutOfRange) × (time : ℤ) × IsTimeOfDay zone day micros time × (IsMoment time → ⊥)
unfolding settle_on
settles_outside zone day micros fault h =
    let is = is_outside _ fault h in
    (is.0, _, record { second = micros / 1_000_000; rest = micros % 1_000_000; whole = omega arith; below = omega arith; settled = refl }, is.1)

-- ## What each form resolves to

span_after : (second : ℤ) (span : List ℕ) (value : Result ℕ SpanFault) (time : ℤ) → span_of span ≡ value → after_second second value ≡ Ok time → LiesAfter second span time × IsMoment time
span_after second span (Ok n) time e h =
    let is = is_moment (micros_of second +ℤ pos n) time h in ((n, (span_is_value span (Ok n)).0 e, (let same = is.0 in omega (arith, signed_arith))), is.1)
span_after second span (Err fault) time e h = cc

span_before : (second : ℤ) (span : List ℕ) (value : Result ℕ SpanFault) (time : ℤ) → span_of span ≡ value → before_second second value ≡ Ok time → LiesBefore second span time × IsMoment time
span_before second span (Ok n) time e h =
    let is = is_moment (micros_of second -ℤ pos n) time h in ((n, (span_is_value span (Ok n)).0 e, (let same = is.0 in omega (arith, signed_arith))), is.1)
span_before second span (Err fault) time e h = cc

lies_after : (second : ℤ) (span : List ℕ) (time : ℤ) → LiesAfter second span time → after_second second (span_of span) ≡ in_moments time
lies_after second span time h =
    let far = h.2 in
    let same : micros_of second +ℤ pos h.0 ≡ time = omega (arith, signed_arith) in
    rw ((span_is_value span (Ok h.0)).1 h.1, same) refl

lies_before : (second : ℤ) (span : List ℕ) (time : ℤ) → LiesBefore second span time → before_second second (span_of span) ≡ in_moments time
lies_before second span time h =
    let far = h.2 in
    let same : micros_of second -ℤ pos h.0 ≡ time = omega (arith, signed_arith) in
    rw ((span_is_value span (Ok h.0)).1 h.1, same) refl

midnight : (now : ℤ) (at : Setting) (shift : ℤ) (ws : List (List ℕ)) (time : ℤ) → moment_of_form now at (from_today shift ws) ≡ Ok time → IsMidnight now at shift ws time × IsMoment time
midnight now at shift ws time h =
    let zone = bind_ok (zone_by_words at ws) (λ zone. settle_on zone (today now zone +ℤ shift) 0) time h in
    let words = civil_rule.zone_of_words at ws zone.value zone.first in
    let is = is_time zone.value (today now zone.value +ℤ shift) 0 time zone.next in
    (record { name = words.0; zone = zone.value; today = today now zone.value; alone = words.1; has_zone = words.2; has_today = is_today now zone.value; is_midnight = is.0 }, is.1)

is_midnight : (now : ℤ) (at : Setting) (shift : ℤ) (ws : List (List ℕ)) (time : ℤ) → IsMidnight now at shift ws time → moment_of_form now at (from_today shift ws) ≡ in_moments time
is_midnight now at shift ws time h =
    rw (h.alone, civil_rule.zone_from at h.name h.zone h.has_zone, sym (only_today now h.zone h.today h.has_today)) (settles h.zone (h.today +ℤ shift) 0 time h.is_midnight)

of_civil_stamp : (now : ℤ) (at : Setting) (ws : List (List ℕ)) (c : CivilStamp) (time : ℤ) (test : Bool) → IsCivilTime at ws c → fits_weekday c.weekday (unwrap_or c.day (today now c.zone)) ≡ test
    → (if test then settle_on c.zone (unwrap_or c.day (today now c.zone)) c.micros else Err WrongWeekday) ≡ Ok time → IsCivilMoment now at ws time × IsMoment time
of_civil_stamp now at ws c time true is e h =
    let at_time = is_time c.zone (unwrap_or c.day (today now c.zone)) c.micros time h in
    (record { stamp = c; day = unwrap_or c.day (today now c.zone); is_civil = is; has_day = is_day now c.zone c.day; falls = falls c.weekday _ e; is_time = at_time.0 }, at_time.1)
of_civil_stamp now at ws c time false is e h = cc

civil_moment : (now : ℤ) (at : Setting) (ws : List (List ℕ)) (time : ℤ) → moment_of_form now at (civil ws) ≡ Ok time → IsCivilMoment now at ws time × IsMoment time
unfolding moment_of_civil_stamp
civil_moment now at ws time h =
    let read = bind_ok (civil_time at ws) (moment_of_civil_stamp now) time h in
    of_civil_stamp now at ws read.value time _ (civil_rule.found at ws read.value read.first) refl read.next

right_weekday : (now : ℤ) (at : Setting) (ws : List (List ℕ)) (c : CivilStamp) (day : ℤ) → IsCivilTime at ws c → IsDay now c.zone c.day day → FallsOn c.weekday day → moment_of_form now at (civil ws) ≡ settle_on c.zone day c.micros
unfolding moment_of_civil_stamp
right_weekday now at ws c day is has on =
    let same = sym (only_day now c.zone c.day day has) in
    rw (civil_rule.only at ws c is, same, fits c.weekday day on) refl

is_civil_moment : (now : ℤ) (at : Setting) (ws : List (List ℕ)) (time : ℤ) → IsCivilMoment now at ws time → moment_of_form now at (civil ws) ≡ in_moments time
is_civil_moment now at ws time h =
    let c = h.stamp in
    right_weekday now at ws c h.day h.is_civil h.has_day h.falls ∙ settles c.zone h.day c.micros time h.is_time

means : (now : ℤ) (at : Setting) (form : Form) (time : ℤ) → moment_of_form now at form ≡ Ok time → MeansTime now at form time × IsMoment time
means now at nothing time h = cc
means now at present time h = let is = is_moment (micros_of now) time h in (sym is.0, is.1)
means now at (later span) time h = span_after now span _ time refl h
means now at (earlier span) time h = span_before now span _ time refl h
means now at (counted span) time h = span_after (pos 0) span _ time refl h
means now at (from_today shift ws) time h = midnight now at shift ws time h
means now at (civil ws) time h = civil_moment now at ws time h

meant : (now : ℤ) (at : Setting) (form : Form) (time : ℤ) → MeansTime now at form time → moment_of_form now at form ≡ in_moments time
meant now at nothing time h = absurd h
meant now at present time h = ap in_moments (sym h)
meant now at (later span) time h = lies_after now span time h
meant now at (earlier span) time h = lies_before now span time h
meant now at (counted span) time h = lies_after (pos 0) span time h
meant now at (from_today shift ws) time h = is_midnight now at shift ws time h
meant now at (civil ws) time h = is_civil_moment now at ws time h

-- ## What each text resolves to

by_form : (now : ℤ) (at : Setting) (text : List ℕ) (form : Form) → HasForm text form → moment_in now at text ≡ moment_of_form now at form
unfolding moment_in
by_form now at text form h = ap (moment_of_form now at) (sym (form_rule.only text form h))

pub exactly : (now : ℤ) (at : Setting) (text : List ℕ) (form : Form) (time : ℤ) → HasForm text form → (moment_in now at text ≡ Ok time) ↔ (MeansTime now at form time × IsMoment time)
exactly now at text form time has = (
  λ h. means now at form time (sym (by_form now at text form has) ∙ h),
  λ h. by_form now at text form has ∙ meant now at form time h.0 ∙ within time h.1,
)

pub resolves : (now : ℤ) (at : Setting) (text : List ℕ) (time : ℤ) → (moment_in now at text ≡ Ok time) ↔ ResolvesTo now at text time
resolves now at text time = (
  λ h.
      let has = form_rule.found text in
      let is = (exactly now at text (form_of text) time has).0 h in
      record { form = form_of text; has_form = has; means = is.0; in_range = is.1 },
  λ h. (exactly now at text h.form time h.has_form).1 (h.means, h.in_range),
)

pub beyond : (now : ℤ) (at : Setting) (text : List ℕ) (form : Form) (time : ℤ) → HasForm text form → MeansTime now at form time → (IsMoment time → ⊥) → moment_in now at text ≡ Err OutOfRange
beyond now at text form time has h out = by_form now at text form has ∙ meant now at form time h ∙ outside time out

-- ## The error of a civil time

wrong_weekday : (now : ℤ) (at : Setting) (ws : List (List ℕ)) (c : CivilStamp) (day : ℤ) → IsCivilTime at ws c → IsDay now c.zone c.day day → (FallsOn c.weekday day → ⊥) → moment_of_form now at (civil ws) ≡ Err WrongWeekday
unfolding moment_of_civil_stamp
wrong_weekday now at ws c day is has elsewhere =
    let same = sym (only_day now c.zone c.day day has) in
    elim (cases_Bool (fits_weekday c.weekday day)) [
      | inl right ↦ absurd (elsewhere (falls c.weekday day right))
      | inr wrong ↦ rw (civil_rule.only at ws c is, same, wrong) refl
    ]

not_on : (weekday : Option Weekday) (day : ℤ) → fits_weekday weekday day ≡ false → FallsOn weekday day → ⊥
not_on weekday day wrong h = false≢true (sym wrong ∙ fits weekday day h)

late_error : (now : ℤ) (at : Setting) (ws : List (List ℕ)) (c : CivilStamp) (fault : StampFault) (test : Bool) → IsCivilTime at ws c → fits_weekday c.weekday (unwrap_or c.day (today now c.zone)) ≡ test
    → (if test then settle_on c.zone (unwrap_or c.day (today now c.zone)) c.micros else Err WrongWeekday) ≡ Err fault → HasError now at (civil ws) fault
late_error now at ws c fault true is e h =
    let out = settles_outside c.zone (unwrap_or c.day (today now c.zone)) c.micros fault h in
    inr ((out.1, record { stamp = c; day = unwrap_or c.day (today now c.zone); is_civil = is; has_day = is_day now c.zone c.day; falls = falls c.weekday _ e; is_time = out.2 }, out.3), out.0)
late_error now at ws c fault false is e h =
    inl (inr (record { stamp = c; day = unwrap_or c.day (today now c.zone); is_civil = is; has_day = is_day now c.zone c.day; falls_elsewhere = not_on c.weekday _ e }, (cc)))

civil_error : (now : ℤ) (at : Setting) (ws : List (List ℕ)) (fault : StampFault) → moment_of_form now at (civil ws) ≡ Err fault → HasError now at (civil ws) fault
unfolding moment_of_civil_stamp
civil_error now at ws fault h =
    elim (err_of (civil_time at ws) (moment_of_civil_stamp now) fault h) [
      | inl bad ↦ inl (inl (first-found at ws fault bad))
      | inr read ↦ late_error now at ws read.0 fault _ (civil_rule.found at ws read.0 read.1) refl read.2
    ]

midnight_error : (now : ℤ) (at : Setting) (shift : ℤ) (ws : List (List ℕ)) (fault : StampFault) → moment_of_form now at (from_today shift ws) ≡ Err fault → HasError now at (from_today shift ws) fault
midnight_error now at shift ws fault h =
    elim (err_of (zone_by_words at ws) (λ zone. settle_on zone (today now zone +ℤ shift) 0) fault h) [
      | inl bad ↦ inl (zone-found at ws fault bad)
      | inr zone ↦ (
          let words = civil_rule.zone_of_words at ws zone.0 zone.1 in
          let out = settles_outside zone.0 (today now zone.0 +ℤ shift) 0 fault zone.2 in
          inr ((out.1, record { name = words.0; zone = zone.0; today = today now zone.0; alone = words.1; has_zone = words.2; has_today = is_today now zone.0; is_midnight = out.2 }, out.3), out.0)
          )
    ]

-- In this module, `of` adds a time span to a Unix second, or subtracts the span from the Unix second. `time n` is the
-- sum or the difference for a span of `n` microseconds. The lemma says that `of` fails only if the span is invalid or
-- the result is out of range.
module _ (span : List ℕ) (time : ℕ → ℤ) (of : Result ℕ SpanFault → Result ℤ StampFault) (good : (n : ℕ) → of (Ok n) ≡ in_moments (time n)) (bad : (why : SpanFault) → of (Err why) ≡ Err (BadSpan why)) where
  span_error : (value : Result ℕ SpanFault) (fault : StampFault) → span_of span ≡ value → of value ≡ Err fault → IsBadSpan span fault ⊎ (((n : ℕ) × (span_of span ≡ Ok n) × (IsMoment (time n) → ⊥)) × (fault ≡ OutOfRange))
  span_error (Ok n) fault e h = let out = is_outside (time n) fault (sym (good n) ∙ h) in inr ((n, e, out.1), out.0)
  span_error (Err why) fault e h = let same = sym (bad why) ∙ h in inl (why, (span_is_value span (Err why)).0 e, (cc))

after_error : (second : ℤ) (span : List ℕ) (fault : StampFault) → after_second second (span_of span) ≡ Err fault
    → IsBadSpan span fault ⊎ (((time : ℤ) × LiesAfter second span time × (IsMoment time → ⊥)) × (fault ≡ OutOfRange))
after_error second span fault h =
    elim (span_error span (λ n. micros_of second +ℤ pos n) (after_second second) (λ n. refl) (λ why. refl) (span_of span) fault refl h) [
      | inl bad ↦ inl bad
      | inr out ↦ inr ((micros_of second +ℤ pos out.0.0, (out.0.0, (span_is_value span (Ok out.0.0)).0 out.0.1, omega (arith, signed_arith)), out.0.2), out.1)
    ]

before_error : (second : ℤ) (span : List ℕ) (fault : StampFault) → before_second second (span_of span) ≡ Err fault
    → IsBadSpan span fault ⊎ (((time : ℤ) × LiesBefore second span time × (IsMoment time → ⊥)) × (fault ≡ OutOfRange))
before_error second span fault h =
    elim (span_error span (λ n. micros_of second -ℤ pos n) (before_second second) (λ n. refl) (λ why. refl) (span_of span) fault refl h) [
      | inl bad ↦ inl bad
      | inr out ↦ inr ((micros_of second -ℤ pos out.0.0, (out.0.0, (span_is_value span (Ok out.0.0)).0 out.0.1, omega (arith, signed_arith)), out.0.2), out.1)
    ]

error : (now : ℤ) (at : Setting) (form : Form) (fault : StampFault) → moment_of_form now at form ≡ Err fault → HasError now at form fault
error now at nothing fault h = inl (cc)
error now at present fault h = let out = is_outside (micros_of now) fault h in inr ((micros_of now, refl, out.1), out.0)
error now at (later span) fault h = after_error now span fault h
error now at (earlier span) fault h = before_error now span fault h
error now at (counted span) fault h = after_error (pos 0) span fault h
error now at (from_today shift ws) fault h = midnight_error now at shift ws fault h
error now at (civil ws) fault h = civil_error now at ws fault h

wrong : (now : ℤ) (at : Setting) (form : Form) (fault : StampFault) → IsWrong now at form fault → moment_of_form now at form ≡ Err fault
wrong now at nothing fault h = ap Err (sym h)
wrong now at present fault h = absurd h
wrong now at (later span) fault h = rw ((span_is_value span (Err h.0)).1 h.1, h.2) refl
wrong now at (earlier span) fault h = rw ((span_is_value span (Err h.0)).1 h.1, h.2) refl
wrong now at (counted span) fault h = rw ((span_is_value span (Err h.0)).1 h.1, h.2) refl
wrong now at (from_today shift ws) fault h = rw (zone-only at ws fault h) refl
wrong now at (civil ws) fault (inl first) = rw (first-only at ws fault first) refl
wrong now at (civil ws) fault (inr late) =
    let h = late.0 in wrong_weekday now at ws h.stamp h.day h.is_civil h.has_day h.falls_elsewhere ∙ ap Err (sym late.1)

is_error : (now : ℤ) (at : Setting) (form : Form) (fault : StampFault) → HasError now at form fault → moment_of_form now at form ≡ Err fault
is_error now at form fault (inl h) = wrong now at form fault h
is_error now at form fault (inr h) = meant now at form h.0.0 h.0.1 ∙ outside h.0.0 h.0.2 ∙ ap Err (sym h.1)

pub has_error : (now : ℤ) (at : Setting) (text : List ℕ) (form : Form) (fault : StampFault) → HasForm text form → (moment_in now at text ≡ Err fault) ↔ HasError now at form fault
has_error now at text form fault has = (
  λ h. error now at form fault (sym (by_form now at text form has) ∙ h),
  λ h. by_form now at text form has ∙ is_error now at form fault h,
)

pub has_wrong_weekday : (now : ℤ) (at : Setting) (text : List ℕ) (ws : List (List ℕ)) (c : CivilStamp) (day : ℤ) → HasForm text (civil ws) → IsCivilTime at ws c → IsDay now c.zone c.day day
    → (moment_in now at text ≡ Err WrongWeekday) ↔ (FallsOn c.weekday day → ⊥)
has_wrong_weekday now at text ws c day has is has_day = (
  λ h on.
      let late = settles_outside c.zone day c.micros WrongWeekday (sym (by_form now at text (civil ws) has ∙ right_weekday now at ws c day is has_day on) ∙ h) in
      let e = late.0 in cc,
  λ elsewhere. by_form now at text (civil ws) has ∙ wrong_weekday now at ws c day is has_day elsewhere,
)

pub in_range : (now : ℤ) (at : Setting) (text : List ℕ) (time : ℤ) → moment_in now at text ≡ Ok time → IsMoment time
in_range now at text time h = ((exactly now at text (form_of text) time (form_rule.found text)).0 h).1
