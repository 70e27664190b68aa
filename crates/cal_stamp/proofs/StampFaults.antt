-- Only a date that is written out can have the error `NoSuchDate`.
use Rattle.std.proofs.Common.{ℕ, ◌≡◌, Bool, true, false, inl, inr, List, [], ◌∷◌, refl, ap, Option, Some, None, Ok, Err, ℤ, pos, ◌+ℤ◌}
use Rattle.std.specs.Prelude.{Result, if◌then◌else◌}
use Rattle.std.specs.List.{list_any}
use Rattle.std.proofs.lemmas.Bool.{cases_Bool}
use Rattle.jiff.specs.Types.{TimeZone, Weekday}
use Rattle.cal_span.specs.declared.span.fault.SpanFault.{SpanFault}
use Rattle.cal_span.specs.computed.SpanValue.{span_of}
use Rattle.cal_civil.specs.computed.ReadOffset.{offset_in}
use Rattle.cal_civil.specs.rules.ZoneName.{begins_with_letter}
use Rattle.cal_bytes.specs.rules.Separators.{is_colon}
use Rattle.cal_spec.specs.rules.WeekdayNames.{day_named}
use Rattle.cal_bytes.specs.rules.AndThen.{◌>>=◌}
use Rattle.cal_zone.specs.rules.Setting.{Setting}
use Rattle.cal_stamp.specs.rules.StampCivilRule.{CivilStamp, HasNoSuchDate}
use Rattle.cal_stamp.specs.computed.Stamp.{in_moments, after_second, before_second, settle_on, today, name_found, offset_found, zone_of_word, zone_alone, zone_by_words, civil_stamp_in, after_date, after_weekday, weekday_found, civil_time, moment_of_civil_stamp, moment_of_form, moment_in}
use Rattle.cal_stamp.specs.rules.StampTime.{begins_with_digit, time_numbers, micros_due, time_written}
use Rattle.cal_stamp.specs.rules.StampDate.{day_written}
use Rattle.cal_stamp.specs.rules.StampRule.{Form, nothing, present, later, earlier, counted, from_today, civil}
use Rattle.cal_stamp.specs.computed.StampForm.{form_of}
use Rattle.cal_stamp.specs.declared.fault.StampFault.{StampFault}
use Rattle.cal_stamp.specs.declared.fault.StampFault.TheVariants.{NoSuchDate, OutOfRange, WrongWeekday}

-- ## Steps that never fail with `NoSuchDate`

abbrev Never : {A : Type 0} → Result A StampFault → Type 0
Never r = r ≡ Err NoSuchDate → ⊥

never_if : {A : Type 0} (test : Bool) (x y : Result A StampFault) → Never x → Never y → Never (if test then x else y)
never_if true x y p q = p
never_if false x y p q = q

-- if two steps in sequence fail with `NoSuchDate`, and the second never fails with it, then the first does
fault_first : {A B : Type 0} (r : Result A StampFault) (f : A → Result B StampFault) → ((x : A) → Never (f x)) → (r >>= f) ≡ Err NoSuchDate → r ≡ Err NoSuchDate
fault_first (Ok x) f more h = absurd (more x h)
fault_first (Err fault) f more h = let same : fault ≡ NoSuchDate = cc in ap Err same

never_then : {A B : Type 0} (r : Result A StampFault) (f : A → Result B StampFault) → Never r → ((x : A) → Never (f x)) → Never (r >>= f)
never_then r f never more h = never (fault_first r f more h)

no_moment : (micros : ℤ) → Never (in_moments micros)
unfolding in_moments
no_moment micros = never_if _ (Ok micros) (Err OutOfRange) (λ h. cc) (λ h. cc)

no_settle_on : (zone : TimeZone) (day : ℤ) (micros : ℕ) → Never (settle_on zone day micros)
unfolding settle_on
no_settle_on zone day micros = no_moment _

no_after : (second : ℤ) (span : Result ℕ SpanFault) → after_second second span ≡ Err NoSuchDate → ⊥
no_after second (Ok n) h = no_moment _ h
no_after second (Err fault) h = cc

no_before : (second : ℤ) (span : Result ℕ SpanFault) → before_second second span ≡ Err NoSuchDate → ⊥
no_before second (Ok n) h = no_moment _ h
no_before second (Err fault) h = cc

no_time : (numbers : Option ℕ) → micros_due numbers ≡ Err NoSuchDate → ⊥
no_time None h = cc
no_time (Some n) h = cc

no_time_written : (word : List ℕ) → time_written word ≡ Err NoSuchDate → ⊥
unfolding time_written
no_time_written word h = no_time (time_numbers word) h

no_name : (found : Option TimeZone) → name_found found ≡ Err NoSuchDate → ⊥
no_name None h = cc
no_name (Some zone) h = cc

no_offset : (offset : Option ℤ) → offset_found offset ≡ Err NoSuchDate → ⊥
no_offset None h = cc
no_offset (Some seconds) h = cc

no_zone_of_word : (find : List ℕ → Option TimeZone) (w : List ℕ) → Never (zone_of_word find w)
no_zone_of_word find w = never_if (begins_with_letter w) (name_found (find w)) (offset_found (offset_in w)) (no_name (find w)) (no_offset (offset_in w))

no_zone : (at : Setting) (ws : List (List ℕ)) → Never (zone_by_words at ws)
no_zone at [] h = cc
no_zone at (w ∷ []) h = never_then (zone_of_word at.find w) (λ zone. zone_alone zone []) (no_zone_of_word at.find w) (λ zone e. cc) h
no_zone at (w ∷ v ∷ ws) h = never_then (zone_of_word at.find w) (λ zone. zone_alone zone (v ∷ ws)) (no_zone_of_word at.find w) (λ zone e. cc) h

no_written : (at : Setting) (weekday : Option Weekday) (day : Option ℤ) (micros : ℕ) (ws : List (List ℕ)) → Never (civil_stamp_in at weekday day micros ws)
no_written at weekday day micros ws =
    never_then (zone_by_words at ws) (λ zone. Ok (record { weekday = weekday; day = day; micros = micros; zone = zone })) (no_zone at ws) (λ zone h. cc)

no_time_then : (at : Setting) (weekday : Option Weekday) (day : Option ℤ) (w : List ℕ) (ws : List (List ℕ)) → Never (time_written w >>= λ micros. civil_stamp_in at weekday day micros ws)
no_time_then at weekday day w ws =
    never_then (time_written w) (λ micros. civil_stamp_in at weekday day micros ws) (no_time_written w) (λ micros. no_written at weekday day micros ws)

no_after_date : (at : Setting) (weekday : Option Weekday) (day : ℤ) (ws : List (List ℕ)) → Never (after_date at weekday day ws)
no_after_date at weekday day [] = no_written at weekday (Some day) 0 []
no_after_date at weekday day (w ∷ ws) =
    never_if (begins_with_digit w) _ _ (no_time_then at weekday (Some day) w ws) (no_written at weekday (Some day) 0 (w ∷ ws))

no_moment_of_civil_stamp : (now : ℤ) (c : CivilStamp) → moment_of_civil_stamp now c ≡ Err NoSuchDate → ⊥
unfolding moment_of_civil_stamp
no_moment_of_civil_stamp now c = never_if _ _ (Err WrongWeekday) (no_settle_on c.zone _ c.micros) (λ h. cc)

-- ## Steps that can fail with `NoSuchDate`

body : (at : Setting) (weekday : Option Weekday) (ws : List (List ℕ)) → after_weekday at weekday ws ≡ Err NoSuchDate → HasNoSuchDate ws
body at weekday [] h = cc
body at weekday (w ∷ ws) h =
    elim (cases_Bool (list_any is_colon w)) [
      | inl colon ↦ absurd (no_time_then at weekday None w ws (rw colon at h))
      | inr none ↦ inl (fault_first (day_written w) (λ day. after_date at weekday day ws) (λ day. no_after_date at weekday day ws) (rw none at h))
    ]

named : (at : Setting) (ws : List (List ℕ)) (weekday : Option Weekday) → weekday_found at weekday ws ≡ Err NoSuchDate → HasNoSuchDate ws
named at ws None h = cc
named at ws (Some day) h = body at (Some day) ws h

in_civil : (at : Setting) (ws : List (List ℕ)) → civil_time at ws ≡ Err NoSuchDate → HasNoSuchDate ws
in_civil at [] h = cc
in_civil at (w ∷ ws) h =
    elim (cases_Bool (begins_with_letter w)) [
      | inl letter ↦ inr (named at ws (day_named w) (rw letter at h))
      | inr other ↦ body at None (w ∷ ws) (rw other at h)
    ]

by_form : (now : ℤ) (at : Setting) (form : Form) → moment_of_form now at form ≡ Err NoSuchDate → (ws : List (List ℕ)) × (form ≡ civil ws) × HasNoSuchDate ws
by_form now at nothing h = cc
by_form now at present h = absurd (no_moment _ h)
by_form now at (later span) h = absurd (no_after now (span_of span) h)
by_form now at (earlier span) h = absurd (no_before now (span_of span) h)
by_form now at (counted span) h = absurd (no_after (pos 0) (span_of span) h)
by_form now at (from_today shift ws) h = absurd (never_then (zone_by_words at ws) (λ zone. settle_on zone (today now zone +ℤ shift) 0) (no_zone at ws) (λ zone. no_settle_on zone (today now zone +ℤ shift) 0) h)
by_form now at (civil ws) h = (ws, refl, in_civil at ws (fault_first (civil_time at ws) (moment_of_civil_stamp now) (no_moment_of_civil_stamp now) h))

pub written_date : (now : ℤ) (at : Setting) (text : List ℕ) → moment_in now at text ≡ Err NoSuchDate → (ws : List (List ℕ)) × (form_of text ≡ civil ws) × HasNoSuchDate ws
unfolding moment_in
written_date now at text h = by_form now at (form_of text) h
