-- Parsing a date or a time fails with an error if and only if it has this error by the rule `HasDateFault` or
-- `HasTimeFault`.
use Rattle.std.proofs.Common.{ℕ, ◌+◌, ◌≡◌, inl, inr, Bool, true, false, cond, List, [], ◌∷◌, codes, Option, Some, None, Err, refl, sym}
use Rattle.std.specs.Prelude.{filter}
use Rattle.std.specs.List.{AllByRecursion, onto_first, slice_split}
use Rattle.std.proofs.lemmas.Bool.{cases_Bool}
use Rattle.cal_bytes.proofs.General.{IsClear}
use Rattle.cal_bytes.specs.rules.Separators.{is_colon}
use Rattle.cal_spec.specs.rules.ComponentFaultRule.{HasDateFault, HasDateTexts, HasTimeFault, HasTimeTexts}
use Rattle.cal_spec.specs.rules.Slot.{day_slot}
use Rattle.cal_spec.specs.rules.UnparsedTexts.{DateTexts, TimeTexts, is_date_sign, is_tilde}
use Rattle.cal_spec.specs.computed.DateAndTime.{date_due, date_fields, date_in_word, date_texts, date_texts_by, time_due, time_fields, time_in_word, time_texts, time_texts_by}
use Rattle.cal_spec.specs.declared.slot.Slot.TheVariants.{Year, Month, Hour, Minute, Second}
use Rattle.cal_spec.specs.declared.spec_fault.SpecFault.{SpecFault}
use Rattle.cal_spec.specs.declared.spec_fault.SpecFault.TheVariants.{BadDate, BadTime}
use Rattle.cal_spec.proofs.ComponentFaults.{three_found, three_only}
use Rattle.cal_spec.proofs.DateRule.{date_shape_found, date_shape_only, time_shape_found, time_shape_only}

-- ## The pieces into which a text is split contain no separators

onto_clear : (p : ℕ → Bool) (x : ℕ) (ts : List (List ℕ)) → p x ≡ false → AllByRecursion (IsClear p) ts → AllByRecursion (IsClear p) (onto_first x ts)
onto_clear p x [] none clear = (rw none refl, tt)
onto_clear p x (t ∷ ts) none clear = (rw none clear.0, clear.1)

pieces_clear : (p : ℕ → Bool) (xs : List ℕ) → AllByRecursion (IsClear p) (slice_split p xs)
pieces_clear p [] = (refl, tt)
pieces_clear p (x ∷ xs) =
    elim (cases_Bool (p x)) [ inl sign ↦ rw sign (refl, pieces_clear p xs) | inr none ↦ rw none (onto_clear p x (slice_split p xs) none (pieces_clear p xs)) ]

record AreClearDates (t : DateTexts) : Type 0 where
  pub year : IsClear is_date_sign t.year
  pub month : IsClear is_date_sign t.month
  pub day : IsClear is_date_sign t.day

record AreClearTimes (t : TimeTexts) : Type 0 where
  pub hour : IsClear is_colon t.hour
  pub minute : IsClear is_colon t.minute
  pub second : IsClear is_colon t.second

three_clear : (year month day : List ℕ) (from_end tilde : Bool) (t : DateTexts) → AllByRecursion (IsClear is_date_sign) (year ∷ month ∷ day ∷ []) → cond tilde None (Some (record { year = year; month = month; day = day; from_end = from_end })) ≡ Some t → AreClearDates t
three_clear year month day from_end true t clear at = cc
three_clear year month day from_end false t clear at =
    let made : record { year = year; month = month; day = day; from_end = from_end } ≡ t = cc in
    rw (← made) (record { year = clear.0; month = clear.1.0; day = clear.1.1.0 })

dates_clear : (ss : List ℕ) (ts : List (List ℕ)) (t : DateTexts) → AllByRecursion (IsClear is_date_sign) ts → date_texts_by ss ts ≡ Some t → AreClearDates t
dates_clear (s ∷ []) (a ∷ b ∷ []) t clear at =
    let made : record { year = codes "*"; month = a; day = b; from_end = is_tilde s } ≡ t = cc in
    rw (← made) (record { year = refl; month = clear.0; day = clear.1.0 })
dates_clear (s ∷ u ∷ []) (a ∷ b ∷ c ∷ []) t clear at = three_clear a b c (is_tilde u) (is_tilde s) t clear at
dates_clear ss ts t clear at = cc

times_clear : (ts : List (List ℕ)) (t : TimeTexts) → AllByRecursion (IsClear is_colon) ts → time_texts_by ts ≡ Some t → AreClearTimes t
times_clear (a ∷ b ∷ []) t clear at =
    let made : record { hour = a; minute = b; second = codes "00" } ≡ t = cc in
    rw (← made) (record { hour = clear.0; minute = clear.1.0; second = refl })
times_clear (a ∷ b ∷ c ∷ []) t clear at =
    let made : record { hour = a; minute = b; second = c } ≡ t = cc in
    rw (← made) (record { hour = clear.0; minute = clear.1.0; second = clear.1.1.0 })
times_clear ts t clear at = cc

date_texts_found : (word : List ℕ) (t : DateTexts) → date_texts word ≡ Some t → HasDateTexts word t
unfolding date_texts
date_texts_found word t at =
    let clear = dates_clear (filter is_date_sign word) (slice_split is_date_sign word) t (pieces_clear is_date_sign word) at in
    record { shape = date_shape_found word t at; year = clear.year; month = clear.month; day = clear.day }

time_texts_found : (word : List ℕ) (t : TimeTexts) → time_texts word ≡ Some t → HasTimeTexts word t
unfolding time_texts
time_texts_found word t at =
    let clear = times_clear (slice_split is_colon word) t (pieces_clear is_colon word) at in
    record { shape = time_shape_found word t at; hour = clear.hour; minute = clear.minute; second = clear.second }

date_texts_only : (word : List ℕ) (t : DateTexts) → HasDateTexts word t → date_texts word ≡ Some t
date_texts_only word t h = date_shape_only word t h.year h.month h.day h.shape

time_texts_only : (word : List ℕ) (t : TimeTexts) → HasTimeTexts word t → time_texts word ≡ Some t
time_texts_only word t h = time_shape_only word t h.hour h.minute h.second h.shape

-- ## The errors of dates

date_by : (word : List ℕ) (e : SpecFault) (o : Option DateTexts) → date_texts word ≡ o → date_due o ≡ Err e → HasDateFault word e
unfolding date_fields
date_by word e None is at =
    let same : BadDate ≡ e = cc in
    inl (λ t h. let some = date_texts_only word t h in cc, sym same)
date_by word e (Some t) is at =
    inr (t, date_texts_found word t is, three_found Year Month (day_slot t.from_end) t.year t.month t.day (λ year month day. record { year = year; month = month; day = day; from_end = t.from_end }) 0 240 e refl at)

pub date_fault_found : (word : List ℕ) (e : SpecFault) → date_in_word word ≡ Err e → HasDateFault word e
unfolding date_in_word
date_fault_found word e at = date_by word e (date_texts word) refl at

no_date : (word : List ℕ) (o : Option DateTexts) → date_texts word ≡ o → ((t : DateTexts) → HasDateTexts word t → ⊥) → date_due o ≡ Err BadDate
no_date word None is none = refl
no_date word (Some t) is none = absurd (none t (date_texts_found word t is))

pub date_fault_only : (word : List ℕ) (e : SpecFault) → HasDateFault word e → date_in_word word ≡ Err e
unfolding date_in_word date_fields
date_fault_only word e (inl none) = rw none.1 (no_date word (date_texts word) refl none.0)
date_fault_only word e (inr (t, texts, wrong)) =
    rw (date_texts_only word t texts) (three_only Year Month (day_slot t.from_end) t.year t.month t.day (λ year month day. record { year = year; month = month; day = day; from_end = t.from_end }) 0 240 e refl wrong)

-- ## The errors of times

time_by : (before room : ℕ) (word : List ℕ) (e : SpecFault) (o : Option TimeTexts) → before + room ≡ 240 → time_texts word ≡ o → time_due room o ≡ Err e → HasTimeFault before word e
unfolding time_fields
time_by before room word e None sum is at =
    let same : BadTime ≡ e = cc in
    inl (λ t h. let some = time_texts_only word t h in cc, sym same)
time_by before room word e (Some t) sum is at =
    inr (t, time_texts_found word t is, three_found Hour Minute Second t.hour t.minute t.second (λ hour minute second. record { hour = hour; minute = minute; second = second }) before room e sum at)

pub time_fault_found : (before room : ℕ) (word : List ℕ) (e : SpecFault) → before + room ≡ 240 → time_in_word room word ≡ Err e → HasTimeFault before word e
unfolding time_in_word
time_fault_found before room word e sum at = time_by before room word e (time_texts word) sum refl at

no_time : (room : ℕ) (word : List ℕ) (o : Option TimeTexts) → time_texts word ≡ o → ((t : TimeTexts) → HasTimeTexts word t → ⊥) → time_due room o ≡ Err BadTime
no_time room word None is none = refl
no_time room word (Some t) is none = absurd (none t (time_texts_found word t is))

pub time_fault_only : (before room : ℕ) (word : List ℕ) (e : SpecFault) → before + room ≡ 240 → HasTimeFault before word e → time_in_word room word ≡ Err e
unfolding time_in_word time_fields
time_fault_only before room word e sum (inl none) = rw none.1 (no_time room word (time_texts word) refl none.0)
time_fault_only before room word e sum (inr (t, texts, wrong)) =
    rw (time_texts_only word t texts) (three_only Hour Minute Second t.hour t.minute t.second (λ hour minute second. record { hour = hour; minute = minute; second = second }) before room e sum wrong)
