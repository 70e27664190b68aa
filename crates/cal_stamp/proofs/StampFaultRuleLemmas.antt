-- Parsing the words of a civil time fails with an error if and only if this error is the first error of the words
-- (`HasFirstError`). Parsing the words after `today`, `yesterday` or `tomorrow` fails with an error if and only if
-- these words have this error (`HasZoneError`).
use Rattle.std.proofs.Common.{ℕ, ◌≡◌, ◌⊎◌, inl, inr, true, false, ◌||◌, List, [], ◌∷◌, ◌++◌, refl, sym, ap, ◌∙◌, append_assoc, Option, Some, None, Ok, Err, ℤ}
use Rattle.std.specs.Prelude.{Result, is_some}
use Rattle.std.specs.List.{list_any}
use Rattle.std.specs.Option.{option_to_list}
use Rattle.std.proofs.lemmas.Bool.{cases_Bool}
use Rattle.jiff.specs.Types.{TimeZone, Weekday}
use Rattle.cal_civil.proofs.OffsetWordLemmas.{offset-found, offset-only}
use Rattle.cal_civil.specs.computed.ReadOffset.{offset_in}
use Rattle.cal_civil.specs.rules.OffsetWord.{IsOffsetWord}
use Rattle.cal_civil.specs.rules.ZoneName.{begins_with_letter}
use Rattle.cal_bytes.specs.rules.AndThen.{◌>>=◌}
use Rattle.cal_bytes.specs.rules.Separators.{is_colon}
use Rattle.cal_spec.specs.rules.WeekdayNames.{day_named}
use Rattle.cal_zone.specs.rules.Setting.{Setting}
use Rattle.cal_stamp.specs.rules.StampTime.{begins_with_digit, time_written}
use Rattle.cal_stamp.specs.computed.Stamp.{name_found, offset_found, zone_of_word, zone_alone, zone_by_words, civil_stamp_in, after_date, after_weekday, weekday_found, civil_time}
use Rattle.cal_stamp.specs.rules.StampCivilRule.{NamesWeekday, WritesDate, WritesTime, NamesZone}
use Rattle.cal_stamp.specs.rules.StampDate.{day_written}
use Rattle.cal_stamp.specs.rules.StampFaultRule.{IsNoDateOrTime, IsNoZone, IsAtFault, HasFirstError, HasZoneError, IsNoLastWord}
use Rattle.cal_stamp.specs.declared.fault.StampFault.{StampFault}
use Rattle.cal_stamp.specs.declared.fault.StampFault.TheVariants.{BadDate, NoSuchZone, StrayWord}
use Rattle.cal_stamp.proofs.StampCivilRuleLemmas.{date_begins, date_no_colon, means, means_from, no_letter_first, time_begins, time_has_colon, zone_begins}

-- if two steps in sequence fail with an error, either the first fails with it, or the first succeeds and the second
-- fails with it
pub err_of : {A B : Type 0} (r : Result A StampFault) (f : A → Result B StampFault) (e : StampFault) → (r >>= f) ≡ Err e → (r ≡ Err e) ⊎ ((x : A) × (r ≡ Ok x) × (f x ≡ Err e))
err_of (Ok x) f e h = inr (x, refl, h)
err_of (Err g) f e h = inl (let same : g ≡ e = cc in ap Err same)

-- ## From the rule to the parser

no_offset_by : (word : List ℕ) (found : Option ℤ) → offset_in word ≡ found → ((seconds : ℤ) → IsOffsetWord word seconds → ⊥) → offset_in word ≡ None
no_offset_by word None e none = e
no_offset_by word (Some seconds) e none = absurd (none seconds (offset-found word seconds e))

no_zone-only : (find : List ℕ → Option TimeZone) (word : List ℕ) (fault : StampFault) → IsNoZone find word fault → zone_of_word find word ≡ Err fault
no_zone-only find word fault (inl name) = rw (name.0, name.1, name.2) refl
no_zone-only find word fault (inr other) = rw (other.0, no_offset_by word _ refl other.1, other.2) refl

written_only : (at : Setting) (weekday : Option Weekday) (day : Option ℤ) (micros : ℕ) (word : List ℕ) (after : List (List ℕ)) (fault : StampFault) → IsNoZone at.find word fault
    → civil_stamp_in at weekday day micros (word ∷ after) ≡ Err fault
written_only at weekday day micros word after fault h = rw (no_zone-only at.find word fault h) refl

stray_only : (at : Setting) (weekday : Option Weekday) (day : Option ℤ) (micros : ℕ) (name word : List ℕ) (after : List (List ℕ)) (zone : TimeZone) (fault : StampFault) → NamesZone at (Some name) zone → fault ≡ StrayWord
    → civil_stamp_in at weekday day micros (name ∷ word ∷ after) ≡ Err fault
stray_only at weekday day micros name word after zone fault z h = rw (means_from at.find name zone z, h) refl

after_date_only : (at : Setting) (first : Option (List ℕ)) (weekday : Option Weekday) (d : List ℕ) (day : ℤ) (time name : Option (List ℕ)) (micros : ℕ) (zone : TimeZone) (word : List ℕ) (after : List (List ℕ)) (fault : StampFault)
    → WritesTime time micros → NamesZone at name zone → IsAtFault at first (Some d) time name word fault
    → after_date at weekday day (option_to_list time ++ (option_to_list name ++ (word ∷ after))) ≡ Err fault
after_date_only at first weekday d day None None micros zone word after fault t z (inl digit) = rw (digit.0, digit.1) refl
after_date_only at first weekday d day None None micros zone word after fault t z (inr other) =
    rw other.0 (written_only at weekday (Some day) 0 word after fault other.1)
after_date_only at first weekday d day None (Some name) micros zone word after fault t z h =
    rw (zone_begins at.find name zone z) (stray_only at weekday (Some day) 0 name word after zone fault z h)
after_date_only at first weekday d day (Some time) None micros zone word after fault t z h =
    rw (time_begins time micros t, t) (written_only at weekday (Some day) micros word after fault h)
after_date_only at first weekday d day (Some time) (Some name) micros zone word after fault t z h =
    rw (time_begins time micros t, t) (stray_only at weekday (Some day) micros name word after zone fault z h)

date_or_time_only : (at : Setting) (weekday : Option Weekday) (word : List ℕ) (after : List (List ℕ)) (fault : StampFault) → IsNoDateOrTime word fault → after_weekday at weekday (word ∷ after) ≡ Err fault
date_or_time_only at weekday word after fault (inl colon) = rw (colon.0, colon.1) refl
date_or_time_only at weekday word after fault (inr none) = rw (none.0, none.1) refl

-- if a word that follows a date or a time has an error, and all words before it are valid, parsing the words after the
-- weekday fails with this error
body_only : (at : Setting) (first : Option (List ℕ)) (weekday : Option Weekday) (date time name : Option (List ℕ)) (day : Option ℤ) (micros : ℕ) (zone : TimeZone) (word : List ℕ) (after : List (List ℕ)) (fault : StampFault)
    → (is_some date || is_some time) ≡ true → WritesDate date day → WritesTime time micros → NamesZone at name zone → IsAtFault at first date time name word fault
    → after_weekday at weekday (option_to_list date ++ (option_to_list time ++ (option_to_list name ++ (word ∷ after)))) ≡ Err fault
body_only at first weekday None None name day micros zone word after fault some d t z h = cc
body_only at first weekday None (Some time) None day micros zone word after fault some d t z h =
    rw (time_has_colon time micros t, t) (written_only at weekday None micros word after fault h)
body_only at first weekday None (Some time) (Some name) day micros zone word after fault some d t z h =
    rw (time_has_colon time micros t, t) (stray_only at weekday None micros name word after zone fault z h)
body_only at first weekday (Some date) time name day micros zone word after fault some d t z h =
    rw (date_no_colon date d.0 d.1, d.1) (after_date_only at first weekday date d.0 time name micros zone word after fault t z h)

civil_only : (at : Setting) (first date time name : Option (List ℕ)) (weekday : Option Weekday) (day : Option ℤ) (micros : ℕ) (zone : TimeZone) (word : List ℕ) (after : List (List ℕ)) (fault : StampFault)
    → (is_some name ≡ true → (is_some date || is_some time) ≡ true) → NamesWeekday first weekday → WritesDate date day → WritesTime time micros → NamesZone at name zone → IsAtFault at first date time name word fault
    → civil_time at (option_to_list first ++ (option_to_list date ++ (option_to_list time ++ (option_to_list name ++ (word ∷ after))))) ≡ Err fault
civil_only at None None None None weekday day micros zone word after fault last w d t z (inl bad) = rw (bad.0, bad.1, bad.2) refl
civil_only at None None None None weekday day micros zone word after fault last w d t z (inr other) =
    rw other.0 (date_or_time_only at None word after fault other.1)
civil_only at (Some first) None None None weekday day micros zone word after fault last w d t z h =
    rw (w.1, w.2) (date_or_time_only at (Some w.0) word after fault h)
civil_only at first None None (Some name) weekday day micros zone word after fault last w d t z h =
    let none : false ≡ true = last refl in cc
civil_only at (Some first) (Some date) time name weekday day micros zone word after fault last w d t z h =
    rw (w.1, w.2) (body_only at (Some first) (Some w.0) (Some date) time name day micros zone word after fault refl d t z h)
civil_only at (Some first) None (Some time) name weekday day micros zone word after fault last w d t z h =
    rw (w.1, w.2) (body_only at (Some first) (Some w.0) None (Some time) name day micros zone word after fault refl d t z h)
civil_only at None (Some date) time name weekday day micros zone word after fault last w d t z h =
    rw (date_begins date d.0 d.1) (body_only at None None (Some date) time name day micros zone word after fault refl d t z h)
civil_only at None None (Some time) name weekday day micros zone word after fault last w d t z h =
    rw (no_letter_first time (time_begins time micros t)) (body_only at None None None (Some time) name day micros zone word after fault refl d t z h)

soon_only : (at : Setting) (first : Option (List ℕ)) (weekday : Option Weekday) (fault : StampFault) → NamesWeekday first weekday → fault ≡ BadDate → civil_time at (option_to_list first ++ []) ≡ Err fault
soon_only at None weekday fault w h = rw h refl
soon_only at (Some first) weekday fault w h = rw (w.1, w.2, h) refl

regrouped : (a b c d e : List (List ℕ)) → (a ++ (b ++ (c ++ d))) ++ e ≡ a ++ (b ++ (c ++ (d ++ e)))
regrouped a b c d e = simp append_assoc

pub first-only : (at : Setting) (ws : List (List ℕ)) (fault : StampFault) → HasFirstError at ws fault → civil_time at ws ≡ Err fault
first-only at ws fault (inl h) =
    let r = h.are_read in
    let whole = h.whole ∙ ap (λ front. front ++ (h.word ∷ h.after)) r.whole
    ∙ regrouped (option_to_list h.weekday) (option_to_list h.date) (option_to_list h.time) (option_to_list h.zone) (h.word ∷ h.after) in
    ap (civil_time at) whole
    ∙ civil_only at h.weekday h.date h.time h.zone r.has_weekday.0 r.has_date.0 r.has_time.0 r.has_zone.0 h.word h.after fault r.zone_last r.has_weekday.1 r.has_date.1 r.has_time.1 r.has_zone.1 h.is_at_fault
first-only at ws fault (inr h) =
    let r = h.are_read in ap (civil_time at) r.whole ∙ soon_only at h.weekday r.has_weekday.0 fault r.has_weekday.1 h.is_bad_date

-- ## From the parser to the rule

name_missing : (found : Option TimeZone) (fault : StampFault) → name_found found ≡ Err fault → (found ≡ None) × (fault ≡ NoSuchZone)
name_missing None fault h = (refl, cc)
name_missing (Some zone) fault h = cc

offset_missing : (found : Option ℤ) (fault : StampFault) → offset_found found ≡ Err fault → (found ≡ None) × (fault ≡ StrayWord)
offset_missing None fault h = (refl, cc)
offset_missing (Some seconds) fault h = cc

no_offset : (word : List ℕ) → offset_in word ≡ None → (seconds : ℤ) → IsOffsetWord word seconds → ⊥
no_offset word none seconds h = let some = offset-only word seconds h in cc

no_zone : (find : List ℕ → Option TimeZone) (word : List ℕ) (fault : StampFault) → zone_of_word find word ≡ Err fault → IsNoZone find word fault
no_zone find word fault h =
    elim (cases_Bool (begins_with_letter word)) [
      | inl letter ↦ (let lost = name_missing (find word) fault (rw letter at h) in inl (letter, lost.0, lost.1))
      | inr other ↦ (let lost = offset_missing (offset_in word) fault (rw other at h) in inr (other, no_offset word lost.0, lost.1))
    ]

-- In this module, `first` is the word for the weekday, or `None` if no weekday is named. The lemmas are about the words
-- that come after the weekday.
module _ (at : Setting) (first : Option (List ℕ)) (weekday : Option Weekday) (fault : StampFault) (names : NamesWeekday first weekday) where
  at_word : (date time name : Option (List ℕ)) (day : Option ℤ) (micros : ℕ) (zone : TimeZone) (word : List ℕ) (after : List (List ℕ))
      → WritesDate date day → WritesTime time micros → NamesZone at name zone → (is_some name ≡ true → (is_some date || is_some time) ≡ true) → IsAtFault at first date time name word fault
      → HasFirstError at (option_to_list first ++ (option_to_list date ++ (option_to_list time ++ (option_to_list name ++ (word ∷ after))))) fault
  at_word date time name day micros zone word after d t z last h =
      inl (record {
        front = option_to_list first ++ (option_to_list date ++ (option_to_list time ++ option_to_list name));
        word = word;
        after = after;
        whole = sym (regrouped (option_to_list first) (option_to_list date) (option_to_list time) (option_to_list name) (word ∷ after));
        weekday = first;
        date = date;
        time = time;
        zone = name;
        are_read = record { whole = refl; has_weekday = (weekday, names); has_date = (day, d); has_time = (micros, t); has_zone = (zone, z); zone_last = last };
        is_at_fault = h;
      })

  -- the next three lemmas: if parsing the zone or the words after it fails with `fault`, then `fault` is the first
  -- error of all the words
  second_zone : (date time : Option (List ℕ)) (day : Option ℤ) (micros : ℕ) (w : List ℕ) (zone : TimeZone) (ws : List (List ℕ)) → (is_some date || is_some time) ≡ true → WritesDate date day → WritesTime time micros → NamesZone at (Some w) zone
      → zone_alone zone ws ≡ Err fault → HasFirstError at (option_to_list first ++ (option_to_list date ++ (option_to_list time ++ (w ∷ ws)))) fault
  second_zone date time day micros w zone [] some d t z h = cc
  second_zone date time day micros w zone (v ∷ vs) some d t z h = at_word date time (Some w) day micros zone v vs d t z (λ named. some) (cc)

  zone_words : (date time : Option (List ℕ)) (day : Option ℤ) (micros : ℕ) (w : List ℕ) (ws : List (List ℕ)) → (is_some date || is_some time) ≡ true → WritesDate date day → WritesTime time micros
      → (IsNoZone at.find w fault → IsAtFault at first date time None w fault) → zone_by_words at (w ∷ ws) ≡ Err fault
      → HasFirstError at (option_to_list first ++ (option_to_list date ++ (option_to_list time ++ (w ∷ ws)))) fault
  zone_words date time day micros w ws some d t place h =
      elim (err_of (zone_of_word at.find w) (λ zone. zone_alone zone ws) fault h) [
        | inl lost ↦ at_word date time None day micros at.local w ws d t refl (λ named. let e : false ≡ true = named in cc) (place (no_zone at.find w fault lost))
        | inr more ↦ second_zone date time day micros w more.0 ws some d t (means at.find w more.0 more.1) more.2
      ]

  written_words : (date time : Option (List ℕ)) (day : Option ℤ) (micros : ℕ) (w : List ℕ) (ws : List (List ℕ)) → (is_some date || is_some time) ≡ true → WritesDate date day → WritesTime time micros
      → (IsNoZone at.find w fault → IsAtFault at first date time None w fault) → civil_stamp_in at weekday day micros (w ∷ ws) ≡ Err fault
      → HasFirstError at (option_to_list first ++ (option_to_list date ++ (option_to_list time ++ (w ∷ ws)))) fault
  written_words date time day micros w ws some d t place h =
      elim (err_of (zone_by_words at (w ∷ ws)) (λ zone. Ok (record { weekday = weekday; day = day; micros = micros; zone = zone })) fault h) [
        | inl lost ↦ zone_words date time day micros w ws some d t place lost
        | inr none ↦ (let e = none.2 in cc)
      ]

  -- if parsing the words after the time fails with `fault`, then `fault` is the first error of all the words
  last_words : (date : Option (List ℕ)) (time : List ℕ) (day : Option ℤ) (micros : ℕ) (ws : List (List ℕ)) → WritesDate date day → time_written time ≡ Ok micros → civil_stamp_in at weekday day micros ws ≡ Err fault
      → HasFirstError at (option_to_list first ++ (option_to_list date ++ (time ∷ ws))) fault
  last_words date time day micros [] d t h = cc
  last_words None time day micros (w ∷ ws) d t h = written_words None (Some time) day micros w ws refl d t (λ no. no) h
  last_words (Some date) time day micros (w ∷ ws) d t h = written_words (Some date) (Some time) day micros w ws refl d t (λ no. no) h

  -- if parsing the words after the date fails with `fault`, then `fault` is the first error of all the words
  day_words : (d : List ℕ) (day : ℤ) (ws : List (List ℕ)) → day_written d ≡ Ok day → after_date at weekday day ws ≡ Err fault → HasFirstError at (option_to_list first ++ (d ∷ ws)) fault
  day_words d day [] e h = cc
  day_words d day (w ∷ ws) e h =
      elim (cases_Bool (begins_with_digit w)) [
        | inl digit ↦ elim (err_of (time_written w) (λ micros. civil_stamp_in at weekday (Some day) micros ws) fault (rw digit at h)) [
          | inl bad ↦ at_word (Some d) None None (Some day) 0 at.local w ws (day, e, refl) refl refl (λ named. refl) (inl (digit, bad))
          | inr more ↦ last_words (Some d) w (Some day) more.0 ws (day, e, refl) more.1 more.2
        ]
        | inr other ↦ written_words (Some d) None (Some day) 0 w ws refl (day, e, refl) refl (λ no. inr (other, no)) (rw other at h)
      ]

  body : (w : List ℕ) (ws : List (List ℕ)) → (IsNoDateOrTime w fault → IsAtFault at first None None None w fault) → after_weekday at weekday (w ∷ ws) ≡ Err fault → HasFirstError at (option_to_list first ++ (w ∷ ws)) fault
  body w ws place h =
      elim (cases_Bool (list_any is_colon w)) [
        | inl colon ↦ elim (err_of (time_written w) (λ micros. civil_stamp_in at weekday None micros ws) fault (rw colon at h)) [
          | inl bad ↦ at_word None None None None 0 at.local w ws refl refl refl (λ named. let e : false ≡ true = named in cc) (place (inl (colon, bad)))
          | inr more ↦ last_words None w None more.0 ws refl more.1 more.2
        ]
        | inr none ↦ elim (err_of (day_written w) (λ day. after_date at weekday day ws) fault (rw none at h)) [
          | inl bad ↦ at_word None None None None 0 at.local w ws refl refl refl (λ named. let e : false ≡ true = named in cc) (place (inr (none, bad)))
          | inr more ↦ day_words w more.0 ws more.1 more.2
        ]
      ]

soon : (at : Setting) (first : Option (List ℕ)) (weekday : Option Weekday) (fault : StampFault) → NamesWeekday first weekday → fault ≡ BadDate → HasFirstError at (option_to_list first ++ []) fault
soon at first weekday fault names h =
    inr (record {
      weekday = first;
      are_read = record { whole = refl; has_weekday = (weekday, names); has_date = (None, refl); has_time = (0, refl); has_zone = (at.local, refl); zone_last = λ named. let e : false ≡ true = named in cc };
      is_bad_date = h;
    })

after_named : (at : Setting) (w : List ℕ) (ws : List (List ℕ)) (weekday : Weekday) (fault : StampFault) → begins_with_letter w ≡ true → day_named w ≡ Some weekday → after_weekday at (Some weekday) ws ≡ Err fault → HasFirstError at (w ∷ ws) fault
after_named at w [] weekday fault letter e h = soon at (Some w) (Some weekday) fault (weekday, letter, e, refl) (cc)
after_named at w (v ∷ vs) weekday fault letter e h = body at (Some w) (Some weekday) fault (weekday, letter, e, refl) v vs (λ no. no) h

named : (at : Setting) (w : List ℕ) (ws : List (List ℕ)) (weekday : Option Weekday) (fault : StampFault) → begins_with_letter w ≡ true → day_named w ≡ weekday → weekday_found at weekday ws ≡ Err fault → HasFirstError at (w ∷ ws) fault
named at w ws None fault letter e h =
    at_word at None None fault refl None None None None 0 at.local w ws refl refl refl (λ none. let f : false ≡ true = none in cc) (inl (letter, e, cc))
named at w ws (Some weekday) fault letter e h = after_named at w ws weekday fault letter e h

pub first-found : (at : Setting) (ws : List (List ℕ)) (fault : StampFault) → civil_time at ws ≡ Err fault → HasFirstError at ws fault
first-found at [] fault h = soon at None None fault refl (cc)
first-found at (w ∷ ws) fault h =
    elim (cases_Bool (begins_with_letter w)) [
      | inl letter ↦ named at w ws _ fault letter refl (rw letter at h)
      | inr other ↦ body at None None fault refl w ws (λ no. inr (other, no)) (rw other at h)
    ]

-- ## The words after `today`, `yesterday` and `tomorrow`

zone_only : (at : Setting) (name : Option (List ℕ)) (zone : TimeZone) (word : List ℕ) (after : List (List ℕ)) (fault : StampFault) → NamesZone at name zone → IsNoLastWord at name word fault
    → zone_by_words at (option_to_list name ++ (word ∷ after)) ≡ Err fault
zone_only at None zone word after fault z h = rw (no_zone-only at.find word fault h) refl
zone_only at (Some name) zone word after fault z h = rw (means_from at.find name zone z, h) refl

pub zone-only : (at : Setting) (ws : List (List ℕ)) (fault : StampFault) → HasZoneError at ws fault → zone_by_words at ws ≡ Err fault
zone-only at ws fault h = ap (zone_by_words at) h.whole ∙ zone_only at h.name h.zone h.word h.after fault h.has_zone h.is_at_fault

second_word : (at : Setting) (w : List ℕ) (ws : List (List ℕ)) (zone : TimeZone) (fault : StampFault) → NamesZone at (Some w) zone → zone_alone zone ws ≡ Err fault → HasZoneError at (w ∷ ws) fault
second_word at w [] zone fault z h = cc
second_word at w (v ∷ vs) zone fault z h =
    record { name = Some w; word = v; after = vs; zone = zone; whole = refl; has_zone = z; is_at_fault = (cc) }

pub zone-found : (at : Setting) (ws : List (List ℕ)) (fault : StampFault) → zone_by_words at ws ≡ Err fault → HasZoneError at ws fault
zone-found at [] fault h = cc
zone-found at (w ∷ ws) fault h =
    elim (err_of (zone_of_word at.find w) (λ zone. zone_alone zone ws) fault h) [
      | inl lost ↦ record { name = None; word = w; after = ws; zone = at.local; whole = refl; has_zone = refl; is_at_fault = no_zone at.find w fault lost }
      | inr more ↦ second_word at w ws more.0 fault (means at.find w more.0 more.1) more.2
    ]
