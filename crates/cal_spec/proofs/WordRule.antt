-- The parser and the grammar agree on the roles of words: which of them are the weekdays, the date, the time and the
-- zone.
use Rattle.std.proofs.Common.{ℕ, ℤ, drop, ◌<◌, ◌≤◌, ◌≡◌, inl, inr, Bool, true, false, cond, List, [], ◌∷◌, ◌++◌, length, Option, Some, None, Ok, refl, sym, ap, ◌∙◌, arith, eqb}
use Rattle.std.specs.Prelude.{IfSome}
use Rattle.std.specs.List.{AllByRecursion, list_any}
use Rattle.std.specs.Option.{option_map, unwrap_or}
use Rattle.std.specs.Char.{is_ascii_alphabetic, to_ascii_lowercase}
use Rattle.std.proofs.lemmas.Bool.{cases_Bool, or_parts}
use Rattle.std.proofs.lemmas.Bool.Decides.{nat_tests}
use Rattle.std.proofs.lemmas.List.{length-append}
use Rattle.cal_bytes.specs.rules.Separators.{is_colon}
use Rattle.cal_spec.specs.rules.UnparsedTexts.{WordRoles}
use Rattle.cal_spec.specs.rules.GrammarRule.{given, ArePlain, HasRoles, IsPastTime, IsSignless, IsTimeAfter, IsZoneWord}
use Rattle.cal_spec.specs.rules.Shorthand.{any_date, midnight, expansion_of, shorthand_named}
use Rattle.cal_spec.specs.computed.Words.{roles_after_date, after_weekdays, date_or_time, roles_by, roles_in, roles_of}
use Rattle.cal_civil.specs.rules.ZoneName.{begins_with_letter, is_zone_name}
use Rattle.cal_civil.specs.rules.OffsetWord.{begins_zone, begins_with_sign}
use Rattle.cal_civil.specs.computed.ReadOffset.{offset_in}
use Rattle.cal_civil.proofs.OffsetWordLemmas.{offset-found}
use Rattle.cal_spec.specs.computed.ParsedSuffix.{suffix_due, suffix_in, suffix_of}
use Rattle.cal_spec.specs.rules.ZoneSuffix.{ZoneSuffix, at_offset, kept_name, of_name}
use Rattle.cal_spec.proofs.SuffixLemmas.{offset_suffix}
use Rattle.cal_spec.specs.declared.shorthand.Shorthand.{Shorthand}

-- ## Parsing a word as a zone succeeds if and only if the grammar allows the word as a zone

pub record ZoneRead (rest : List (List ℕ)) (suffix : Option ZoneSuffix) : Type 0 where
  pub last : Option (List ℕ)
  pub rest_is : rest ≡ given last
  pub is : IsZoneWord last suffix

offset_by : (word : List ℕ) (o : Option ℤ) (suffix : Option ZoneSuffix) → offset_in word ≡ o → suffix_due (option_map at_offset o) ≡ Ok suffix → ZoneRead (word ∷ []) suffix
offset_by word None suffix is at = cc
offset_by word (Some seconds) suffix is at =
    let same : Some (at_offset seconds) ≡ suffix = cc in
    record { last = Some word; rest_is = refl; is = inr (seconds, offset-found word seconds is, sym same) }

zone_by : (word : List ℕ) (test : Bool) (suffix : Option ZoneSuffix) → is_zone_name word ≡ test → suffix_due (cond test (Some (of_name (kept_name word))) (option_map at_offset (offset_in word))) ≡ Ok suffix → ZoneRead (word ∷ []) suffix
zone_by word true suffix is at =
    let same : Some (of_name (kept_name word)) ≡ suffix = cc in
    record { last = Some word; rest_is = refl; is = inl (is, sym same) }
zone_by word false suffix is at = offset_by word (offset_in word) suffix refl at

pub zone_read : (rest : List (List ℕ)) (suffix : Option ZoneSuffix) → suffix_in rest ≡ Ok suffix → ZoneRead rest suffix
unfolding suffix_of
zone_read [] suffix at = record { last = None; rest_is = refl; is = let same : None ≡ suffix = cc in sym same }
zone_read (w ∷ []) suffix at = zone_by w (is_zone_name w) suffix refl at
zone_read (w ∷ v ∷ ws) suffix at = cc

word_only : (word : List ℕ) (suffix : Option ZoneSuffix) → IsZoneWord (Some word) suffix → suffix_due (suffix_of word) ≡ Ok suffix
unfolding suffix_of
word_only word suffix (inl name) = rw (name.0, name.1) refl
word_only word suffix (inr offset) = ap suffix_due (offset_suffix word offset.0 offset.1) ∙ ap Ok (sym offset.2)

pub zone_only : (last : Option (List ℕ)) (suffix : Option ZoneSuffix) → IsZoneWord last suffix → suffix_in (given last) ≡ Ok suffix
zone_only None suffix is = ap Ok (sym is)
zone_only (Some word) suffix is = word_only word suffix is

-- ## The grammar gives words the roles that the parser finds

abbrev IsWeekdaysWord : List ℕ → Type 0
IsWeekdaysWord w = (begins_with_letter w ≡ true) × (shorthand_named w ≡ None)

abbrev IsDateWord : List ℕ → Type 0
IsDateWord w = (begins_with_letter w ≡ false) × (list_any is_colon w ≡ false)

signless_more : (weekdays : Option (List ℕ)) (w time : List ℕ) → AllByRecursion IsSignless (drop 1 (given weekdays ++ w ∷ [])) → IsSignless time → AllByRecursion IsSignless (drop 1 (given weekdays ++ (w ∷ time ∷ [])))
signless_more None w time first next = (next, tt)
signless_more (Some v) w time first next = (first.0, (next, tt))

-- The grammar gives the words after the weekday list the roles that the parser finds. If there is no weekday list, this
-- is true of all words.
module _ (weekdays : Option (List ℕ)) (kind : IfSome weekdays IsWeekdaysWord) where
  plain_with : (date time : Option (List ℕ)) (rest : List (List ℕ)) → 0 < length (given weekdays ++ (given date ++ given time)) → IfSome date IsDateWord → IfSome time (IsTimeAfter date) → AllByRecursion IsSignless (drop 1 (given weekdays ++ (given date ++ given time))) → IsPastTime time rest
      → ArePlain (given weekdays ++ (given date ++ (given time ++ rest))) (record { weekdays = weekdays; date = unwrap_or date any_date; time = unwrap_or time midnight; rest = rest })
  plain_with date time rest some date_kind time_kind signless past = record {
    date = date;
    time = time;
    whole = refl;
    some = some;
    weekdays_kind = kind;
    date_kind = date_kind;
    time_kind = time_kind;
    signless = signless;
    past_time = past;
    date_is = refl;
    time_is = refl;
  }

  after_date_found : (date : List ℕ) (ws : List (List ℕ)) → IsDateWord date → AllByRecursion IsSignless (drop 1 (given weekdays ++ date ∷ []))
      → ArePlain (given weekdays ++ (date ∷ ws)) (roles_after_date weekdays date ws)
  after_date_found date [] is signless = plain_with (Some date) None [] (omega (arith, length-append (given weekdays) (date ∷ []))) is tt signless tt
  after_date_found date (w ∷ ws) is signless =
      elim (cases_Bool (begins_zone w)) [
        | inl zone ↦ rw zone (plain_with (Some date) None (w ∷ ws) (omega (arith, length-append (given weekdays) (date ∷ []))) is tt signless zone)
        | inr other ↦ (let kinds = or_parts (begins_with_letter w) (begins_with_sign w) other in rw other (plain_with (Some date) (Some w) ws (omega (arith, length-append (given weekdays) (date ∷ w ∷ []))) is kinds.0 (signless_more weekdays date w signless kinds.1) tt))
      ]

  date_or_time_found : (w : List ℕ) (ws : List (List ℕ)) → begins_with_letter w ≡ false → AllByRecursion IsSignless (drop 1 (given weekdays ++ w ∷ []))
      → ArePlain (given weekdays ++ (w ∷ ws)) (date_or_time weekdays w ws)
  date_or_time_found w ws letter signless =
      elim (cases_Bool (list_any is_colon w)) [
        | inl has ↦ rw has (plain_with None (Some w) ws (omega (arith, length-append (given weekdays) (w ∷ []))) tt (letter, has) signless tt)
        | inr none ↦ rw none (after_date_found w ws (letter, none) signless)
      ]

after_weekdays_found : (weekdays : List ℕ) (ws : List (List ℕ)) → IsWeekdaysWord weekdays → ArePlain (weekdays ∷ ws) (after_weekdays (Some weekdays) ws)
after_weekdays_found weekdays [] kind = plain_with (Some weekdays) kind None None [] (omega arith) tt tt tt tt
after_weekdays_found weekdays (w ∷ ws) kind =
    elim (cases_Bool (begins_zone w)) [
      | inl zone ↦ rw zone (plain_with (Some weekdays) kind None None (w ∷ ws) (omega arith) tt tt tt zone)
      | inr other ↦ (let kinds = or_parts (begins_with_letter w) (begins_with_sign w) other in rw other (date_or_time_found (Some weekdays) kind w ws kinds.0 (kinds.1, tt)))
    ]

plain_found : (w : List ℕ) (ws : List (List ℕ)) → shorthand_named w ≡ None → ArePlain (w ∷ ws) (roles_in w ws)
plain_found w ws short =
    elim (cases_Bool (begins_with_letter w)) [
      | inl letter ↦ rw letter (after_weekdays_found w ws (letter, short))
      | inr other ↦ rw other (date_or_time_found None tt w ws other tt)
    ]

found_by : (w : List ℕ) (ws : List (List ℕ)) (o : Option Shorthand) → shorthand_named w ≡ o → HasRoles (w ∷ ws) (roles_by o w ws)
found_by w ws None is = inl (plain_found w ws is)
found_by w ws (Some shorthand) is = inr (record {
  word = w;
  shorthand = shorthand;
  whole = refl;
  named = is;
  weekdays_is = refl;
  date_is = refl;
  time_is = refl;
})

pub roles_found : (ws : List (List ℕ)) (p : WordRoles) → roles_of ws ≡ Some p → HasRoles ws p
unfolding roles_of
roles_found [] p at = cc
roles_found (w ∷ ws) p at =
    let is : roles_by (shorthand_named w) w ws ≡ p = cc in
    rw (← is) (found_by w ws (shorthand_named w) refl)

-- ## The parser finds the roles that the grammar gives the words

after_date_is : (weekdays : Option (List ℕ)) (date : List ℕ) (time : Option (List ℕ)) (rest : List (List ℕ)) → IfSome time (IsTimeAfter (Some date)) → AllByRecursion IsSignless (given time) → IsPastTime time rest → roles_after_date weekdays date (given time ++ rest) ≡ record { weekdays = weekdays; date = date; time = unwrap_or time midnight; rest = rest }
after_date_is weekdays date None [] kind signless past = refl
after_date_is weekdays date None (word ∷ rest) kind signless past = rw past refl
after_date_is weekdays date (Some time) rest kind signless past = rw (kind, signless.0) refl

after_weekdays_is : (weekdays : Option (List ℕ)) (date time : Option (List ℕ)) (rest : List (List ℕ)) → IfSome date IsDateWord → IfSome time (IsTimeAfter date) → AllByRecursion IsSignless (given date ++ given time) → IsPastTime time rest → after_weekdays weekdays (given date ++ (given time ++ rest)) ≡ record { weekdays = weekdays; date = unwrap_or date any_date; time = unwrap_or time midnight; rest = rest }
after_weekdays_is weekdays None None [] date_kind kind signless past = refl
after_weekdays_is weekdays None None (word ∷ rest) date_kind kind signless past = rw past refl
after_weekdays_is weekdays None (Some time) rest date_kind kind signless past = rw (kind.0, signless.0, kind.1) refl
after_weekdays_is weekdays (Some date) time rest date_kind kind signless past =
    rw (date_kind.0, signless.0, date_kind.1) (after_date_is weekdays date time rest kind signless.1 past)

-- converting a byte `b` that isn't a letter to lower case doesn't give a lower-case letter; `c` is any byte from `a` to
-- `z`
other_letter : (b c : ℕ) → is_ascii_alphabetic b ≡ false → 97 ≤ c → c ≤ 122 → eqb (to_ascii_lowercase b) c ≡ false
other_letter b c none low high = grind (arith, nat_tests)

pub no_shorthand : (word : List ℕ) → begins_with_letter word ≡ false → shorthand_named word ≡ None
unfolding shorthand_named
no_shorthand [] none = refl
no_shorthand (b ∷ bs) none =
    rw (other_letter b 109 none (omega arith) (omega arith), other_letter b 104 none (omega arith) (omega arith), other_letter b 100 none (omega arith) (omega arith), other_letter b 119 none (omega arith) (omega arith), other_letter b 113 none (omega arith) (omega arith), other_letter b 115 none (omega arith) (omega arith), other_letter b 98 none (omega arith) (omega arith), other_letter b 121 none (omega arith) (omega arith), other_letter b 97 none (omega arith) (omega arith)) refl

plain_is : (weekdays date time : Option (List ℕ)) (rest : List (List ℕ)) → 0 < length (given weekdays ++ (given date ++ given time)) → IfSome weekdays IsWeekdaysWord → IfSome date IsDateWord → IfSome time (IsTimeAfter date) → AllByRecursion IsSignless (drop 1 (given weekdays ++ (given date ++ given time))) → IsPastTime time rest → roles_of (given weekdays ++ (given date ++ (given time ++ rest))) ≡ Some (record { weekdays = weekdays; date = unwrap_or date any_date; time = unwrap_or time midnight; rest = rest })
unfolding roles_of
plain_is (Some w) date time rest some kind date_kind time_kind signless past =
    rw (kind.1, kind.0) (ap Some (after_weekdays_is (Some w) date time rest date_kind time_kind signless past))
plain_is None (Some d) time rest some kind date_kind time_kind signless past =
    rw (no_shorthand d date_kind.0, date_kind.0, date_kind.1) (ap Some (after_date_is None d time rest time_kind signless past))
plain_is None None (Some t) rest some kind date_kind time_kind signless past =
    rw (no_shorthand t time_kind.0, time_kind.0, time_kind.1) refl
plain_is None None None rest some kind date_kind time_kind signless past = absurd (omega arith)

same_roles : (p : WordRoles) (weekdays : Option (List ℕ)) (date time : List ℕ) (rest : List (List ℕ)) → p.weekdays ≡ weekdays → p.date ≡ date → p.time ≡ time → p.rest ≡ rest → record { weekdays = weekdays; date = date; time = time; rest = rest } ≡ p
same_roles p weekdays date time rest a b c d =
    let made : record { weekdays = weekdays; date = date; time = time; rest = rest } ≡ record { weekdays = p.weekdays; date = p.date; time = p.time; rest = p.rest } = cc in made

pub roles_only : (ws : List (List ℕ)) (p : WordRoles) → HasRoles ws p → roles_of ws ≡ Some p
unfolding roles_of
roles_only ws p (inl plain) =
    ap roles_of plain.whole ∙ plain_is p.weekdays plain.date plain.time p.rest plain.some plain.weekdays_kind plain.date_kind plain.time_kind plain.signless plain.past_time ∙ ap Some (same_roles p p.weekdays (unwrap_or plain.date any_date) (unwrap_or plain.time midnight) p.rest refl plain.date_is plain.time_is refl)
roles_only ws p (inr short) =
    let expansion = expansion_of short.shorthand in
    rw (short.whole, short.named) (ap Some (same_roles p expansion.weekdays expansion.date expansion.time p.rest short.weekdays_is short.date_is short.time_is refl))
