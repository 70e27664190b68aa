-- Parsing printed weekdays returns the same weekdays. This is checked by computation for all sets of weekdays but the
-- empty one.
use Rattle.std.proofs.Common.{◌≡◌, ℕ, Bool, true, false, not, ◌&&◌, ◌||◌, if◌then◌else◌, List, length, map, Option, None, Some, is_none, Result, Ok, Err, refl, sym, ap, ◌∙◌, [], ◌∷◌, arith}
use Rattle.std.specs.List.{list_all, list_any}
use Rattle.std.proofs.lemmas.Bool.{and_parts, cond-false, cond-true, false≢true, not-true}
use Rattle.cal_civil.specs.rules.Weekday.{name_of, week}
use Rattle.cal_spec.specs.rules.Shorthand.{shorthand_named}
use Rattle.cal_spec.specs.rules.WeekdayRuns.{run_text, runs_from, runs_text}
use Rattle.cal_spec.specs.rules.WeekdayNames.{day_named, days_of}
use Rattle.cal_spec.specs.computed.WeekdayLists.{listed_days, weekdays_of}
use Rattle.cal_bytes.specs.rules.Separators.{is_blank}
use Rattle.cal_civil.specs.rules.ZoneName.{begins_with_letter}
use Rattle.cal_spec.specs.declared.shorthand.Shorthand.{Shorthand}
use Rattle.cal_spec.specs.declared.spec_fault.SpecFault.{SpecFault}
use Rattle.cal_bytes.proofs.General.{check_all, each_checked}

-- tests whether two Booleans are equal; `same_bools` tests two lists of Booleans
unfoldable same_bool : Bool → Bool → Bool
same_bool true b = b
same_bool false b = not b

unfoldable same_bools : List Bool → List Bool → Bool
same_bools [] [] = true
same_bools [] (c ∷ cs) = false
same_bools (b ∷ bs) [] = false
same_bools (b ∷ bs) (c ∷ cs) = same_bool b c && same_bools bs cs

same_bool_is : (b c : Bool) → same_bool b c ≡ true → b ≡ c
unfolding same_bool
same_bool_is true c h = grind arith
same_bool_is false c h = grind arith

same_bools_is : (bs cs : List Bool) → same_bools bs cs ≡ true → bs ≡ cs
unfolding same_bools
same_bools_is [] [] h = refl
same_bools_is [] (c ∷ cs) h = grind arith
same_bools_is (b ∷ bs) [] h = grind arith
same_bools_is (b ∷ bs) (c ∷ cs) h = let parts = and_parts (same_bool b c) (same_bools bs cs) h in grind (arith, same_bool_is b c parts.0, same_bools_is bs cs parts.1)

gives_days : Result (List Bool) SpecFault → List Bool → Bool
gives_days (Ok ds) days = same_bools ds days
gives_days (Err e) days = false

-- Tests whether `word` is recognized as a weekday list, and whether parsing it returns `days`. A word is recognized as
-- a weekday list if it contains no blanks, begins with a letter and isn't a shorthand.
is_read_back : List ℕ → List Bool → Bool
is_read_back word days =
    not (list_any is_blank word)
    && (begins_with_letter word && (is_none (shorthand_named word) && gives_days (weekdays_of word) days))

good_days : List Bool → Bool
good_days days =
    if list_all (λ d. d) days then same_bools (map (λ day. true) week) days
    else (not (list_any (λ d. d) days) || is_read_back (runs_text (runs_from 0 days)) days)

all_good : check_all 7 good_days ≡ true
unfolding good_days is_read_back gives_days same_bools same_bool shorthand_named weekdays_of listed_days days_of day_named runs_text run_text name_of
all_good = refl

gives_days_is : (r : Result (List Bool) SpecFault) (days : List Bool) → gives_days r days ≡ true → r ≡ Ok days
unfolding gives_days
gives_days_is (Ok ds) days h = ap Ok (same_bools_is ds days h)
gives_days_is (Err e) days h = absurd (false≢true h)

none_is : (o : Option Shorthand) → is_none o ≡ true → o ≡ None
none_is None h = refl
none_is (Some s) h = absurd (false≢true h)

-- `word` is recognized as a weekday list, and parsing it returns `days`
pub record ReadsDays (word : List ℕ) (days : List Bool) : Type 0 where
  pub clear : list_any is_blank word ≡ false
  pub letter : begins_with_letter word ≡ true
  pub plain : shorthand_named word ≡ None
  pub read : weekdays_of word ≡ Ok days

reads_days : (word : List ℕ) (days : List Bool) → is_read_back word days ≡ true → ReadsDays word days
unfolding is_read_back
reads_days word days h =
    let clear = and_parts (not (list_any is_blank word)) (begins_with_letter word && (is_none (shorthand_named word) && gives_days (weekdays_of word) days)) h in
    let letter = and_parts (begins_with_letter word) (is_none (shorthand_named word) && gives_days (weekdays_of word) days) clear.1 in
    let plain = and_parts (is_none (shorthand_named word)) (gives_days (weekdays_of word) days) letter.1 in
    record {
      clear = not-true (list_any is_blank word) clear.0;
      letter = letter.0;
      plain = none_is (shorthand_named word) plain.0;
      read = gives_days_is (weekdays_of word) days plain.1;
    }

all_days : (days : List Bool) → list_all (λ d. d) days ≡ true → good_days days ≡ true → map (λ day. true) week ≡ days
unfolding good_days
all_days days all good = same_bools_is (map (λ day. true) week) days (sym (cond-true (list_all (λ d. d) days) _ _ all) ∙ good)

some_days : (days : List Bool) → list_all (λ d. d) days ≡ false → list_any (λ d. d) days ≡ true → good_days days ≡ true → is_read_back (runs_text (runs_from 0 days)) days ≡ true
unfolding good_days
some_days days some chosen good =
    let none : not (list_any (λ d. d) days) ≡ false = ap not chosen in
    sym (ap (λ b. b || is_read_back (runs_text (runs_from 0 days)) days) none) ∙ (sym (cond-false (list_all (λ d. d) days) _ _ some) ∙ good)

-- if `days` contains all seven weekdays, it is the set that an expression without a weekday list gets
pub weekdays_all : (days : List Bool) → length days ≡ 7 → list_all (λ d. d) days ≡ true → map (λ day. true) week ≡ days
weekdays_all days seven all = all_days days all (each_checked 7 good_days days all_good seven)

-- if a set contains some of the weekdays but not all, parsing its text returns the set
pub weekdays_some : (days : List Bool) → length days ≡ 7 → list_all (λ d. d) days ≡ false → list_any (λ d. d) days ≡ true → ReadsDays (runs_text (runs_from 0 days)) days
weekdays_some days seven some chosen = reads_days (runs_text (runs_from 0 days)) days (some_days days some chosen (each_checked 7 good_days days all_good seven))
