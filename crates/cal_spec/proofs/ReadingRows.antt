-- Examples of invalid texts and of their errors. Parsing fails with these errors, which is checked by computation; and
-- the texts have these errors by the rule `HasFault`.
use Rattle.std.proofs.Common.{◌≡◌, codes, refl, Err, List, [], ◌∷◌, ℕ, map}
use Rattle.std.specs.List.{AllByRecursion}
use Rattle.cal_spec.specs.rules.GrammarFaultRule.{HasFault}
use Rattle.cal_spec.proofs.GrammarFaults.{fault_found}
use Rattle.cal_spec.specs.computed.Grammar.{fields_in, fields_at}
use Rattle.cal_spec.specs.computed.Words.{roles_of}
use Rattle.cal_bytes.specs.rules.Separators.{words}
use Rattle.cal_spec.specs.rules.Shorthand.{shorthand_named}
use Rattle.cal_spec.specs.rules.WeekdayNames.{day_named, days_of}
use Rattle.cal_spec.specs.computed.WeekdayLists.{listed_days, weekdays_of}
use Rattle.cal_spec.specs.computed.DateAndTime.{date_texts, time_texts, date_fields, time_fields, date_in_word, time_in_word}
use Rattle.cal_spec.specs.computed.Components.{part_due, parts_listed, component_of}
use Rattle.cal_spec.specs.computed.Parts.{with_step, after_end, after_start, part_of, fault_of}
use Rattle.cal_civil.specs.computed.ReadOffset.{hour_minute_in, offset_in, two_digits}
use Rattle.cal_civil.specs.rules.ZoneName.{is_zone_name}
use Rattle.cal_spec.specs.computed.ParsedSuffix.{suffix_of}
use Rattle.cal_spec.specs.declared.spec_fault.SpecFault.{SpecFault}
use Rattle.cal_civil.specs.rules.Weekday.{name_of}
use Rattle.cal_spec.specs.declared.spec_fault.SpecFault.TheVariants.{Empty, BadWeekday, BadDate, BadTime, FractionalSecond, NumberTooLarge, OutOfField, BackwardRange, ZeroRepeat, NoRepeat, TooManyParts, StrayWord, UnknownShorthand}

-- a text, and the error that parsing it returns
abbrev Row : Type 0
Row = List ℕ × SpecFault

abbrev rows : List Row
rows =
    (codes "20/4:00", NoRepeat)
    ∷ (codes "00:00/60", NoRepeat)
    ∷ (codes "12..1-*-*", BackwardRange)
    ∷ (codes "*~29", OutOfField)
    ∷ (codes "25:00", OutOfField)
    ∷ (codes "*:*/5", BadTime)
    ∷ (codes "0:0:1.5", FractionalSecond)
    ∷ (codes "7", BadDate)
    ∷ (codes "", Empty)
    ∷ (codes "Mon,,Tue", BadWeekday)
    ∷ (codes "10000-1-1", NumberTooLarge)
    ∷ (codes "*:0/0", ZeroRepeat)
    ∷ (codes "12:00 UTC now", StrayWord)
    ∷ (codes "fortnightly", UnknownShorthand)
    ∷ (codes "*-*~9..3", BackwardRange)
    ∷ (codes "*-*~1/1", NoRepeat)
    ∷ (codes "2199/1-1-1", NoRepeat)
    ∷ (codes "69..70-1-1", BackwardRange)
    ∷ (codes "*-1~5-2", BadDate)
    ∷ (codes "0:0:1...5", BadTime)
    ∷ (codes "0:0:1..5.", FractionalSecond)
    ∷ (codes "13-1-1 25:x", OutOfField)
    ∷ (codes "99:x", OutOfField)
    ∷ (codes "daily 5", StrayWord)
    ∷ (codes "Foo-Mon", UnknownShorthand)
    ∷ (codes "Mon-Foo", BadWeekday)
    ∷ (codes "*:1,1,1,1,1,1,1,1,1,1,1,1,1,1,1,1,1,1,1,1,1,1,1,1,1,1,1,1,1,1,1,1,1,1,1,1,1,1,1,1,1,1,1,1,1,1,1,1,1,1,1,1,1,1,1,1,1,1,1,1,1,1,1,1,1,1,1,1,1,1,1,1,1,1,1,1,1,1,1,1,1,1,1,1,1,1,1,1,1,1,1,1,1,1,1,1,1,1,1,1,1,1,1,1,1,1,1,1,1,1,1,1,1,1,1,1,1,1,1,1,1,1,1,1,1,1,1,1,1,1,1,1,1,1,1,1,1,1,1,1,1,1,1,1,1,1,1,1,1,1,1,1,1,1,1,1,1,1,1,1,1,1,1,1,1,1,1,1,1,1,1,1,1,1,1,1,1,1,1,1,1,1,1,1,1,1,1,1,1,1,1,1,1,1,1,1,1,1,1,1,1,1,1,1,1,1,1,1,1,1,1,1,1,1,1,1,1,1,1,1,1,1,1,1,1,1,1,1,1,1,1,1,1,1,1,1,1,1,1,1,1,1", TooManyParts)
    ∷ (codes "Mon -5", StrayWord)
    ∷ (codes "2024-1-1 +x", StrayWord)
    ∷ (codes "12:00 +26:00", StrayWord)
    ∷ (codes "12:00 +02:00 UTC", StrayWord)
    ∷ (codes "12:00 UTC +02:00", StrayWord)
    ∷ (codes "+02:00", BadTime)
    ∷ (codes "-5", BadDate)
    ∷ (codes " \t", Empty)
    ∷ (codes "monthy", UnknownShorthand)
    ∷ (codes "bi-weekly", UnknownShorthand)
    ∷ (codes "Mon..", BadWeekday)
    ∷ (codes "Foo,Mon", BadWeekday)
    ∷ (codes "1-2-3-4", BadDate)
    ∷ (codes "12:", BadTime)
    ∷ (codes "1:2:3:4", BadTime)
    ∷ (codes "12:00 +2:00", StrayWord)
    ∷ (codes "Mon +02:00 12:00", StrayWord)
    ∷ (codes "0:0:10000.5", NumberTooLarge)
    ∷ (codes "*:99..60", OutOfField)
    ∷ (codes "7 UTC now", BadDate)
    ∷ []

rows_at_fault : map (λ (row : Row). fields_in row.0) rows ≡ map (λ (row : Row). Err row.1) rows
unfolding fields_in fields_at words roles_of shorthand_named day_named days_of listed_days weekdays_of date_texts time_texts date_fields time_fields date_in_word time_in_word part_due parts_listed component_of with_step after_end after_start part_of fault_of is_zone_name suffix_of offset_in hour_minute_in two_digits name_of
rows_at_fault = refl

faults_of_rows : (rs : List Row) → map (λ (row : Row). fields_in row.0) rs ≡ map (λ (row : Row). Err row.1) rs → AllByRecursion (λ (row : Row). HasFault row.0 row.1) rs
faults_of_rows [] same = tt
faults_of_rows (r ∷ rs) same =
    let first : fields_in r.0 ≡ Err r.1 = cc in
    let more : map (λ (row : Row). fields_in row.0) rs ≡ map (λ (row : Row). Err row.1) rs = cc in
    (fault_found r.0 r.1 first, faults_of_rows rs more)

-- by the rule `HasFault`, each text has the error in its row
rows_have_faults : AllByRecursion (λ (row : Row). HasFault row.0 row.1) rows
rows_have_faults = faults_of_rows rows rows_at_fault
