-- Examples that test the definitions, on local seconds and on whole requests.
use Rattle.jiff.specs.Types.{UTC, Date}
use Rattle.std.specs.FinMap.{empty}
use Rattle.cal_zone.specs.rules.Zone.{utc, zone_of}
use Rattle.std.proofs.Common.{◌≡◌, ℕ, ◌<◌, [], ◌∷◌, ◌++◌, None, Some, Ok, codes, pos, ◌∙◌, ap, sym, inl, true, false, refl, rules, arith}
use Rattle.std.specs.Fmt.{digits}
use Rattle.jiff.specs.Words.{epoch_day, weekday_of}
use Rattle.jiff_core.proofs.CalendarLemmas.{days_from_civil-day_count}
use Rattle.jiff_core.proofs.MarchLemmas.{day_count-early}
use Rattle.jiff.proofs.SpanFacts.{signed_arith}
use Rattle.jiff_core.specs.Calendar.{weekday_number}
use Rattle.cal_civil.specs.rules.Days.{date_of}
use Rattle.cal_civil.proofs.DayLemmas.{date_of-epoch_day}
use Rattle.cal_civil.specs.rules.LocalSecond.{civil_date, seconds_in_all-is}
use Rattle.cal_stamp.specs.computed.Stamp.{in_moments, moment_in}
use Rattle.cal_stamp.specs.computed.StampForm.{day_shift, form_by_end, form_of}
use Rattle.cal_report.proofs.BaseLemmas.{base_found}
use Rattle.cal_report.specs.rules.Resume.{AreShown, IsBegunAgain}
use Rattle.cal_report.specs.rules.TextReport.TimestampReport.{stamp_in}
use Rattle.cal_span.specs.rules.UnitSpellings.{spellings_of}
use Rattle.cal_span.specs.rules.TimeUnit.{unit_name}
use Rattle.cal_span.specs.rules.SpanText.{units_text, counts_in_row}
use Rattle.cal_span.specs.computed.SpanValue.{words_in, pairs_in, span_of}
use Rattle.cal_span.specs.rules.PairValue.{is_number, unit_named, number_worth, worth_of}
use Rattle.cal_spec.specs.rules.NormalForm.{Spells}
use Rattle.cal_spec.specs.rules.Fields.{Fields}
use Rattle.cal_spec.specs.rules.Match.{matches, date_in, time_in}
use Rattle.cal_spec.specs.rules.Members.{sets_of, part_has}
use Rattle.cal_report.specs.rules.Answer.{reports_text, error_lines, texts_status}
use Rattle.cal_elapse.specs.rules.Elapses.{IsElapse, timed}
use Rattle.cal_report.specs.rules.RunReport.{answers_report, base_in, report}
use Rattle.cal_request.specs.rules.Request.{Request}
use Rattle.cal_report.specs.rules.TextReport.TimespanReport.{timespan_answer, timespan_report}
use Rattle.cal_request.specs.declared.request.Status.TheVariants.{Refused}
use Rattle.cal_request.specs.declared.verb.Verb.TheVariants.{Calendar, Timespan}
use Rattle.cal_zone.proofs.PlaceLemmas.{place_of-UTC}
use Rattle.std.proofs.lemmas.Int.{ints}
use lib.Utf8.{encode}
use Rattle.std.specs.Str.{chars, is_utf8}
use Rattle.cal_timer.specs.rules.Lines.{groups, is_continued, logical_lines, part_of_line, physical_lines, plain_lines}
use Rattle.cal_timer.specs.rules.Assignments.{Assignment, assignment_of, assignments_in, timer_lines}
use Rattle.cal_timer.specs.rules.Keys.{keys_of, kind_of}
use Rattle.cal_timer.specs.rules.TimerText.{excepted, is_exception, is_exception_reset, is_expression, is_reset, listed as listed_in, max_expressions, without_mark}
use Rattle.std.specs.Prelude.{ℤ, ◌<ℤ◌, ◌≤ℤ◌, List, length, map, slice_get, take}
use Rattle.cal_civil.specs.rules.Weekday as weekday
use Rattle.cal_civil.specs.rules.ZoneName.{is_zone_name}
use Rattle.cal_spec.specs.computed.Components.{part_due, parts_listed, component_of}
use Rattle.cal_spec.specs.computed.DateAndTime.{date_texts, time_texts, date_fields, time_fields, date_in_word, time_in_word}
use Rattle.cal_spec.specs.computed.Grammar.{fields_in, fields_at}
use Rattle.cal_spec.specs.computed.Parts.{with_step, after_end, after_start, part_of, fault_of}
use Rattle.cal_spec.specs.rules.Shorthand.{shorthand_named}
use Rattle.cal_spec.specs.rules.WeekdayNames.{day_named, days_of}
use Rattle.cal_spec.specs.computed.WeekdayLists.{listed_days, weekdays_of}
use Rattle.cal_spec.specs.computed.Words.{roles_of}
use Rattle.cal_bytes.specs.rules.Trim.{trim_matches, trim_end_matches, trim_start_matches}
use Rattle.cal_bytes.specs.rules.Separators.{words}
use Rattle.cal_spec.proofs.WholeRule.{valid_found}
use Rattle.cal_elapse.proofs.ElapsesLemmas.{AreElapses-only, elapses_except-none, first_elapse-least}
use Rattle.cal_report.specs.rules.Headline.{AreElapsesOf, AreSpelled, Expression, IsAccepted, IsFileOf, alone, assigned_in, meaning}
use Rattle.cal_elapse.proofs.SearchLemmas.{inside}
use Rattle.cal_timer.proofs.TimerRuleLemmas.{no_split}

-- `*-*-* 12:30:00`
noon_thirty : Fields
noon_thirty = record {
  weekdays = true ∷ true ∷ true ∷ true ∷ true ∷ true ∷ true ∷ [];
  year = None;
  month = None;
  day = None;
  hour = Some (record { start = 12; end = None; step = None } ∷ []);
  minute = Some (record { start = 30; end = None; step = None } ∷ []);
  second = Some (record { start = 0; end = None; step = None } ∷ []);
  from_end = false;
  zone = None;
}

-- Mon 2024-01-01
new_year : Date
new_year = record { year = pos 2024; month = 1; day = 1; year_in = search rules; month_in = search rules; day_in = search rules }

new_year-number : epoch_day new_year ≡ pos 19_723
unfolding new_year
new_year-number =
    omega (arith, signed_arith, days_from_civil-day_count (pos 2024) 1 1, day_count-early (pos 2024) 12023 1 1 refl (omega arith) (omega arith) (omega arith))

new_year-weekday : weekday_of new_year ≡ 0
unfolding weekday_number
new_year-weekday = rw new_year-number refl

new_year-is : civil_date 19_723 ≡ new_year
unfolding civil_date
new_year-is = ap date_of (sym new_year-number) ∙ date_of-epoch_day new_year

noon_thirty-on : date_in (sets_of noon_thirty) new_year ≡ true
unfolding noon_thirty date_in sets_of
noon_thirty-on = rw new_year-weekday (unfold new_year in refl)

noon_thirty-at : time_in (sets_of noon_thirty) 45_000 ≡ true
unfolding noon_thirty time_in sets_of part_has
noon_thirty-at = refl

-- the local second 1,704,112,200, which is Mon 2024-01-01 12:30:00, matches `*-*-* 12:30:00`
noon_thirty-matches : matches (sets_of noon_thirty) 1_704_112_200 ≡ true
unfolding matches
noon_thirty-matches = rw (inside 1_704_112_200 (omega arith), new_year-is, noon_thirty-on, noon_thirty-at) refl

-- Tue 2024-01-02
day_after : Date
day_after = record { year = pos 2024; month = 1; day = 2; year_in = search rules; month_in = search rules; day_in = search rules }

day_after-number : epoch_day day_after ≡ pos 19_724
unfolding day_after
day_after-number =
    omega (arith, signed_arith, days_from_civil-day_count (pos 2024) 1 2, day_count-early (pos 2024) 12023 1 2 refl (omega arith) (omega arith) (omega arith))

day_after-weekday : weekday_of day_after ≡ 1
unfolding weekday_number
day_after-weekday = rw day_after-number refl

day_after-is : civil_date 19_724 ≡ day_after
unfolding civil_date
day_after-is = ap date_of (sym day_after-number) ∙ date_of-epoch_day day_after

noon_thirty-on_again : date_in (sets_of noon_thirty) day_after ≡ true
unfolding noon_thirty date_in sets_of
noon_thirty-on_again = rw day_after-weekday (unfold day_after in refl)

-- the local second 1,704,198,600, which is Tue 2024-01-02 12:30:00, matches `*-*-* 12:30:00`
noon_thirty-matches_again : matches (sets_of noon_thirty) 1_704_198_600 ≡ true
unfolding matches
noon_thirty-matches_again = rw (inside 1_704_198_600 (omega arith), day_after-is, noon_thirty-on_again, noon_thirty-at) refl

-- if a local second matches `*-*-* 12:30:00`, the instant with the same number is an elapse in UTC
elapse_at : (local : ℕ) → local < 7_258_118_400 → matches (sets_of noon_thirty) local ≡ true → IsElapse (timed noon_thirty UTC ∷ []) (pos local)
unfolding timed
elapse_at local h is =
    inl (record { local = local; within = omega (arith, seconds_in_all-is); is_match = is; placed = place_of-UTC (pos local) })

noon_thirty-elapses : IsElapse (timed noon_thirty UTC ∷ []) (pos 1_704_112_200)
noon_thirty-elapses = elapse_at 1_704_112_200 (omega arith) noon_thirty-matches

noon_thirty-elapses_again : IsElapse (timed noon_thirty UTC ∷ []) (pos 1_704_198_600)
noon_thirty-elapses_again = elapse_at 1_704_198_600 (omega arith) noon_thirty-matches_again

-- ## A report with an error line

two_spans : Request
two_spans = record { verb = Timespan; texts = codes "1h" ∷ codes "5x" ∷ []; iterations = 1; base = None; now = pos 0; local = utc; zones = empty }

two_spans-out : (report two_spans (Ok [])).out ≡ codes "Original: 1h\n" ++ (codes "      " ++ (206 ∷ 188 ∷ codes "s: 3600000000\n   Human: 1h\n"))
unfolding two_spans report answers_report base_in reports_text timespan_answer timespan_report units_text counts_in_row span_of pairs_in words_in worth_of is_number unit_named number_worth spellings_of unit_name digits
two_spans-out = refl

two_spans-err : (report two_spans (Ok [])).err ≡ codes "5x: unknown unit\n"
unfolding two_spans report answers_report base_in error_lines timespan_answer timespan_report units_text counts_in_row span_of pairs_in words_in worth_of is_number unit_named number_worth spellings_of unit_name digits
two_spans-err = refl

two_spans-status : (report two_spans (Ok [])).status ≡ Refused
unfolding two_spans report answers_report base_in texts_status timespan_answer timespan_report units_text counts_in_row span_of pairs_in words_in worth_of is_number unit_named number_worth spellings_of unit_name digits
two_spans-status = refl

-- ## An accepted request, to which the law `headline` applies

-- `*:*:*`
every_second : Fields
every_second = record {
  weekdays = true ∷ true ∷ true ∷ true ∷ true ∷ true ∷ true ∷ [];
  year = None;
  month = None;
  day = None;
  hour = None;
  minute = None;
  second = None;
  from_end = false;
  zone = None;
}

every_second-read : fields_in (codes "*:*:*") ≡ Ok every_second
unfolding every_second fields_in fields_at words roles_of shorthand_named day_named days_of listed_days weekdays_of date_texts time_texts date_fields time_fields date_in_word time_in_word part_due parts_listed component_of with_step after_end after_start part_of fault_of is_zone_name weekday.name_of
every_second-read = refl

every_second-spelled : Spells (codes "*:*:*") every_second
unfolding every_second
every_second-spelled = record {
  raw = every_second;
  valid = valid_found (codes "*:*:*") every_second every_second-read;
  normal = record { weekdays = refl; year = refl; month = refl; day = refl; hour = refl; minute = refl; second = refl; from_end = refl; suffix = refl };
}

-- a request for two elapses of `*:*:*`, made at 12:30:00 UTC on Mon 2024-01-01
two_seconds : Request
two_seconds = record { verb = Calendar; texts = codes "*:*:*" ∷ []; iterations = 2; base = None; now = pos 1_704_112_200; local = utc; zones = empty }

every : Expression
every = record { text = codes "*:*:*"; fields = every_second; tz = UTC }

every-accepted : IsAccepted two_seconds every
unfolding every every_second two_seconds zone_of
every-accepted = record { spelled = every_second-spelled; zone = refl }

every_second-on : date_in (sets_of every_second) new_year ≡ true
unfolding every_second date_in sets_of
every_second-on = rw new_year-weekday (unfold new_year in refl)

every_second-at : time_in (sets_of every_second) 45_001 ≡ true
unfolding every_second time_in sets_of
every_second-at = refl

every_second-matches : matches (sets_of every_second) 1_704_112_201 ≡ true
unfolding matches
every_second-matches = rw (inside 1_704_112_201 (omega arith), new_year-is, every_second-on, every_second-at) refl

every-elapses : IsElapse (map meaning (every ∷ [])) (pos 1_704_112_201)
unfolding every timed
every-elapses =
    inl (record { local = 1_704_112_201; within = omega (arith, seconds_in_all-is); is_match = every_second-matches; placed = place_of-UTC (pos 1_704_112_201) })

next_is_least : (j : ℤ) → pos 1_704_112_200 <ℤ j → pos 1_704_112_201 ≤ℤ j
next_is_least j h = omega (arith, ints)

-- in every list that holds exactly the elapses of `*:*:*` after the present, the first elapse is one second after the
-- present
every-first : (xs : List ℤ) → AreElapsesOf (alone every) (pos 1_704_112_200) xs → slice_get xs 0 ≡ Some (pos 1_704_112_201)
every-first xs h =
    rw (AreElapses-only (map meaning (every ∷ [])) [] (pos 1_704_112_200) xs h, elapses_except-none (map meaning (every ∷ [])) (pos 1_704_112_200))
    (first_elapse-least (map meaning (every ∷ [])) (pos 1_704_112_200) (pos 1_704_112_201) (omega (arith, ints)) every-elapses (λ j above _. next_is_least j above))

-- a timer file whose only expression is `*:*:*`
every_file : List ℕ
every_file = codes "[Timer]\nOnCalendar=*:*:*\n"

one_line : Assignment
one_line = record { number = 2; key = codes "OnCalendar"; value = codes "*:*:*" }

every_file-assigned : assigned_in every_file ≡ one_line ∷ []
unfolding every_file one_line assignments_in timer_lines assignment_of logical_lines groups plain_lines physical_lines part_of_line is_continued trim_matches trim_end_matches trim_start_matches without_mark is_utf8 chars encode
every_file-assigned = refl

every_file-utf8 : is_utf8 every_file ≡ true
unfolding every_file is_utf8 chars encode
every_file-utf8 = refl

only_split : (x : Assignment) (before : List Assignment) (a : Assignment) (after : List Assignment) → x ∷ [] ≡ before ++ (a ∷ after) → (before ≡ []) × (a ≡ x)
only_split x [] a after split = (refl, cc)
only_split x (b ∷ before) a after split =
    let rest : [] ≡ before ++ (a ∷ after) = cc in
    absurd (no_split before a after rest)

none_listed : length (listed_in []) < max_expressions
unfolding listed_in
none_listed = omega arith

no_exception : is_exception one_line ≡ false
unfolding one_line is_exception kind_of keys_of
no_exception = refl

every_file-spelled : AreSpelled (one_line ∷ [])
unfolding one_line
every_file-spelled before a after split =
    let parts = only_split one_line before a after split in
    rw (parts.0, parts.1) (λ _. (none_listed, (every_second, every_second-spelled)), λ is. absurd (let never : false ≡ true = sym no_exception ∙ is in cc))

every_file-listed : map (λ (a : Assignment). a.value) (listed_in (one_line ∷ [])) ≡ map (λ (e : Expression). e.text) (every ∷ [])
unfolding one_line every listed_in is_reset is_expression kind_of keys_of
every_file-listed = refl

every_file-excepted : map (λ (a : Assignment). a.value) (excepted (one_line ∷ [])) ≡ []
unfolding one_line excepted is_exception_reset is_exception kind_of keys_of
every_file-excepted = refl

every_file-is : IsFileOf every_file (alone every)
every_file-is = record {
  utf8 = every_file-utf8;
  spelled = rw every_file-assigned every_file-spelled;
  expressions = rw every_file-assigned every_file-listed;
  exceptions = rw every_file-assigned every_file-excepted;
  some = omega arith;
}

-- ## A request that continues a report

-- the request `two_seconds`, continued after its first elapse: this elapse is the base time, and one elapse fewer is
-- requested
one_second : Request
one_second = record { verb = Calendar; texts = codes "*:*:*" ∷ []; iterations = 1; base = Some (codes "@1704112201"); now = pos 1_704_112_200; local = utc; zones = empty }

one_second-sought : base_in one_second ≡ Ok (pos 1_704_112_201)
unfolding one_second base_in stamp_in moment_in form_of trim_matches trim_end_matches trim_start_matches form_by_end day_shift words in_moments span_of pairs_in words_in worth_of is_number number_worth unit_named spellings_of
one_second-sought = refl

first_is : (xs : List ℤ) (x : ℤ) → slice_get xs 0 ≡ Some x → slice_get (take 2 xs) 0 ≡ Some x
first_is [] x h = h
first_is (y ∷ xs) x h = h

one_second-begun : (shown : List ℤ) → AreShown two_seconds (pos 1_704_112_200) (alone every) shown
    → IsBegunAgain two_seconds (pos 1_704_112_200) shown 1 one_second
unfolding two_seconds one_second
one_second-begun shown h = record {
  verb = refl;
  texts = refl;
  now = refl;
  local = refl;
  zones = refl;
  count = refl;
  from = pos 1_704_112_201;
  sought = base_found one_second (pos 1_704_112_201) one_second-sought;
  after = rw h.first (first_is h.elapses (pos 1_704_112_201) (every-first h.elapses h.these));
}
