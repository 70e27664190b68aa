-- Between two consecutive transitions, the UTC offset is constant.
--
-- In these lemmas, `moment` is a nanosecond at which daylight saving time starts or ends under a POSIX rule, and `w` is
-- the pair of the start and the end of daylight saving time in one year, both in UTC.
use Rattle.std.proofs.Common.{◌≡◌, ◌∙◌, ◌⊎◌, inl, inr, ◌<◌, ◌≤◌, ℤ, pos, neg_ℤ, ◌+ℤ◌, ◌≤ℤ◌, ◌<ℤ◌, Bool, true, false, if◌then◌else◌, int_le, int_lt, IfSome, Option, None, Some, refl, sym, ap, subst, arith, vec_len}
use Rattle.std.specs.Int.{int_max}
use Rattle.std.proofs.lemmas.Bool.{cases_lt, and_from}
use Rattle.std.proofs.lemmas.Int.{by_lt_z}
use Rattle.jiff.specs.Types.{Fixed, Offset, Posix as ByRule, TimeZone, Tzif as ByTable, UTC, Unknown}
use Rattle.jiff.specs.Words.{nanos_of_seconds, next_at, offset_at, IsEpochDay}
use Rattle.jiff.proofs.SpanFacts.{signed_arith}
use Rattle.jiff_core.proofs.CalendarLemmas.{days_in_year_bounds}
use Rattle.jiff_tz.specs.Year.{year_of_nanos}
use Rattle.jiff_tz.specs.declared.info.OffsetInfo.{OffsetInfo}
use Rattle.jiff_tz.specs.declared.posix.DayTime.{DayTime}
use Rattle.jiff_tz.specs.declared.posix.Dst.{Dst}
use Rattle.jiff_tz.specs.declared.posix.TimeZone.{TimeZone as Posix}
use Rattle.jiff_tz.specs.declared.tzif.Tzif.{Tzif as Table}
use Rattle.jiff_tz.specs.PosixRule.{first_day, first_nanosecond, in_window, int_same, last_nanosecond, match_some, nanos_per_day, next_by, next_year, ordered, rule_day, rule_nanos, saturating_add, transition_of, utc_window}
use Rattle.jiff_tz.specs.PosixRule as ByPosix
use Rattle.jiff_tz.specs.Tzif as OfTable
use Rattle.jiff_tz.specs.Tzif.{count_at, rule_after, transition_at, type_after}
use Rattle.jiff_tz.proofs.TzifLemmas.{le_no, le_yes}
use Rattle.cal_civil.specs.rules.Days.{date_of}
use Rattle.cal_civil.specs.rules.LocalSecond.{day_of}
use Rattle.cal_zone.specs.computed.InstantOffsetRange.{IsInstantOffsetRangeAt, IsBeforeTransition}
use Rattle.cal_zone.specs.rules.Place.{datetime_of}
use Rattle.cal_zone.specs.computed.LocalOffsetRange.{HasConstantOffset, year_end}
use Rattle.cal_zone.specs.declared.instant_offset_range.InstantOffsetRange.{InstantOffsetRange}
use Rattle.cal_civil.proofs.DayLemmas.{epoch_day-date_of}
use Rattle.cal_zone.proofs.LocalOffsetRangeLemmas.{floor_second-whole, offset_between, offset_after_table, offset_standard, rule_after_table}
use Rattle.cal_bytes.proofs.General.{lt_test, not_lt_test}
use Rattle.cal_zone.proofs.RuleLemmas.{IsApart, IsBeside, clamped, in_its_year, moment_on, next_after_table, offset_in, ordered_apart, ordered_rises, utc_year, window_apart, window_beside, window_of}

-- if `moment` is at or before `low`, or at or after `high`, then any two numbers `at` and `other` in `low..high` are on
-- the same side of `moment`
beside_within : (low high moment at other : ℤ) → IsApart low high (pos 0) moment → low ≤ℤ at → at <ℤ high → low ≤ℤ other → other <ℤ high → IsBeside moment at other
beside_within low high moment at other (inl h) a b c d = grind (arith, signed_arith, le_yes, not_lt_test)
beside_within low high moment at other (inr h) a b c d = grind (arith, signed_arith, le_no, lt_test)

-- `moment` is at or after `low` and at or before `high`, which are the first and the last nanosecond of a year. By
-- `moment_in` and `rule_in`, this is true of the times at which a rule starts and ends daylight saving time in that
-- year.
abbrev pub IsIn : ℤ → ℤ → ℤ → Type 0
IsIn low high moment = (low ≤ℤ moment) × (moment ≤ℤ high)

moment_in : (day : Option ℤ) (low high time seconds : ℤ) → low ≤ℤ high → IsIn low high (moment_on day low high time seconds)
moment_in None low high time seconds order = (order, omega (arith, signed_arith))
moment_in (Some d) low high time seconds order = grind (arith, signed_arith, clamped)

rule_in : (y : ℤ) (d : DayTime) (seconds : ℤ) → first_nanosecond y ≤ℤ last_nanosecond y → IsIn (first_nanosecond y) (last_nanosecond y) (rule_nanos y d seconds)
unfolding rule_nanos
rule_in y d seconds order = moment_in (rule_day y d.date) (first_nanosecond y) (last_nanosecond y) d.time seconds order

window_of_in : (low high start end : ℤ) (whole : Bool) → low ≤ℤ high → IsIn low high start → IsIn low high end
    → IsIn low high (window_of whole start high end).0 × IsIn low high (window_of whole start high end).1
window_of_in low high start end true order p q = (p, (order, omega (arith, signed_arith)))
window_of_in low high start end false order p q = (p, q)

pub window_in : (d : Dst) (y : ℤ) (std : Offset) → first_nanosecond y ≤ℤ last_nanosecond y
    → IsIn (first_nanosecond y) (last_nanosecond y) (utc_window d y std).0 × IsIn (first_nanosecond y) (last_nanosecond y) (utc_window d y std).1
unfolding utc_window
window_in d y std order =
    window_of_in (first_nanosecond y) (last_nanosecond y) (rule_nanos y d.rule.start std.seconds) (rule_nanos y d.rule.end d.offset.seconds) _ order
    (rule_in y d.rule.start std.seconds order) (rule_in y d.rule.end d.offset.seconds order)

pub ordered_in : (low high : ℤ) (w : ℤ × ℤ) (b : Bool) → IsIn low high w.0 → IsIn low high w.1
    → IsIn low high (if b then w else (w.1, w.0)).0 × IsIn low high (if b then w else (w.1, w.0)).1
ordered_in low high w true p q = (p, q)
ordered_in low high w false p q = (q, p)

no_none : (b : Bool) (moment : ℤ × OffsetInfo) → b ≡ true → (if b then Some moment else None) ≡ None → ⊥
no_none true moment e f = cc
no_none false moment e f = cc

-- if `low` and `high` are in `jiff`'s range of timestamps, `transition_of` returns a transition for every `moment` from
-- `low` to `high`
transition_some : (rule : Posix) (d : Dst) (w : ℤ × ℤ) (low high moment : ℤ) → neg_ℤ (pos 377_705_023_201_000_000_000) ≤ℤ low → high ≤ℤ pos 253_402_207_200_999_999_999
    → IsIn low high moment → transition_of rule d w moment ≡ None → ⊥
transition_some rule d w low high moment from to p e = grind (arith, signed_arith, no_none, int_le, and_from, le_yes)

-- `o` is the start and the end of daylight saving time in the year `y`, in ascending order. If the rule has no
-- transition after `low`, neither of these two times is inside the range from `low` to `high`.
passed_ends : (rule : Posix) (d : Dst) (y first last low high : ℤ) (o : ℤ × ℤ) → o.0 ≤ℤ o.1 → (a b : Bool) → int_lt low o.0 ≡ a → int_lt low o.1 ≡ b
    → neg_ℤ (pos 377_705_023_201_000_000_000) ≤ℤ first → last ≤ℤ pos 253_402_207_200_999_999_999 → IsIn first last o.0 → IsIn first last o.1
    → (if a then transition_of rule d (utc_window d y rule.std_offset) o.0 else (if b then transition_of rule d (utc_window d y rule.std_offset) o.1 else next_year rule d y)) ≡ None
    → IsApart low high (pos 0) o.0 × IsApart low high (pos 0) o.1
passed_ends rule d y first last low high o rises true b e f from to p q g = absurd (transition_some rule d (utc_window d y rule.std_offset) first last o.0 from to p g)
passed_ends rule d y first last low high o rises false true e f from to p q g = absurd (transition_some rule d (utc_window d y rule.std_offset) first last o.1 from to q g)
passed_ends rule d y first last low high o rises false false e f from to p q g = grind (arith, signed_arith)

-- `lowest` and `highest` are the first and the last nanosecond in `jiff`'s range of timestamps
abbrev lowest : ℤ
lowest = neg_ℤ (pos 377_705_023_201_000_000_000)

abbrev highest : ℤ
highest = pos 253_402_207_200_999_999_999

-- Suppose that the year `y` is in `jiff`'s range of timestamps. If the rule has no transition after `low` and before
-- `high`, daylight saving time neither starts nor ends in this range in the year `y`.
window_constant : (rule : Posix) (d : Dst) (y low high : ℤ) (next : Option (ℤ × OffsetInfo)) → next_by rule d y low ≡ next → IfSome next (λ change. high ≤ℤ change.0)
    → first_nanosecond y ≤ℤ last_nanosecond y → lowest ≤ℤ first_nanosecond y → last_nanosecond y ≤ℤ highest
    → IsApart low high (pos 0) (utc_window d y rule.std_offset).0 × IsApart low high (pos 0) (utc_window d y rule.std_offset).1
window_constant rule d y low high (Some change) e h order from to = window_apart rule d y low high change e h
window_constant rule d y low high None e h order from to =
    let w : ℤ × ℤ = utc_window d y rule.std_offset in
    let within = window_in d y rule.std_offset order in
    let ends_in = ordered_in (first_nanosecond y) (last_nanosecond y) w (int_le w.0 w.1) within.0 within.1 in
    let ends = passed_ends rule d y (first_nanosecond y) (last_nanosecond y) low high (ordered w) (ordered_rises w) _ _ refl refl from to ends_in.0 ends_in.1 e in
    ordered_apart low high w ends.0 ends.1

not_after : (next : Option (ℤ × OffsetInfo)) (at : ℤ) → IfSome next (λ change. at <ℤ change.0) → IfSome next (λ change. (at +ℤ pos 1) ≤ℤ change.0)
not_after (Some change) at h = omega (arith, signed_arith)
not_after None at h = h

pub year_order : (y : ℤ) → first_nanosecond y ≤ℤ last_nanosecond y
year_order y = let long = days_in_year_bounds y in omega (arith, signed_arith)

-- the year of a second of Unix time from 0 to 7,258,500,000 is within `jiff`'s range of timestamps, and ends at the
-- second 7,300,000,000 or earlier
instant_year : (from : ℤ) → pos 0 ≤ℤ from → from ≤ℤ pos 7_258_500_000
    → (lowest ≤ℤ first_nanosecond (datetime_of from).date.year) × (last_nanosecond (datetime_of from).date.year ≤ℤ highest) × (year_end (datetime_of from).date.year ≤ℤ pos 7_300_000_000)
unfolding datetime_of
instant_year from begun bound =
    let from_in : IsEpochDay (day_of from) = (omega (arith, signed_arith), omega (arith, signed_arith)) in
    let start = in_its_year (date_of (day_of from)) in
    let day = epoch_day-date_of (day_of from) from_in in
    let long = days_in_year_bounds (date_of (day_of from)).year in
    (omega (arith, signed_arith), omega (arith, signed_arith), omega (arith, signed_arith))

-- Suppose that `from` isn't negative and is at most 7,258,500,000, and that `second` is at or after `from`, in the same
-- year in UTC, and before the next transition after `from`. Then a rule with daylight saving time has the same UTC
-- offset at `second` as at `from`.
constant_in_summer : (rule : Posix) (d : Dst) (from second : ℤ) → rule.dst ≡ Some d → pos 0 ≤ℤ from → from ≤ℤ pos 7_258_500_000 → from ≤ℤ second
    → IsBeforeTransition (next_by rule d (year_of_nanos (nanos_of_seconds from)) (nanos_of_seconds from)) from second
    → ByPosix.offset_at rule (nanos_of_seconds second) ≡ ByPosix.offset_at rule (nanos_of_seconds from)
constant_in_summer rule d from second has begun bound later same =
    let y : ℤ = (datetime_of from).date.year in
    let low : ℤ = nanos_of_seconds from in
    let at : ℤ = nanos_of_seconds second in
    let high : ℤ = at +ℤ pos 1 in
    let from_in : IsEpochDay (day_of from) = (omega (arith, signed_arith), omega (arith, signed_arith)) in
    let range = instant_year from begun bound in
    let before_end = same.before_end in
    let second_in : IsEpochDay (day_of second) = (omega (arith, signed_arith), omega (arith, signed_arith, range.2)) in
    let year = utc_year from from from_in from_in (omega (arith, signed_arith)) (omega (arith, signed_arith)) in
    let ends = window_constant rule d y low high _ (ap (λ year. next_by rule d year low) (sym year)) (not_after _ at same.before_change)
    (year_order y) range.0 range.1 in
    let start = beside_within low high _ at low ends.0 (omega (arith, signed_arith)) (omega (arith, signed_arith)) (omega (arith, signed_arith)) (omega (arith, signed_arith)) in
    let end = beside_within low high _ at low ends.1 (omega (arith, signed_arith)) (omega (arith, signed_arith)) (omega (arith, signed_arith)) (omega (arith, signed_arith)) in
    offset_in rule d y at has (utc_year from second from_in second_in later before_end)
    ∙ ap (λ (within : Bool). match_some (if within then Some d else None) rule.std_offset (λ dst. dst.offset)) (window_beside (utc_window d y rule.std_offset) at low start end)
    ∙ sym (offset_in rule d y low has year)

no_dst : (o : Option Dst) → (o ≡ None) ⊎ ((d : Dst) × (o ≡ Some d))
no_dst None = inl refl
no_dst (Some d) = inr (d, refl)

constant_by_rule : (rule : Posix) (from second : ℤ) → pos 0 ≤ℤ from → from ≤ℤ pos 7_258_500_000 → from ≤ℤ second
    → IsBeforeTransition (ByPosix.next_at rule (nanos_of_seconds from)) from second
    → ByPosix.offset_at rule (nanos_of_seconds second) ≡ ByPosix.offset_at rule (nanos_of_seconds from)
constant_by_rule rule from second begun bound later same = elim (no_dst rule.dst) [
  | inl none ↦ offset_standard rule (nanos_of_seconds second) none ∙ sym (offset_standard rule (nanos_of_seconds from) none)
  | inr some ↦ constant_in_summer rule some.0 from second some.1 begun bound later
      (subst (λ next. IsBeforeTransition next from second) (ap (λ dst. match_some dst None (λ d. next_by rule d (year_of_nanos (nanos_of_seconds from)) (nanos_of_seconds from))) some.1) same)
]

-- After the last transition of a table, its POSIX rule decides, if it has one. Suppose that `from` isn't negative and
-- is at most 7,258,500,000, and that `second` is at or after `from`, in the same year in UTC, and before the next
-- transition after `from`. Then, with or without a rule, the UTC offset at `second` is the same as at `from`.
constant_by : (rule : Option Posix) (type : Offset) (from second : ℤ) → pos 0 ≤ℤ from → from ≤ℤ pos 7_258_500_000 → from ≤ℤ second
    → IsBeforeTransition (match_some rule None (λ tz. ByPosix.next_at tz (nanos_of_seconds from))) from second
    → match_some rule type (λ tz. ByPosix.offset_at tz (nanos_of_seconds second)) ≡ match_some rule type (λ tz. ByPosix.offset_at tz (nanos_of_seconds from))
constant_by None type from second begun bound later same = refl
constant_by (Some rule) type from second begun bound later same = constant_by_rule rule from second begun bound later same

constant_after_table : (z : Table) (from second : ℤ) → vec_len z.transitions ≤ count_at z from → pos 0 ≤ℤ from → from ≤ℤ pos 7_258_500_000 → from ≤ℤ second
    → IsBeforeTransition (OfTable.next_at z (nanos_of_seconds from)) from second
    → OfTable.offset_at z (nanos_of_seconds second) ≡ OfTable.offset_at z (nanos_of_seconds from)
constant_after_table z from second all begun bound later same =
    grind (arith, signed_arith, vec_len, rule_after_table, next_after_table, offset_after_table, constant_by)

next_in_table : (z : Table) (from : ℤ) → count_at z from < vec_len z.transitions
    → OfTable.next_at z (nanos_of_seconds from) ≡ Some (OfTable.transition_view (transition_at z (count_at z from)))
next_in_table z from some = grind (arith, signed_arith, vec_len, floor_second-whole)

-- if a table has transitions after `from`, the UTC offset at `from` lasts until the first of them or until the year of
-- `from` ends in UTC, whichever is earlier
constant_between : (z : Table) (from second : ℤ) → count_at z from < vec_len z.transitions → from ≤ℤ second → IsBeforeTransition (OfTable.next_at z (nanos_of_seconds from)) from second
    → OfTable.offset_at z (nanos_of_seconds second) ≡ OfTable.offset_at z (nanos_of_seconds from)
constant_between z from second some later same =
    let before : IsBeforeTransition (Some (OfTable.transition_view (transition_at z (count_at z from)))) from second
    = subst (λ next. IsBeforeTransition next from second) (next_in_table z from some) same in
    let before_row = before.before_change in
    offset_between z from second some later (omega (arith, signed_arith))
    ∙ sym (offset_between z from from some (omega (arith, signed_arith)) (omega (arith, signed_arith)))

-- Suppose that `from` isn't negative and is at most 7,258,500,000. In a zone of any kind, the UTC offset at `from`
-- lasts until the next transition or until the year of `from` ends in UTC, whichever is earlier.
pub constant_until_transition : (tz : TimeZone) (from second : ℤ) → pos 0 ≤ℤ from → from ≤ℤ pos 7_258_500_000 → from ≤ℤ second
    → IsBeforeTransition (next_at tz (nanos_of_seconds from)) from second → offset_at tz (nanos_of_seconds second) ≡ offset_at tz (nanos_of_seconds from)
unfolding offset_at next_at
constant_until_transition UTC from second begun bound later same = refl
constant_until_transition Unknown from second begun bound later same = refl
constant_until_transition (Fixed o) from second begun bound later same = refl
constant_until_transition (ByRule rule) from second begun bound later same = ap (λ o. o.seconds) (constant_by_rule rule from second begun bound later same)
constant_until_transition (ByTable table) from second begun bound later same = grind (arith, signed_arith, cases_lt, vec_len, constant_between, constant_after_table)

pub max_before : (a b x : ℤ) → x <ℤ int_max a b → a ≤ℤ x → x <ℤ b
max_before a b x = grind (arith, signed_arith)

-- if `range` has a constant UTC offset, contains `from`, and doesn't end before `to`, the UTC offset is constant in
-- `from..to`
pub constant_within : (tz : TimeZone) (from to : ℤ) (range : InstantOffsetRange) → IsInstantOffsetRangeAt tz from range → to ≤ℤ range.to → HasConstantOffset tz from to
constant_within tz from to range at within = grind (arith, signed_arith)

-- Suppose that two ranges have the same constant UTC offset: `range`, which contains `from`, and `next`, which contains
-- `turn`, the end of `range`. If `next` doesn't end before `to`, the UTC offset is constant in `from..to`.
pub constant_over : (tz : TimeZone) (from turn to : ℤ) (range next : InstantOffsetRange) → IsInstantOffsetRangeAt tz from range → turn ≡ range.to → IsInstantOffsetRangeAt tz turn next → to ≤ℤ next.to
    → next.offset.seconds ≡ range.offset.seconds → HasConstantOffset tz from to
constant_over tz from turn to range next at ends after within same = λ second later before.
    by_lt_z second turn
    (λ sooner. constant_within tz from turn range at (omega (arith, signed_arith)) second later sooner)
    (λ passed.
    let begun = after.begun in
    after.constant_offset second (omega (arith, signed_arith)) (omega (arith, signed_arith)) ∙ same ∙ sym (at.constant_offset from at.begun at.within))
