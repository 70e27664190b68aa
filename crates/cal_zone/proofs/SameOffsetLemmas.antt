-- Between two consecutive transitions of a POSIX rule, and far enough from both, all local times have the same UTC
-- offset, even across a new year.
--
-- In these lemmas, `w` is a pair: the nanoseconds at which daylight saving time starts and ends in one year under a
-- POSIX rule, both in UTC.
use Rattle.std.proofs.Common.{◌≡◌, ◌∙◌, inl, inr, ◌≤◌, ℤ, pos, ◌+ℤ◌, ◌-ℤ◌, ◌≤ℤ◌, ◌<ℤ◌, Bool, true, false, ◌&&◌, if◌then◌else◌, int_le, int_lt, Option, None, Some, refl, sym, ap, subst, arith, vec_len}
use Rattle.std.proofs.lemmas.Bool.{and_parts}
use borrow.Author.Differences.{le-false}
use Rattle.jiff.proofs.SpanFacts.{signed_arith}
use Rattle.jiff.specs.Types.{Offset, Posix as ByRule}
use Rattle.jiff.specs.Words.{ambiguous_at, nanos_of_seconds, offset_at, IsEpochDay}
use Rattle.jiff_core.specs.Calendar.{IsYear}
use Rattle.jiff_core.proofs.CalendarLemmas.{day_count-next_year, days_from_civil-day_count}
use Rattle.jiff_tz.specs.declared.info.OffsetInfo.{OffsetInfo}
use Rattle.jiff_tz.specs.declared.posix.Dst.{Dst}
use Rattle.jiff_tz.specs.declared.posix.TimeZone.{TimeZone as Posix}
use Rattle.jiff_tz.specs.declared.tzif.Tzif.{Tzif as Table}
use Rattle.jiff_tz.specs.PosixRule.{civil_max, civil_min, first_day, first_nanosecond, first_of_year, int_same, last_nanosecond, match_some, next_by, next_year, ordered, rule_nanos, transition_of, utc_window}
use Rattle.jiff_tz.specs.PosixRule as ByPosix
use Rattle.jiff_tz.specs.Tzif as OfTable
use Rattle.jiff_tz.specs.Tzif.{count_at, rule_after, type_after}
use Rattle.cal_civil.specs.rules.Days.{date_of}
use Rattle.cal_civil.specs.rules.LocalSecond.{IsLocalSecond, day_of}
use Rattle.cal_zone.specs.rules.Place.{datetime_of}
use Rattle.cal_zone.specs.rules.Rules.{zone_of_table}
use Rattle.cal_zone.specs.computed.LocalOffsetRange.{HaveSameOffsets, HasConstantOffset, IsClearOfTransition, year_end}
use Rattle.cal_civil.proofs.DayLemmas.{epoch_day-date_of}
use Rattle.cal_zone.proofs.InstantOffsetRangeLemmas.{ordered_in, window_in, year_order}
use Rattle.cal_zone.proofs.PlaceLemmas.{civil_nanos-datetime_of}
use Rattle.cal_zone.proofs.LocalOffsetRangeLemmas.{HaveSameOffsetsBy, same_offsets_after_table, count_after_table, offset_after_table, rule_after_table}
use Rattle.cal_zone.proofs.RuleLemmas.{IsApart, IsPart, ambiguous_beside, ambiguous_in, far, in_its_year, moments_apart, next_after_table, next_found, of_the_year, transition_at_moment, utc_year, walls_beside, window_apart, window_of, year_begun, year_goes_on}

-- if two local seconds are in the same year, and daylight saving time neither starts nor ends between them or near
-- them, then `jiff` reports the same for their civil times: unambiguous, in a gap or in a fold, with the same offsets
civil_apart : (rule : Posix) (d : Dst) (y low high local other : ℤ) → rule.dst ≡ Some d → IsLocalSecond local → IsEpochDay (day_of other)
    → (datetime_of local).date.year ≡ y → (datetime_of other).date.year ≡ y → civil_min ≤ℤ low → high ≤ℤ civil_max
    → IsApart low high (pos 0) (rule_nanos y d.rule.start rule.std_offset.seconds) → IsApart low high (pos 93_599_000_000_000) (rule_nanos y d.rule.end d.offset.seconds)
    → (low +ℤ far) ≤ℤ nanos_of_seconds other → other ≤ℤ local → (nanos_of_seconds local +ℤ far) ≤ℤ high
    → ambiguous_at (ByRule rule) (datetime_of local) ≡ ambiguous_at (ByRule rule) (datetime_of other)
unfolding ambiguous_at
civil_apart rule d y low high local other has years other_in year other_year from to start end a later b =
    let local_in : IsEpochDay (day_of local) = (omega (arith, signed_arith), omega (arith, signed_arith)) in
    let walls = walls_beside rule d y low high (nanos_of_seconds local) (nanos_of_seconds other) (year_order y) from to start end
    (omega (arith, signed_arith)) (omega (arith, signed_arith)) (omega (arith, signed_arith)) (omega (arith, signed_arith)) in
    ambiguous_in rule.std_offset rule.dst d (datetime_of local) y (nanos_of_seconds local) has year (civil_nanos-datetime_of local local_in)
    ∙ ambiguous_beside rule.std_offset d.offset _ (nanos_of_seconds local) (nanos_of_seconds other) walls
    ∙ sym (ambiguous_in rule.std_offset rule.dst d (datetime_of other) y (nanos_of_seconds other) has other_year (civil_nanos-datetime_of other other_in))

-- `past` isn't before 1970, `other` is 374,397 seconds after `past`, and `local` isn't before `other`. If `local` is in
-- the year of `past`, and at least 374,397 seconds before the first transition after `past`, then `jiff` reports the
-- same for the civil times of `local` and `other`: unambiguous, in a gap or in a fold, with the same offsets.
civil_in_year : (rule : Posix) (d : Dst) (past other local : ℤ) (next : ℤ × OffsetInfo) → rule.dst ≡ Some d → next_by rule d (datetime_of past).date.year (nanos_of_seconds past) ≡ Some next
    → pos 0 ≤ℤ past → (past +ℤ pos 374_397) ≡ other → other ≤ℤ local → IsLocalSecond local → nanos_of_seconds (local +ℤ pos 374_397) ≤ℤ next.0
    → local <ℤ year_end (datetime_of past).date.year → ambiguous_at (ByRule rule) (datetime_of local) ≡ ambiguous_at (ByRule rule) (datetime_of other)
civil_in_year rule d past other local next has e from begun later years before_next before_end =
    let y : ℤ = (datetime_of past).date.year in
    let low : ℤ = nanos_of_seconds past in
    let high : ℤ = nanos_of_seconds (local +ℤ pos 374_397) in
    let past_in : IsEpochDay (day_of past) = (omega (arith, signed_arith), omega (arith, signed_arith)) in
    let local_in : IsEpochDay (day_of local) = (omega (arith, signed_arith), omega (arith, signed_arith)) in
    let other_in : IsEpochDay (day_of other) = (omega (arith, signed_arith), omega (arith, signed_arith)) in
    let start = year_begun past past_in in
    let part : IsPart (first_nanosecond y) (last_nanosecond y) low high = record {
      from = start;
      to = omega (arith, signed_arith);
      order = omega (arith, signed_arith);
      civil_from = omega (arith, signed_arith);
      civil_to = omega (arith, signed_arith);
    } in
    let ends = window_apart rule d y low high next e before_next in
    let moments = moments_apart d y rule.std_offset low high part ends.0 ends.1 in
    civil_apart rule d y low high local other has years other_in
    (year_goes_on past local past_in local_in (omega (arith, signed_arith)) before_end)
    (year_goes_on past other past_in other_in (omega (arith, signed_arith)) (omega (arith, signed_arith)))
    part.civil_from part.civil_to moments.0 moments.1 (omega (arith, signed_arith)) later (omega (arith, signed_arith))

-- `low` is in the year `y`, and `o` is the start and the end of daylight saving time in this year, in ascending order.
-- If the first transition after `low` is later than both the start and the end, then it is the first transition of the
-- next year.
next_in_next_year : (rule : Posix) (d : Dst) (y low : ℤ) (next : ℤ × OffsetInfo) (o : ℤ × ℤ) (a b : Bool) → o.0 <ℤ next.0 → o.1 <ℤ next.0 → int_lt low o.0 ≡ a → int_lt low o.1 ≡ b
    → (if a then transition_of rule d (utc_window d y rule.std_offset) o.0 else (if b then transition_of rule d (utc_window d y rule.std_offset) o.1 else next_year rule d y)) ≡ Some next
    → next_year rule d y ≡ Some next
next_in_next_year rule d y low next o true b p q e f g = grind (arith, signed_arith, transition_at_moment)
next_in_next_year rule d y low next o false true p q e f g = grind (arith, signed_arith, transition_at_moment)
next_in_next_year rule d y low next o false false p q e f g = g

of_next_year : (rule : Posix) (d : Dst) (y : ℤ) (next : ℤ × OffsetInfo) (b : Bool) → int_le (pos 9999) y ≡ b → (if b then None else first_of_year rule d (y +ℤ pos 1)) ≡ Some next
    → (y <ℤ pos 9999) × (first_of_year rule d (y +ℤ pos 1) ≡ Some next)
of_next_year rule d y next true e g = absurd (cc)
of_next_year rule d y next false e g = let under = le-false (pos 9999) y e in (omega (arith, signed_arith), g)

ordered_above : (high : ℤ) (w : ℤ × ℤ) → high ≤ℤ (ordered w).0 → (high ≤ℤ w.0) × (high ≤ℤ w.1)
ordered_above high w = grind (arith, signed_arith, int_le)

-- If `high` is after `first`, the start of the year, but not after either time that `window_of` returns, then daylight
-- saving time doesn't last all year. So these two times are `start` and `end`, at which the rule starts and ends
-- daylight saving time, and `high` isn't after either of them.
parts_above : (high first last start end : ℤ) (some b : Bool) → first <ℤ high → (int_same start first && some) ≡ b → high ≤ℤ (window_of b start last end).0 → high ≤ℤ (window_of b start last end).1
    → (high ≤ℤ start) × (high ≤ℤ end)
parts_above high first last start end some true above e p q = grind (arith, signed_arith, and_parts)
parts_above high first last start end some false above e p q = (p, q)

moments_above : (d : Dst) (y : ℤ) (std : Offset) (high : ℤ) → first_nanosecond y <ℤ high → high ≤ℤ (utc_window d y std).0 → high ≤ℤ (utc_window d y std).1
    → (high ≤ℤ rule_nanos y d.rule.start std.seconds) × (high ≤ℤ rule_nanos y d.rule.end d.offset.seconds)
unfolding utc_window
moments_above d y std high above p q =
    parts_above high (first_nanosecond y) (last_nanosecond y) (rule_nanos y d.rule.start std.seconds) (rule_nanos y d.rule.end d.offset.seconds) _ _ above refl p q

-- the year after `y` starts when the year `y` ends
next_first : (y : ℤ) → IsYear y → first_nanosecond (y +ℤ pos 1) ≡ nanos_of_seconds (year_end y)
next_first y year =
    let next = day_count-next_year y (y +ℤ pos 1) (omega (arith, signed_arith)) refl in
    omega (arith, signed_arith, days_from_civil-day_count y 1 1, days_from_civil-day_count (y +ℤ pos 1) 1 1)

year_comes : (y second : ℤ) → IsYear y → y <ℤ pos 9999 → IsEpochDay (day_of second) → year_end y ≤ℤ second → nanos_of_seconds second ≤ℤ last_nanosecond (y +ℤ pos 1)
    → (datetime_of second).date.year ≡ y +ℤ pos 1
unfolding datetime_of
year_comes y second year under second_in begun before =
    let next = next_first y year in
    let day = epoch_day-date_of (day_of second) second_in in
    of_the_year (date_of (day_of second)) (y +ℤ pos 1) (omega (arith, signed_arith), omega (arith, signed_arith)) (omega (arith, signed_arith)) (omega (arith, signed_arith))

-- `past` isn't before 1970, `other` is 374,397 seconds after `past` and after the year of `past`, and `local` isn't
-- before `other`. If `local` is at least 374,397 seconds before the first transition after `past`, then `local` and
-- `other` are in the next year, and `jiff` reports the same for their civil times: unambiguous, in a gap or in a fold,
-- with the same offsets.
civil_in_next_year : (rule : Posix) (d : Dst) (past other local : ℤ) (next : ℤ × OffsetInfo) → rule.dst ≡ Some d → next_by rule d (datetime_of past).date.year (nanos_of_seconds past) ≡ Some next
    → pos 0 ≤ℤ past → (past +ℤ pos 374_397) ≡ other → other ≤ℤ local → IsLocalSecond local → nanos_of_seconds (local +ℤ pos 374_397) ≤ℤ next.0
    → year_end (datetime_of past).date.year ≤ℤ other → ambiguous_at (ByRule rule) (datetime_of local) ≡ ambiguous_at (ByRule rule) (datetime_of other)
civil_in_next_year rule d past other local next has e from begun later years before_next passed =
    let y : ℤ = (datetime_of past).date.year in
    let year_in = (datetime_of past).date.year_in in
    let low : ℤ = nanos_of_seconds past in
    let high : ℤ = nanos_of_seconds (local +ℤ pos 374_397) in
    let std = rule.std_offset in
    let local_in : IsEpochDay (day_of local) = (omega (arith, signed_arith), omega (arith, signed_arith)) in
    let other_in : IsEpochDay (day_of other) = (omega (arith, signed_arith), omega (arith, signed_arith)) in
    let w : ℤ × ℤ = utc_window d y std in
    let within = window_in d y std (year_order y) in
    let ends_in = ordered_in (first_nanosecond y) (last_nanosecond y) w (int_le w.0 w.1) within.0 within.1 in
    let found = next_in_next_year rule d y low next (ordered w) _ _ (omega (arith, signed_arith)) (omega (arith, signed_arith)) refl refl e in
    let next_first_of = of_next_year rule d y next _ refl found in
    let n : ℤ = y +ℤ pos 1 in
    let v : ℤ × ℤ = utc_window d n std in
    let at = transition_at_moment rule d v (ordered v).0 next next_first_of.1 in
    let next_within = window_in d n std (year_order n) in
    let next_ends_in = ordered_in (first_nanosecond n) (last_nanosecond n) v (int_le v.0 v.1) next_within.0 next_within.1 in
    let both = ordered_above high v (omega (arith, signed_arith)) in
    let begins = next_first y year_in in
    let moments = moments_above d n std high (omega (arith, signed_arith)) both.0 both.1 in
    civil_apart rule d n low high local other has years other_in
    (year_comes y local year_in next_first_of.0 local_in (omega (arith, signed_arith)) (omega (arith, signed_arith)))
    (year_comes y other year_in next_first_of.0 other_in passed (omega (arith, signed_arith)))
    (omega (arith, signed_arith)) (omega (arith, signed_arith)) (inr (omega (arith, signed_arith))) (inr (omega (arith, signed_arith)))
    (omega (arith, signed_arith)) later (omega (arith, signed_arith))

-- an instant is before the end of its year
year_not_over : (past : ℤ) → IsEpochDay (day_of past) → past <ℤ year_end (datetime_of past).date.year
unfolding datetime_of
year_not_over past past_in =
    let bounds = in_its_year (date_of (day_of past)) in
    let day = epoch_day-date_of (day_of past) past_in in
    omega (arith, signed_arith)

-- `other` is 374,397 seconds after `past`, and `local` isn't before `other`. If `local` is far enough before the first
-- transition after `past` (`IsClearOfTransition`), and the UTC offset is constant from `past` until more than 93,599
-- seconds after `local`, then the clock behaves the same around `local` and `other`.
pub same_offsets_by_next : (rule : Posix) (past other local constant_until : ℤ) → IsClearOfTransition (ByPosix.next_at rule (nanos_of_seconds past)) past local → HasConstantOffset (ByRule rule) past constant_until
    → (past +ℤ pos 374_397) ≡ other → other ≤ℤ local → IsLocalSecond local → (local +ℤ pos 93_599) <ℤ constant_until → HaveSameOffsets (ByRule rule) local other
same_offsets_by_next rule past other local constant_until clear same from later years before_until =
    let begun = clear.begun in
    let past_in : IsEpochDay (day_of past) = (omega (arith, signed_arith), omega (arith, signed_arith)) in
    let found = next_found rule rule.dst (nanos_of_seconds past) clear.change clear.is in
    let year = utc_year past past past_in past_in (omega (arith, signed_arith)) (year_not_over past past_in) in
    let next = ap (λ y. next_by rule found.0 y (nanos_of_seconds past)) (sym year) ∙ found.2 in
    record {
      civil = elim clear.one_year [
        | inl before_end ↦ civil_in_year rule found.0 past other local clear.change found.1 next begun from later years clear.before_change before_end
        | inr passed ↦ civil_in_next_year rule found.0 past other local clear.change found.1 next begun from later years clear.before_change (omega (arith, signed_arith))
      ];
      instants = λ offset.
          let in_range = offset.in_range in
          same (local -ℤ offset.seconds) (omega (arith, signed_arith)) (omega (arith, signed_arith))
          ∙ sym (same (other -ℤ offset.seconds) (omega (arith, signed_arith)) (omega (arith, signed_arith)));
    }

by_rule : (rule : Option Posix) (past other local constant_until : ℤ) → IsClearOfTransition (match_some rule None (λ tz. ByPosix.next_at tz (nanos_of_seconds past))) past local
    → ((given : Posix) → rule ≡ Some given → HasConstantOffset (ByRule given) past constant_until)
    → (past +ℤ pos 374_397) ≡ other → other ≤ℤ local → IsLocalSecond local → (local +ℤ pos 93_599) <ℤ constant_until → HaveSameOffsetsBy rule local other
by_rule None past other local constant_until clear same from later years before_until = tt
by_rule (Some rule) past other local constant_until clear same from later years before_until = same_offsets_by_next rule past other local constant_until clear (same rule refl) from later years before_until

-- if the UTC offset is constant in a range after the last transition of a table, it is also constant there under the
-- table's POSIX rule
constant_by_rule : (z : Table) (rule : Posix) (past constant_until : ℤ) → vec_len z.transitions ≤ count_at z past → HasConstantOffset (zone_of_table z) past constant_until → z.posix_tz ≡ Some rule
    → HasConstantOffset (ByRule rule) past constant_until
unfolding offset_at
constant_by_rule z rule past constant_until all same has = grind (arith, signed_arith, vec_len, offset_after_table, rule_after_table)

pub same_offsets_by_next_after_table : (z : Table) (past other local constant_until : ℤ) → vec_len z.transitions ≤ count_at z past → IsClearOfTransition (OfTable.next_at z (nanos_of_seconds past)) past local
    → HasConstantOffset (zone_of_table z) past constant_until → (past +ℤ pos 374_397) ≡ other → other ≤ℤ local → IsLocalSecond local → IsLocalSecond other → (local +ℤ pos 93_599) <ℤ constant_until
    → HaveSameOffsets (zone_of_table z) local other
same_offsets_by_next_after_table z past other local constant_until all clear same from later years other_in before_until =
    let all_later = count_after_table z past (other -ℤ pos 93_599) all (omega (arith, signed_arith)) in
    same_offsets_after_table z local other years other_in (omega arith) later
    (by_rule z.posix_tz past other local constant_until (subst (λ next. IsClearOfTransition next past local) (next_after_table z past all) clear) (λ rule has. constant_by_rule z rule past constant_until all same has) from later years before_until)
