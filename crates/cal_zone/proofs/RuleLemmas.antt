-- Two local times in the same year have the same UTC offset under a POSIX rule if no transition is between them or too
-- near to either of them.
--
-- In these lemmas, `moment` is a nanosecond at which daylight saving time starts or ends under a POSIX rule, and `w` is
-- the pair of the start and the end of daylight saving time in one year, both in UTC.
use Rattle.std.proofs.Common.{◌≡◌, ◌∙◌, ◌⊎◌, inl, inr, ℤ, pos, ◌+ℤ◌, ◌-ℤ◌, ◌*ℤ◌, ◌≤ℤ◌, ◌<ℤ◌, Bool, true, false, ◌&&◌, ◌||◌, ◌≤◌, vec_len, if◌then◌else◌, int_le, int_lt, Option, None, Some, refl, sym, arith}
use Rattle.std.proofs.lemmas.Bool.{and_parts}
use borrow.Author.Differences.{lt-true, lt-false}
use Rattle.jiff.specs.Types.{Date, DateTime, Offset}
use Rattle.jiff.specs.Words.{civil_nanos, epoch_day, nanos_of_seconds, IsEpochDay, IsOffsetSeconds}
use Rattle.jiff_core.specs.Calendar.{day_count, days_from_civil, days_in_year, days_of_months, IsYear}
use Rattle.jiff_core.proofs.CalendarLemmas.{day_count-last_of_year, day_count-year_is, day_of_year_bound, days_from_civil-day_count}
use Rattle.jiff_core.proofs.DateLemmas.{civil}
use Rattle.jiff_tz.specs.Year.{year_of_nanos}
use Rattle.jiff_tz.proofs.YearLemmas.{year_of_nanos-civil}
use Rattle.cal_civil.specs.rules.Days.{date_of}
use Rattle.cal_civil.specs.rules.LocalSecond.{day_of}
use Rattle.cal_zone.specs.rules.Place.{datetime_of}
use Rattle.cal_zone.specs.computed.LocalOffsetRange.{year_end}
use Rattle.cal_zone.proofs.LocalOffsetRangeLemmas.{count_after_table, floor_second-whole}
use Rattle.jiff_tz.specs.declared.tzif.Tzif.{Tzif as Table}
use Rattle.jiff_tz.specs.Tzif as OfTable
use Rattle.jiff_tz.specs.Tzif.{count_at}
use Rattle.cal_civil.proofs.DayLemmas.{epoch_day-date_of}
use Rattle.cal_zone.proofs.PlaceLemmas.{civil_nanos-datetime_of}
use Rattle.jiff.proofs.SpanFacts.{signed_arith}
use Rattle.jiff_tz.specs.declared.info.OffsetInfo.{OffsetInfo}
use Rattle.jiff_tz.specs.declared.posix.DayTime.{DayTime}
use Rattle.jiff_tz.specs.declared.posix.Dst.{Dst}
use Rattle.jiff_tz.specs.declared.posix.TimeZone.{TimeZone as Posix}
use Rattle.jiff_tz.specs.PosixRule.{ambiguous_at_by, ambiguous_by, civil_max, civil_min, clamp_to, first_day, first_nanosecond, in_window, int_same, last_nanosecond, match_some, nanos_per_day, next_by, next_year, ordered, rule_day, rule_nanos, saturating_add, saturating_sub, shift_between, transition_of, utc_window}
use Rattle.jiff_tz.specs.PosixRule as ByPosix
use Rattle.jiff_tz.proofs.TzifLemmas.{le_no, le_yes}
use Rattle.cal_bytes.proofs.General.{lt_test, not_lt_test}

-- `at` and `other` are on the same side of `moment`: both before it, or both at or after it
pub record IsBeside (moment at other : ℤ) : Type 0 where
  pub le : int_le moment at ≡ int_le moment other
  pub lt : int_lt at moment ≡ int_lt other moment

-- `moment` is outside the range from `low` to `high`, or at most `by` away from one of its ends
abbrev pub IsApart : ℤ → ℤ → ℤ → ℤ → Type 0
IsApart low high by moment = (moment ≤ℤ (low +ℤ by)) ⊎ (high ≤ℤ (moment +ℤ by))

-- Suppose that `moment` is outside the range from `low` to `high`, or at most `by` away from one of its ends, while
-- `at` and `other` are in this range and at least `far` away from its ends. If `by` is less than `far`, then `at` and
-- `other` are on the same side of `moment`.
beside : (low high by far moment at other : ℤ) → IsApart low high by moment → by <ℤ far → (low +ℤ far) ≤ℤ at → (at +ℤ far) ≤ℤ high → (low +ℤ far) ≤ℤ other → (other +ℤ far) ≤ℤ high
    → IsBeside moment at other
beside low high by far moment at other (inl h) more a b c d = record {
  le = le_yes moment at (omega (arith, signed_arith)) ∙ sym (le_yes moment other (omega (arith, signed_arith)));
  lt = not_lt_test at moment (omega (arith, signed_arith)) ∙ sym (not_lt_test other moment (omega (arith, signed_arith)));
}
beside low high by far moment at other (inr h) more a b c d = record {
  le = le_no moment at (omega (arith, signed_arith)) ∙ sym (le_no moment other (omega (arith, signed_arith)));
  lt = lt_test at moment (omega (arith, signed_arith)) ∙ sym (lt_test other moment (omega (arith, signed_arith)));
}

-- if `moment` is outside the range from `low` to `high`, or at most `by` away from one of its ends, and `near` differs
-- from `moment` by at most `more`, then `near` is outside this range, or at most `by` plus `more` away from one of its
-- ends
apart_near : (low high by more moment near : ℤ) → IsApart low high by moment → near ≤ℤ (moment +ℤ more) → moment ≤ℤ (near +ℤ more) → IsApart low high (by +ℤ more) near
apart_near low high by more moment near (inl h) a b = inl (omega (arith, signed_arith))
apart_near low high by more moment near (inr h) a b = inr (omega (arith, signed_arith))

-- `kept` is `n` clamped to the range from `low` to `high`
pub record IsClamped (low high n kept : ℤ) : Type 0 where
  pub from : low ≤ℤ kept
  pub to : kept ≤ℤ high
  pub below : (kept ≤ℤ n) ⊎ (kept ≤ℤ low)
  pub above : (n ≤ℤ kept) ⊎ (high ≤ℤ kept)

clamped_by : (low high n : ℤ) (a b : Bool) → low ≤ℤ high → int_lt n low ≡ a → int_lt high n ≡ b → IsClamped low high n (if a then low else (if b then high else n))
clamped_by low high n true b h e f =
    let under = lt-true n low e in
    record { from = omega (arith, signed_arith); to = h; below = inr (omega (arith, signed_arith)); above = inl (omega (arith, signed_arith)) }
clamped_by low high n false true h e f =
    let over = lt-true high n f in
    record { from = h; to = omega (arith, signed_arith); below = inl (omega (arith, signed_arith)); above = inr (omega (arith, signed_arith)) }
clamped_by low high n false false h e f =
    let over = lt-false n low e in
    let under = lt-false high n f in
    record { from = omega (arith, signed_arith); to = omega (arith, signed_arith); below = inl (omega (arith, signed_arith)); above = inl (omega (arith, signed_arith)) }

pub clamped : (low high n : ℤ) → low ≤ℤ high → IsClamped low high n (clamp_to low high n)
clamped low high n h = clamped_by low high n _ _ h refl refl

-- clamping doesn't move two numbers farther apart
near_by : (low high a b kept other more : ℤ) → low ≤ℤ other → kept ≤ℤ high → pos 0 ≤ℤ more → a ≤ℤ (b +ℤ more)
    → (kept ≤ℤ a) ⊎ (kept ≤ℤ low) → (b ≤ℤ other) ⊎ (high ≤ℤ other) → kept ≤ℤ (other +ℤ more)
near_by low high a b kept other more p q some h (inl x) (inl y) = omega (arith, signed_arith)
near_by low high a b kept other more p q some h (inl x) (inr y) = omega (arith, signed_arith)
near_by low high a b kept other more p q some h (inr x) y = omega (arith, signed_arith)

clamped_near : (low high a b more : ℤ) → low ≤ℤ high → pos 0 ≤ℤ more → a ≤ℤ (b +ℤ more) → clamp_to low high a ≤ℤ (clamp_to low high b +ℤ more)
clamped_near low high a b more order some h = grind (arith, signed_arith, clamped, near_by)

-- Suppose that `moment` is outside the range from `low` to `high`, or at most `by` away from one of its ends
-- (`IsApart`), and that `moved` differs from `moment` by at most `more`. Then `moved`, clamped to the civil times of
-- `jiff`, is outside the range, or at most `by` plus `more` away from one of its ends. The range is within the civil
-- times of `jiff`. The lemmas `kept_low` and `kept_high` are the two cases, and `apart_kept` is the whole statement.
kept_low : (low high by more moment moved kept : ℤ) → moment ≤ℤ (low +ℤ by) → civil_min ≤ℤ low → pos 0 ≤ℤ by → pos 0 ≤ℤ more → moved ≤ℤ (moment +ℤ more)
    → (kept ≤ℤ moved) ⊎ (kept ≤ℤ civil_min) → IsApart low high (by +ℤ more) kept
kept_low low high by more moment moved kept h from some also a (inl k) = inl (omega (arith, signed_arith))
kept_low low high by more moment moved kept h from some also a (inr k) = inl (omega (arith, signed_arith))

kept_high : (low high by more moment moved kept : ℤ) → high ≤ℤ (moment +ℤ by) → high ≤ℤ civil_max → pos 0 ≤ℤ by → pos 0 ≤ℤ more → moment ≤ℤ (moved +ℤ more)
    → (moved ≤ℤ kept) ⊎ (civil_max ≤ℤ kept) → IsApart low high (by +ℤ more) kept
kept_high low high by more moment moved kept h to some also b (inl k) = inr (omega (arith, signed_arith))
kept_high low high by more moment moved kept h to some also b (inr k) = inr (omega (arith, signed_arith))

civil_order : civil_min ≤ℤ civil_max
civil_order = omega (arith, signed_arith)

apart_kept : (low high by more moment moved : ℤ) → civil_min ≤ℤ low → high ≤ℤ civil_max → pos 0 ≤ℤ by → pos 0 ≤ℤ more
    → moved ≤ℤ (moment +ℤ more) → moment ≤ℤ (moved +ℤ more) → IsApart low high by moment → IsApart low high (by +ℤ more) (clamp_to civil_min civil_max moved)
apart_kept low high by more moment moved from to some also a b (inl h) = grind (arith, signed_arith, kept_low, clamped, civil_order)
apart_kept low high by more moment moved from to some also a b (inr h) = grind (arith, signed_arith, kept_high, clamped, civil_order)

-- The nanosecond at which daylight saving time starts or ends in a year. `low` and `high` are the first and the last
-- nanosecond of the year. If the year has no `day` for the change, the result is `high`. The nanosecond is counted in
-- UTC if `seconds` is the UTC offset before the change, and in local time if `seconds` is 0. By `moment_near`, the two
-- counts differ by at most 93,599 seconds, the largest UTC offset.
abbrev pub moment_on : Option ℤ → ℤ → ℤ → ℤ → ℤ → ℤ
moment_on day low high time seconds = match_some day high (λ d. clamp_to low high (d *ℤ nanos_per_day +ℤ nanos_of_seconds (time -ℤ seconds)))

moment_near : (day : Option ℤ) (low high time seconds : ℤ) → low ≤ℤ high → IsOffsetSeconds seconds
    → (moment_on day low high time (pos 0) ≤ℤ (moment_on day low high time seconds +ℤ pos 93_599_000_000_000))
    × (moment_on day low high time seconds ≤ℤ (moment_on day low high time (pos 0) +ℤ pos 93_599_000_000_000))
moment_near None low high time seconds order offset = (omega (arith, signed_arith), omega (arith, signed_arith))
moment_near (Some d) low high time seconds order offset =
    let wall : ℤ = d *ℤ nanos_per_day +ℤ nanos_of_seconds (time -ℤ pos 0) in
    let utc : ℤ = d *ℤ nanos_per_day +ℤ nanos_of_seconds (time -ℤ seconds) in (
      clamped_near low high wall utc (pos 93_599_000_000_000) order (omega (arith, signed_arith)) (omega (arith, signed_arith)),
      clamped_near low high utc wall (pos 93_599_000_000_000) order (omega (arith, signed_arith)) (omega (arith, signed_arith)),
    )

apart_wall : (low high by y : ℤ) (d : DayTime) (seconds : ℤ) → first_nanosecond y ≤ℤ last_nanosecond y → IsOffsetSeconds seconds → IsApart low high by (rule_nanos y d seconds)
    → IsApart low high (by +ℤ pos 93_599_000_000_000) (rule_nanos y d (pos 0))
unfolding rule_nanos
apart_wall low high by y d seconds order offset apart =
    let near = moment_near (rule_day y d.date) (first_nanosecond y) (last_nanosecond y) d.time seconds order offset in
    apart_near low high by (pos 93_599_000_000_000) _ _ apart near.0 near.1

-- `w` is the start and the end of daylight saving time, here in local time. At these two times there are a gap and a
-- fold, which have four ends in all. `at` and `other` are on the same side of each of these ends. By
-- `ambiguous_beside`, `jiff` then reports the same for `at` and `other`: unambiguous, in the gap or in the fold, with
-- the same offsets.
pub record AreBeside (std dst : Offset) (w : ℤ × ℤ) (at other : ℤ) : Type 0 where
  pub start : IsBeside w.0 at other
  pub end : IsBeside w.1 at other
  pub after_start : IsBeside (saturating_add w.0 (shift_between std dst)) at other
  pub before_end : IsBeside (saturating_sub w.1 (shift_between std dst)) at other

pub ambiguous_beside : (std dst : Offset) (w : ℤ × ℤ) (at other : ℤ) → AreBeside std dst w at other → ambiguous_by std dst w at ≡ ambiguous_by std dst w other
ambiguous_beside std dst w at other h = grind (arith, signed_arith)

pub window_beside : (w : ℤ × ℤ) (at other : ℤ) → IsBeside w.0 at other → IsBeside w.1 at other → in_window w at ≡ in_window w other
window_beside w at other start end = rw (start.le, start.lt, end.le, end.lt) refl

-- `ordered` puts the start and the end of daylight saving time in ascending order
pub ordered_rises : (w : ℤ × ℤ) → (ordered w).0 ≤ℤ (ordered w).1
ordered_rises w = grind (arith, signed_arith, int_le)

pub ordered_apart : (low high : ℤ) (w : ℤ × ℤ) → IsApart low high (pos 0) (ordered w).0 → IsApart low high (pos 0) (ordered w).1 → IsApart low high (pos 0) w.0 × IsApart low high (pos 0) w.1
ordered_apart low high w = grind (arith, signed_arith, int_le)

by_range : (b : Bool) (moment : ℤ) (info : OffsetInfo) (next : ℤ × OffsetInfo) → (if b then Some (moment, info) else None) ≡ Some next → next.0 ≡ moment
by_range true moment info next e = cc
by_range false moment info next e = absurd (cc)

-- if `transition_of` returns a transition for `moment`, this transition is at `moment`
pub transition_at_moment : (rule : Posix) (d : Dst) (w : ℤ × ℤ) (moment : ℤ) (next : ℤ × OffsetInfo) → transition_of rule d w moment ≡ Some next → next.0 ≡ moment
transition_at_moment rule d w moment next e = grind (arith, signed_arith, by_range, int_le)

window_ends : (rule : Posix) (d : Dst) (y low high : ℤ) (next : ℤ × OffsetInfo) (o : ℤ × ℤ) → o.0 ≤ℤ o.1 → (a b : Bool) → int_lt low o.0 ≡ a → int_lt low o.1 ≡ b
    → (if a then transition_of rule d (utc_window d y rule.std_offset) o.0 else (if b then transition_of rule d (utc_window d y rule.std_offset) o.1 else next_year rule d y)) ≡ Some next
    → high ≤ℤ next.0 → IsApart low high (pos 0) o.0 × IsApart low high (pos 0) o.1
window_ends rule d y low high next o rises true b e f g h = grind (arith, signed_arith, transition_at_moment)
window_ends rule d y low high next o rises false true e f g h = grind (arith, signed_arith, transition_at_moment)
window_ends rule d y low high next o rises false false e f g h = grind (arith, signed_arith)

-- if the first transition after `low` is at `high` or later, daylight saving time neither starts nor ends after `low`
-- and before `high` in the year `y`
window_by : (rule : Posix) (d : Dst) (y low high : ℤ) (next : ℤ × OffsetInfo) → next_by rule d y low ≡ Some next → high ≤ℤ next.0
    → IsApart low high (pos 0) (ordered (utc_window d y rule.std_offset)).0 × IsApart low high (pos 0) (ordered (utc_window d y rule.std_offset)).1
window_by rule d y low high next e h =
    window_ends rule d y low high next (ordered (utc_window d y rule.std_offset)) (ordered_rises (utc_window d y rule.std_offset)) _ _ refl refl e h

pub window_apart : (rule : Posix) (d : Dst) (y low high : ℤ) (next : ℤ × OffsetInfo) → next_by rule d y low ≡ Some next → high ≤ℤ next.0
    → IsApart low high (pos 0) (utc_window d y rule.std_offset).0 × IsApart low high (pos 0) (utc_window d y rule.std_offset).1
window_apart rule d y low high next e h =
    let ends = window_by rule d y low high next e h in
    ordered_apart low high (utc_window d y rule.std_offset) ends.0 ends.1

-- Suppose that daylight saving time starts with the year, and that its end, converted to standard time, is outside the
-- year. Then `utc_window` has the last nanosecond of the year in place of the end. If the range from `low` to `high` is
-- in the year, daylight saving time ends outside this range, or at most 93,599 seconds (the largest UTC offset) away
-- from `low` or `high`. The lemma `end_passed` shows this for an end before the year, and `end_to_come` for an end
-- after the year.
end_passed : (low high first last end std : ℤ) → first ≤ℤ low → low ≤ℤ civil_max → IsOffsetSeconds std → clamp_to civil_min civil_max (end +ℤ nanos_of_seconds std) <ℤ first
    → ((end +ℤ nanos_of_seconds std) ≤ℤ clamp_to civil_min civil_max (end +ℤ nanos_of_seconds std)) ⊎ (civil_max ≤ℤ clamp_to civil_min civil_max (end +ℤ nanos_of_seconds std))
    → IsApart low high (pos 93_599_000_000_000) end
end_passed low high first last end std from to offset h (inl k) = inl (omega (arith, signed_arith))
end_passed low high first last end std from to offset h (inr k) = absurd (omega (arith, signed_arith))

end_to_come : (low high first last end std : ℤ) → high ≤ℤ (last +ℤ pos 1) → civil_min <ℤ high → IsOffsetSeconds std → last <ℤ clamp_to civil_min civil_max (end +ℤ nanos_of_seconds std)
    → (clamp_to civil_min civil_max (end +ℤ nanos_of_seconds std) ≤ℤ (end +ℤ nanos_of_seconds std)) ⊎ (clamp_to civil_min civil_max (end +ℤ nanos_of_seconds std) ≤ℤ civil_min)
    → IsApart low high (pos 93_599_000_000_000) end
end_to_come low high first last end std to from offset h (inl k) = inr (omega (arith, signed_arith))
end_to_come low high first last end std to from offset h (inr k) = absurd (omega (arith, signed_arith))

-- `low..high` is not empty and begins in the year from `first` to `last`, before the last nanosecond of this year; both
-- `low` and `high` are in the range of `jiff`'s civil times
pub record IsPart (first last low high : ℤ) : Type 0 where
  pub from : first ≤ℤ low
  pub to : low <ℤ last
  pub order : low <ℤ high
  pub civil_from : civil_min ≤ℤ low
  pub civil_to : high ≤ℤ civil_max

end_left_out : (low high first last end std : ℤ) (b : Bool) → IsPart first last low high → high ≤ℤ (last +ℤ pos 1) → IsOffsetSeconds std
    → int_lt (clamp_to civil_min civil_max (end +ℤ nanos_of_seconds std)) first ≡ b → (b || int_lt last (clamp_to civil_min civil_max (end +ℤ nanos_of_seconds std))) ≡ true
    → IsApart low high (pos 93_599_000_000_000) end
end_left_out low high first last end std true part to offset e f = grind (arith, signed_arith, clamped, civil_order, end_passed)
end_left_out low high first last end std false part to offset e f =
    let kept = clamped civil_min civil_max (end +ℤ nanos_of_seconds std) civil_order in
    let to_come = lt-true last (clamp_to civil_min civil_max (end +ℤ nanos_of_seconds std)) f in
    end_to_come low high first last end std to (omega (arith, signed_arith)) offset (omega (arith, signed_arith)) kept.below

abbrev pub window_of : Bool → ℤ → ℤ → ℤ → ℤ × ℤ
window_of whole start last end = if whole then (start, last) else (start, end)

-- `last` is the last nanosecond of a year. If `low..high` begins before it, and doesn't contain it, then `low..high`
-- ends in that year.
ends_with_year : (low high last : ℤ) → low <ℤ last → IsApart low high (pos 0) last → high ≤ℤ (last +ℤ pos 1)
ends_with_year low high last within (inl h) = absurd (omega (arith, signed_arith))
ends_with_year low high last within (inr h) = omega (arith, signed_arith)

window_parts : (low high first last start end std : ℤ) (b : Bool) → IsPart first last low high → IsOffsetSeconds std
    → (int_same start first && (int_lt (saturating_add end (nanos_of_seconds std)) first || int_lt last (saturating_add end (nanos_of_seconds std)))) ≡ b
    → IsApart low high (pos 0) (window_of b start last end).0 → IsApart low high (pos 0) (window_of b start last end).1
    → IsApart low high (pos 0) start × IsApart low high (pos 93_599_000_000_000) end
window_parts low high first last start end std true part offset e p q =
    (p, end_left_out low high first last end std _ part (ends_with_year low high last part.to q) offset refl (and_parts _ _ e).1)
window_parts low high first last start end std false part offset e p q = grind (arith, signed_arith, apart_near)

pub moments_apart : (d : Dst) (y : ℤ) (std : Offset) (low high : ℤ) → IsPart (first_nanosecond y) (last_nanosecond y) low high
    → IsApart low high (pos 0) (utc_window d y std).0 → IsApart low high (pos 0) (utc_window d y std).1
    → IsApart low high (pos 0) (rule_nanos y d.rule.start std.seconds) × IsApart low high (pos 93_599_000_000_000) (rule_nanos y d.rule.end d.offset.seconds)
unfolding utc_window
moments_apart d y std low high part p q =
    window_parts low high (first_nanosecond y) (last_nanosecond y) (rule_nanos y d.rule.start std.seconds) (rule_nanos y d.rule.end d.offset.seconds) std.seconds _ part std.in_range refl p q

-- the day number of a date is at least that of the first day of its year, and less than that of the first day of the
-- next year
pub in_its_year : (d : Date) → (first_day d.year ≤ℤ epoch_day d) × (epoch_day d <ℤ (first_day d.year +ℤ pos (days_in_year d.year)))
unfolding day_count days_of_months
in_its_year d =
    let count = days_from_civil-day_count d.year d.month d.day in
    let first = days_from_civil-day_count d.year 1 1 in
    let bound = day_of_year_bound d.year d.month d.day (civil d) in
    let day = d.day_in in
    (omega (arith, signed_arith), omega (arith, signed_arith))

-- a date is in the year `y` if its day number is at least that of the first day of `y`, and less than that of the first
-- day of the next year
pub of_the_year : (d : Date) (y : ℤ) → IsYear y → first_day y ≤ℤ epoch_day d → epoch_day d <ℤ (first_day y +ℤ pos (days_in_year y)) → d.year ≡ y
of_the_year d y year from to = grind (arith, signed_arith, days_from_civil-day_count, day_count-year_is, civil)

-- a second at or after `past` and before the end of the year of `past` is in that year
pub year_goes_on : (past second : ℤ) → IsEpochDay (day_of past) → IsEpochDay (day_of second) → past ≤ℤ second → second <ℤ year_end (datetime_of past).date.year
    → (datetime_of second).date.year ≡ (datetime_of past).date.year
unfolding datetime_of
year_goes_on past second past_in second_in later before =
    let start = in_its_year (date_of (day_of past)) in
    let day = epoch_day-date_of (day_of past) past_in in
    let next = epoch_day-date_of (day_of second) second_in in
    of_the_year (date_of (day_of second)) (date_of (day_of past)).year (date_of (day_of past)).year_in (omega (arith, signed_arith)) (omega (arith, signed_arith))

-- `year_of_nanos`, with which `jiff` finds the year of an instant in UTC, returns the year of `past` for every second
-- from `past` to the end of that year
pub utc_year : (past second : ℤ) → IsEpochDay (day_of past) → IsEpochDay (day_of second) → past ≤ℤ second → second <ℤ year_end (datetime_of past).date.year
    → year_of_nanos (nanos_of_seconds second) ≡ (datetime_of past).date.year
utc_year past second past_in second_in later before =
    sym (year_of_nanos-civil (datetime_of second) (nanos_of_seconds second) (civil_nanos-datetime_of second second_in)) ∙ year_goes_on past second past_in second_in later before

pub year_begun : (past : ℤ) → IsEpochDay (day_of past) → first_nanosecond (datetime_of past).date.year ≤ℤ nanos_of_seconds past
unfolding datetime_of
year_begun past past_in =
    let start = in_its_year (date_of (day_of past)) in
    let day = epoch_day-date_of (day_of past) past_in in
    omega (arith, signed_arith)

-- under a rule with daylight saving time, whether a civil time is unambiguous, in a gap or in a fold depends on the
-- local times at which daylight saving time starts and ends in its year
pub ambiguous_in : (std : Offset) (dst : Option Dst) (d : Dst) (shown : DateTime) (y n : ℤ) → dst ≡ Some d → shown.date.year ≡ y → civil_nanos shown ≡ n
    → ambiguous_at_by std dst shown ≡ ambiguous_by std d.offset (rule_nanos y d.rule.start (pos 0), rule_nanos y d.rule.end (pos 0)) n
ambiguous_in std dst d shown y n e f g = grind (arith, signed_arith)

pub offset_in : (rule : Posix) (d : Dst) (y n : ℤ) → rule.dst ≡ Some d → year_of_nanos n ≡ y
    → ByPosix.offset_at rule n ≡ match_some (if in_window (utc_window d y rule.std_offset) n then Some d else None) rule.std_offset (λ dst. dst.offset)
offset_in rule d y n e f = rw (e, f) refl

-- The smallest distance in nanoseconds, in the lemma `walls_beside`, of the local times `at` and `other` from either
-- end of the range from `low` to `high`: four times the largest UTC offset, plus one second.
abbrev pub far : ℤ
far = pos 374_397_000_000_000

pub walls_beside : (rule : Posix) (d : Dst) (y low high at other : ℤ) → first_nanosecond y ≤ℤ last_nanosecond y → civil_min ≤ℤ low → high ≤ℤ civil_max
    → IsApart low high (pos 0) (rule_nanos y d.rule.start rule.std_offset.seconds) → IsApart low high (pos 93_599_000_000_000) (rule_nanos y d.rule.end d.offset.seconds)
    → (low +ℤ far) ≤ℤ at → (at +ℤ far) ≤ℤ high → (low +ℤ far) ≤ℤ other → (other +ℤ far) ≤ℤ high
    → AreBeside rule.std_offset d.offset (rule_nanos y d.rule.start (pos 0), rule_nanos y d.rule.end (pos 0)) at other
walls_beside rule d y low high at other order civil_from civil_to start end a b c e =
    let std = rule.std_offset.in_range in
    let dst = d.offset.in_range in
    let on_start = apart_wall low high (pos 0) y d.rule.start rule.std_offset.seconds order std start in
    let on_end = apart_wall low high (pos 93_599_000_000_000) y d.rule.end d.offset.seconds order dst end in
    let shift : ℤ = shift_between rule.std_offset d.offset in
    let first : ℤ = rule_nanos y d.rule.start (pos 0) in
    let last : ℤ = rule_nanos y d.rule.end (pos 0) in
    record {
      start = beside low high _ far _ at other on_start (omega (arith, signed_arith)) a b c e;
      end = beside low high _ far _ at other on_end (omega (arith, signed_arith)) a b c e;
      after_start = beside low high _ far _ at other
          (apart_kept low high (pos 93_599_000_000_000) (pos 187_198_000_000_000) first (first +ℤ shift) civil_from civil_to (omega (arith, signed_arith)) (omega (arith, signed_arith)) (omega (arith, signed_arith)) (omega (arith, signed_arith)) on_start)
          (omega (arith, signed_arith)) a b c e;
      before_end = beside low high _ far _ at other
          (apart_kept low high (pos 187_198_000_000_000) (pos 187_198_000_000_000) last (last -ℤ shift) civil_from civil_to (omega (arith, signed_arith)) (omega (arith, signed_arith)) (omega (arith, signed_arith)) (omega (arith, signed_arith)) on_end)
          (omega (arith, signed_arith)) a b c e;
    }

-- if there is a transition after an instant, the rule has daylight saving time
pub next_found : (rule : Posix) (dst : Option Dst) (n : ℤ) (change : ℤ × OffsetInfo) → match_some dst None (λ d. next_by rule d (year_of_nanos n) n) ≡ Some change
    → (d : Dst) × (dst ≡ Some d) × (next_by rule d (year_of_nanos n) n ≡ Some change)
next_found rule None n change e = absurd (cc)
next_found rule (Some d) n change e = (d, refl, e)

-- after the last transition of a table, the next transition is the next one of the table's POSIX rule; if the table has
-- no rule, there is no next transition
pub next_after_table : (z : Table) (past : ℤ) → vec_len z.transitions ≤ count_at z past → OfTable.next_at z (nanos_of_seconds past) ≡ match_some z.posix_tz None (λ rule. ByPosix.next_at rule (nanos_of_seconds past))
next_after_table z past all = grind (arith, signed_arith, vec_len, floor_second-whole, count_after_table)

december : (d : Date) (y : ℤ) → d.year ≡ y → pos d.month ≡ pos 12 → pos d.day ≡ pos 31 → epoch_day d ≡ days_from_civil y 12 31
december d y year month day = cc

-- the end of 31 December of the year `y`, in seconds of Unix time, is `year_end y`
pub year_end-december : (d : Date) (y : ℤ) → d.year ≡ y → pos d.month ≡ pos 12 → pos d.day ≡ pos 31 → (epoch_day d +ℤ pos 1) *ℤ pos 86_400 ≡ year_end y
year_end-december d y year month day =
    let last = december d y year month day in
    omega (arith, signed_arith, days_from_civil-day_count y 12 31, days_from_civil-day_count y 1 1, day_count-last_of_year y)
