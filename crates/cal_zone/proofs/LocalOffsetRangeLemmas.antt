-- Local seconds between two consecutive transitions of a zone file's table, and far enough from both, have the same UTC
-- offset. After the last transition, whether local seconds have the same UTC offset depends on the table's POSIX rule.
--
-- `count_at` returns the number of a table's transitions at or before a second.
use Rattle.std.proofs.Common.{◌≡◌, ◌∙◌, ◌-◌, ◌<◌, ◌≤◌, ℕ, zero, suc, ℤ, pos, ◌+ℤ◌, ◌-ℤ◌, ◌≤ℤ◌, ◌<ℤ◌, Option, Some, None, true, false, cond, int_le, int_lt, get_or, length, map, List, refl, sym, ap, arith, vec_len}
use Rattle.std.specs.Int.{int_min, int_max}
use Rattle.std.proofs.lemmas.Bool.Decides.{nat_tests}
use Rattle.std.proofs.lemmas.List.{get_or-map, length-map}
use Rattle.std.specs.List.Sorted.{IsPartitionPoint}
use Rattle.std.proofs.lemmas.List.Sums.{prefix_len_is, prefix_len_passes}
use Rattle.jiff.specs.Types.{AmbiguousOffset, DateTime, Offset, TimeZone, Unambiguous, Posix as ByRule}
use Rattle.jiff.specs.Words.{ambiguous_at, civil_seconds, compatible_offset, nanos_of_seconds, offset_at, IsEpochDay, IsOffsetSeconds}
use Rattle.jiff.proofs.SpanFacts.{signed_arith}
use Rattle.jiff_tz.specs.declared.tzif.Tzif.{Tzif as Table}
use Rattle.jiff_tz.specs.declared.tzif.transition.Transition.{Transition}
use Rattle.jiff_tz.specs.declared.posix.Dst.{Dst}
use Rattle.jiff_tz.specs.declared.posix.TimeZone.{TimeZone as Posix}
use Rattle.jiff_tz.specs.PosixRule.{ambiguous_at_by, dst_at_by, match_some}
use Rattle.jiff_tz.specs.PosixRule as ByPosix
use Rattle.jiff_tz.specs.PosixText.{dst_view, tz_view}
use Rattle.std.specs.Option.{option_map}
use Rattle.cal_zone.specs.computed.LocalOffsetRange.{HaveSameOffsets}
use Rattle.jiff_tz.specs.Tzif as OfTable
use Rattle.jiff_tz.specs.Tzif.{ambiguous_after, civil_count_at, civil_end, civil_start, count_at, floor_second, is_inside, no_transition, rule_after, transition_at, type_after}
use Rattle.jiff_tz.specs.TzifText.{no_row, transition_text}
use Rattle.jiff_tz.proofs.TzifLemmas.{le_no, le_yes, seconds_rise}
use Rattle.cal_civil.specs.rules.LocalSecond.{IsLocalSecond, day_of}
use Rattle.cal_zone.specs.rules.Place.{datetime_of, place_of, settle_of, time_of}
use Rattle.cal_zone.specs.rules.Rules.{zone_of_table}
use Rattle.cal_civil.proofs.DayLemmas.{epoch_day-date_of}
use Rattle.cal_zone.proofs.PlaceLemmas.{by_the_offset, place_at-there, place_of-Some, place_of-tried}

-- if mapping an option returns `None`, the option is `None`
none_by_view : {A B : Type 0} (view : A → B) (o : Option A) → None ≡ option_map view o → o ≡ None
none_by_view view o e = grind arith

-- the smaller of two UTC offsets is in the range of UTC offsets, and so is the larger
min_in_range : (x y : ℤ) → IsOffsetSeconds x → IsOffsetSeconds y → IsOffsetSeconds (int_min x y)
min_in_range x y p q = elim (int_lt y x) as (λ b. IsOffsetSeconds (cond b y x)) [ true ↦ q | false ↦ p ]

max_in_range : (x y : ℤ) → IsOffsetSeconds x → IsOffsetSeconds y → IsOffsetSeconds (int_max x y)
max_in_range x y p q = elim (int_lt y x) as (λ b. IsOffsetSeconds (cond b x y)) [ true ↦ p | false ↦ q ]

-- The start of a transition's gap or fold is a local second, while the transition is a second of Unix time. As numbers,
-- the two differ by at most 93,599, the largest UTC offset, and so do the end and the transition (`end_near`).
start_near : (row : Transition) → IsOffsetSeconds (civil_start row -ℤ row.second)
start_near row = grind (arith, signed_arith, min_in_range)

end_near : (row : Transition) → IsOffsetSeconds (civil_end row -ℤ row.second)
end_near row = grind (arith, signed_arith, max_in_range)

-- every transition with an index below `count_at z second` is at or before `second`
transition_passed : (z : Table) (second : ℤ) (row : ℕ) → row < count_at z second → (transition_at z row).second ≤ℤ second
transition_passed z second row l = grind (arith, signed_arith, prefix_len_passes, int_le)

-- the number of transitions at or before a second stays the same until the next transition
pub count_stays : (z : Table) (from second : ℤ) → count_at z from < vec_len z.transitions → from ≤ℤ second
    → second <ℤ (transition_at z (count_at z from)).second → count_at z second ≡ count_at z from
count_stays z from second some begun within = grind (arith, signed_arith, prefix_len_is, int_le, le_yes, transition_passed, le_no)

-- `local` is at least 93,599 seconds (the largest UTC offset) after `from`, and more than 93,599 seconds before the
-- next transition after `from`. Then the number of transitions whose gap or fold has begun by `local` is the number of
-- transitions at or before `from`.
civil_count_stays : (z : Table) (from local : ℤ) → count_at z from < vec_len z.transitions → (from +ℤ pos 93_599) ≤ℤ local
    → (local +ℤ pos 93_599) <ℤ (transition_at z (count_at z from)).second → civil_count_at z local ≡ count_at z from
civil_count_stays z from local some begun within =
    prefix_len_is (λ t. int_le (civil_start t) local) z.transitions.items (count_at z from) (no_transition z) (omega arith)
    (λ row l. le_yes (civil_start (transition_at z row)) local
    (let near = start_near (transition_at z row) in omega (arith, signed_arith, transition_passed z from row l)))
    (λ l. le_no (civil_start (transition_at z (count_at z from))) local
    (let near = start_near (transition_at z (count_at z from)) in omega (arith, signed_arith)))

outside_after : (z : Table) (rows : ℕ) (local : ℤ) → (0 < rows → civil_end (transition_at z (rows - 1)) ≤ℤ local) → is_inside z rows local ≡ false
outside_after z zero local ended = refl
outside_after z (suc rows) local ended = grind (arith, nat_tests)

-- if `local` is at least 93,599 seconds after `from`, it isn't in the gap or fold of the last transition at or before
-- `from`
outside : (z : Table) (from local : ℤ) → (from +ℤ pos 93_599) ≤ℤ local → is_inside z (count_at z from) local ≡ false
outside z from local begun = outside_after z (count_at z from) local
    (λ some.
    let near = end_near (transition_at z (count_at z from - 1)) in
    omega (arith, signed_arith, transition_passed z from (count_at z from - 1) (omega arith)))

-- the POSIX rule of a table isn't used before the last transition
pub no_rule : (z : Table) (rows : ℕ) → rows < vec_len z.transitions → rule_after z rows ≡ None
no_rule z rows some = grind (arith, signed_arith, vec_len)

-- a second that is converted to nanoseconds and back stays the same
pub floor_second-whole : (second : ℤ) → floor_second (nanos_of_seconds second) ≡ second
floor_second-whole second = omega (arith, signed_arith)

-- a local second that is converted to a civil time and back stays the same
civil_seconds-datetime_of : (local : ℤ) → IsEpochDay (day_of local) → civil_seconds (datetime_of local) ≡ local
unfolding civil_seconds datetime_of time_of
civil_seconds-datetime_of local day = omega (arith, signed_arith, epoch_day-date_of (day_of local) day)

-- if the table has transitions after `from`, the UTC offset at `from` lasts until the first of them
pub offset_between : (z : Table) (from second : ℤ) → count_at z from < vec_len z.transitions → from ≤ℤ second
    → second <ℤ (transition_at z (count_at z from)).second
    → OfTable.offset_at z (nanos_of_seconds second) ≡ (type_after z (count_at z from)).offset
offset_between z from second some begun within = grind (arith, signed_arith, floor_second-whole, count_stays, no_rule)

-- if `local` is at least 93,599 seconds after `from`, and more than 93,599 seconds before the next transition after
-- `from`, then its civil time is unambiguous, with the UTC offset at `from`
ambiguous_between : (z : Table) (from local : ℤ) → IsEpochDay (day_of local) → count_at z from < vec_len z.transitions → (from +ℤ pos 93_599) ≤ℤ local
    → (local +ℤ pos 93_599) <ℤ (transition_at z (count_at z from)).second
    → OfTable.ambiguous_at z (datetime_of local) ≡ Unambiguous (type_after z (count_at z from)).offset
ambiguous_between z from local day some begun within =
    grind (arith, signed_arith, civil_seconds-datetime_of, civil_count_stays, outside, no_rule)

-- if `local` is at least 93,599 seconds after `from`, and more than 93,599 seconds before the next transition after
-- `from`, then its place is `local` minus the UTC offset at `from`
pub place_of-between : (z : Table) (from local : ℤ) → IsLocalSecond local → count_at z from < vec_len z.transitions → (from +ℤ pos 93_599) ≤ℤ local
    → (local +ℤ pos 93_599) <ℤ (transition_at z (count_at z from)).second
    → place_of (zone_of_table z) local ≡ Some (local -ℤ (type_after z (count_at z from)).offset.seconds)
unfolding offset_at ambiguous_at
place_of-between z from local within_years some begun within =
    let day : IsEpochDay (day_of local) = (omega (arith, signed_arith), omega (arith, signed_arith)) in
    let offset : Offset = (type_after z (count_at z from)).offset in
    place_of-tried (zone_of_table z) local _ (ambiguous_between z from local day some begun within)
    ∙ place_at-there (zone_of_table z) local offset
    (ap (λ o. o.seconds) (offset_between z from (local -ℤ offset.seconds) some
    (let in_range = offset.in_range in omega (arith, signed_arith))
    (let in_range = offset.in_range in omega (arith, signed_arith))))

-- In the lemmas whose names end in `_of_copy`, and in `ordered_copy`, `rows` is a copy of the transitions of a table,
-- with the same contents. The function `transitions` of a table returns such a copy. By `length_of_copy`, the copy has
-- as many transitions as the table.
pub length_of_copy : (z : Table) (rows : List Transition) → map transition_text rows ≡ map transition_text z.transitions.items → length rows ≡ vec_len z.transitions
length_of_copy z rows copy = grind (arith, signed_arith, length-map)

-- a transition in a copy has the same content as the transition of the table with the same index
pub transition_of_copy : (z : Table) (rows : List Transition) → map transition_text rows ≡ map transition_text z.transitions.items
    → (row : ℕ) (d : Transition) → row < length rows → transition_text (get_or rows row d) ≡ transition_text (transition_at z row)
transition_of_copy z rows copy row d l =
    let many : length rows ≡ vec_len z.transitions = length_of_copy z rows copy in
    sym (get_or-map transition_text rows row d no_row l)
    ∙ ap (λ texts. get_or texts row no_row) copy
    ∙ get_or-map transition_text z.transitions.items row (no_transition z) no_row (omega arith)

-- the transitions in a copy are in ascending order, as they are in the table
pub ordered_copy : (z : Table) (rows : List Transition) → map transition_text rows ≡ map transition_text z.transitions.items
    → (row later : ℕ) (d : Transition) → row ≤ later → later < length rows → (get_or rows row d).second ≤ℤ (get_or rows later d).second
ordered_copy z rows copy row later d le l = grind (arith, signed_arith, seconds_rise)

-- a copy has the same number of transitions at or before `second` as the table
pub count_of_copy : (z : Table) (rows : List Transition) → map transition_text rows ≡ map transition_text z.transitions.items
    → (second : ℤ) (count : ℕ) (d : Transition) → count ≤ length rows → IsPartitionPoint (λ t. int_le t.second second ≡ true) (λ t. int_le t.second second ≡ false) rows count
    → count ≡ count_at z second
count_of_copy z rows copy second count d bound point =
    let many : length rows ≡ vec_len z.transitions = length_of_copy z rows copy in
    sym (prefix_len_is (λ t. int_le t.second second) z.transitions.items count (no_transition z) (omega arith)
    (λ row l. sym (ap (λ text. int_le text.second second) (transition_of_copy z rows copy row d (omega arith))) ∙ point.0 row d (omega arith) l)
    (λ l. sym (ap (λ text. int_le text.second second) (transition_of_copy z rows copy count d (omega arith))) ∙ point.1 count d (omega arith) (omega arith)))

-- after one or more transitions of a table, the local time type is the one that the last of these transitions sets
pub type_after-last : (z : Table) (rows : ℕ) → 0 < rows → type_after z rows ≡ (transition_at z (rows - 1)).after
type_after-last z rows some = grind (arith, signed_arith)

-- if the clock behaves the same around `local` and `other`, and `other` has a place, then `local` has a place too, and
-- both differ from their places by the same number of seconds
pub place_of-same_offsets : (tz : TimeZone) (local other place : ℤ) → HaveSameOffsets tz local other → place_of tz other ≡ Some place → place_of tz local ≡ Some (local -ℤ (other -ℤ place))
unfolding settle_of
place_of-same_offsets tz local other place same_offsets placed =
    let offsets : AmbiguousOffset = ambiguous_at tz (datetime_of other) in
    let offset : Offset = compatible_offset offsets in
    let settled : other -ℤ offset.seconds ≡ place = (place_of-Some tz other place placed).0 in
    let ahead = by_the_offset tz other place placed in
    let there : offset_at tz (nanos_of_seconds (other -ℤ offset.seconds)) ≡ offset.seconds = ap (λ second. offset_at tz (nanos_of_seconds second)) settled ∙ sym ahead ∙ omega (arith, signed_arith) in
    place_of-tried tz local offsets same_offsets.civil
    ∙ place_at-there tz local offset (same_offsets.instants offset ∙ there)
    ∙ ap Some (omega (arith, signed_arith))

ambiguous_standard : (std : Offset) (dst : Option Dst) (shown : DateTime) → dst ≡ None → ambiguous_at_by std dst shown ≡ Unambiguous std
ambiguous_standard std dst shown none = rw none refl

dst_never : (std : Offset) (dst : Option Dst) (n : ℤ) → dst ≡ None → dst_at_by std dst n ≡ None
dst_never std dst n none = rw none refl

pub offset_standard : (rule : Posix) (n : ℤ) → rule.dst ≡ None → ByPosix.offset_at rule n ≡ rule.std_offset
offset_standard rule n none = rw (dst_never rule.std_offset rule.dst n none) refl

-- under a rule without daylight saving time, the clock behaves the same around all local seconds
pub same_offsets_standard : (rule : Posix) (local other : ℤ) → rule.dst ≡ None → HaveSameOffsets (ByRule rule) local other
unfolding offset_at ambiguous_at
same_offsets_standard rule local other none = grind (arith, signed_arith, ambiguous_standard, offset_standard)

-- The clock behaves the same around `local` and `other` under the POSIX rule of a table. If the table has no rule,
-- nothing is required.
abbrev pub HaveSameOffsetsBy : Option Posix → ℤ → ℤ → Type 0
HaveSameOffsetsBy None local other = Unit {0}
HaveSameOffsetsBy (Some rule) local other = HaveSameOffsets (ByRule rule) local other

civil_same_offsets : (rule : Option Posix) (offset : Offset) (local other : ℤ) → HaveSameOffsetsBy rule local other
    → match_some rule (Unambiguous offset) (λ tz. ByPosix.ambiguous_at tz (datetime_of local)) ≡ match_some rule (Unambiguous offset) (λ tz. ByPosix.ambiguous_at tz (datetime_of other))
unfolding ambiguous_at
civil_same_offsets None offset local other h = refl
civil_same_offsets (Some rule) offset local other h = h.civil

instants_same_offsets : (rule : Option Posix) (type offset : Offset) (local other : ℤ) → HaveSameOffsetsBy rule local other
    → (match_some rule type (λ tz. ByPosix.offset_at tz (nanos_of_seconds (local -ℤ offset.seconds)))).seconds ≡ (match_some rule type (λ tz. ByPosix.offset_at tz (nanos_of_seconds (other -ℤ offset.seconds)))).seconds
unfolding offset_at
instants_same_offsets None type offset local other h = refl
instants_same_offsets (Some rule) type offset local other h = h.instants offset

-- if all transitions are at or before `from`, they are also at or before any later second
pub count_after_table : (z : Table) (from second : ℤ) → vec_len z.transitions ≤ count_at z from → from ≤ℤ second → count_at z second ≡ vec_len z.transitions
count_after_table z from second all begun =
    prefix_len_is (λ t. int_le t.second second) z.transitions.items (vec_len z.transitions) (no_transition z) (omega arith)
    (λ row l. le_yes (transition_at z row).second second (omega (arith, signed_arith, transition_passed z from row (omega arith))))
    (λ l. absurd (omega arith))

civil_count_after_table : (z : Table) (from local : ℤ) → vec_len z.transitions ≤ count_at z from → (from +ℤ pos 93_599) ≤ℤ local → civil_count_at z local ≡ vec_len z.transitions
civil_count_after_table z from local all begun =
    prefix_len_is (λ t. int_le (civil_start t) local) z.transitions.items (vec_len z.transitions) (no_transition z) (omega arith)
    (λ row l. le_yes (civil_start (transition_at z row)) local
    (let near = start_near (transition_at z row) in omega (arith, signed_arith, transition_passed z from row (omega arith))))
    (λ l. absurd (omega arith))

outside_after_table : (z : Table) (from local : ℤ) → vec_len z.transitions ≤ count_at z from → (from +ℤ pos 93_599) ≤ℤ local → is_inside z (vec_len z.transitions) local ≡ false
outside_after_table z from local all begun = outside_after z (vec_len z.transitions) local
    (λ some.
    let near = end_near (transition_at z (vec_len z.transitions - 1)) in
    omega (arith, signed_arith, transition_passed z from (vec_len z.transitions - 1) (omega arith)))

ambiguous_after_table : (z : Table) (from local : ℤ) → IsEpochDay (day_of local) → vec_len z.transitions ≤ count_at z from → (from +ℤ pos 93_599) ≤ℤ local
    → OfTable.ambiguous_at z (datetime_of local) ≡ ambiguous_after z (vec_len z.transitions) (datetime_of local)
ambiguous_after_table z from local day all begun = grind (arith, signed_arith, civil_seconds-datetime_of, civil_count_after_table, outside_after_table)

pub offset_after_table : (z : Table) (from second : ℤ) → vec_len z.transitions ≤ count_at z from → from ≤ℤ second
    → OfTable.offset_at z (nanos_of_seconds second) ≡ match_some (rule_after z (vec_len z.transitions)) (type_after z (vec_len z.transitions)).offset (λ tz. ByPosix.offset_at tz (nanos_of_seconds second))
offset_after_table z from second all begun = grind (arith, signed_arith, floor_second-whole, count_after_table)

pub rule_after_table : (z : Table) → rule_after z (vec_len z.transitions) ≡ z.posix_tz
rule_after_table z = grind (arith, signed_arith, vec_len)

-- Suppose that all transitions are at least 93,599 seconds before `other`, and that `local` isn't before `other`. If
-- the clock behaves the same around `local` and `other` under the POSIX rule of the table, then it also does so in the
-- zone of the table.
pub same_offsets_after_table : (z : Table) (local other : ℤ) → IsLocalSecond local → IsLocalSecond other → vec_len z.transitions ≤ count_at z (other -ℤ pos 93_599) → other ≤ℤ local
    → HaveSameOffsetsBy z.posix_tz local other → HaveSameOffsets (zone_of_table z) local other
unfolding offset_at ambiguous_at
same_offsets_after_table z local other local_in other_in all begun same_offsets =
    let from : ℤ = other -ℤ pos 93_599 in
    let type : Offset = (type_after z (vec_len z.transitions)).offset in
    let by_rule : HaveSameOffsetsBy (rule_after z (vec_len z.transitions)) local other = rw (rule_after_table z) same_offsets in
    record {
      civil = ambiguous_after_table z from local (omega (arith, signed_arith), omega (arith, signed_arith)) all (omega (arith, signed_arith))
          ∙ civil_same_offsets (rule_after z (vec_len z.transitions)) type local other by_rule
          ∙ sym (ambiguous_after_table z from other (omega (arith, signed_arith), omega (arith, signed_arith)) all (omega (arith, signed_arith)));
      instants = λ offset.
          let in_range = offset.in_range in
          ap (λ o. o.seconds) (offset_after_table z from (local -ℤ offset.seconds) all (omega (arith, signed_arith)))
          ∙ instants_same_offsets (rule_after z (vec_len z.transitions)) type offset local other by_rule
          ∙ sym (ap (λ o. o.seconds) (offset_after_table z from (other -ℤ offset.seconds) all (omega (arith, signed_arith))));
    }

pub same_offsets_without_rule : (rule : Option Posix) (local other : ℤ) → None ≡ option_map tz_view rule → HaveSameOffsetsBy rule local other
same_offsets_without_rule rule local other e = rw (none_by_view tz_view rule e) tt

pub same_offsets_without_dst : (rule : Option Posix) (given : Posix) (local other : ℤ) → Some (tz_view given) ≡ option_map tz_view rule → given.dst ≡ None → HaveSameOffsetsBy rule local other
same_offsets_without_dst None given local other e none = absurd (cc)
same_offsets_without_dst (Some rule) given local other e none =
    let same : tz_view given ≡ tz_view rule = cc in
    same_offsets_standard rule local other (none_by_view dst_view rule.dst (ap (option_map dst_view) (sym none) ∙ ap (λ text. text.dst) same))

-- if all transitions are at least 374,397 seconds before a local second, they are at least 93,599 seconds before it
pub all_later : (z : Table) (local : ℤ) → vec_len z.transitions ≤ count_at z (local -ℤ pos 374_397) → vec_len z.transitions ≤ count_at z (local -ℤ pos 93_599)
all_later z local all = grind (arith, signed_arith, count_after_table)
