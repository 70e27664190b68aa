-- Lemmas about collecting the notes about expressions, one expression after another, and about returning the earliest.
use Rattle.std.proofs.Common.{◌≡◌, ℕ, ◌+◌, ◌<◌, ◌⊎◌, inl, inr, Bool, true, false, List, ℤ, ◌<ℤ◌, ◌≤ℤ◌, Some, length, map, get_or, take, sym, ap, subst, ◌∙◌, refl, arith}
use Rattle.std.specs.Option.{option_map}
use Rattle.std.specs.Prelude.{slice_get, IsSorted, IsPermutation}
use Rattle.std.specs.List.{All, AllWithin, Contains}
use Rattle.std.specs.Cmp.{IsTotalOrder, int_ranks}
use Rattle.std.specs.Ordering.{MatchOrdering, int_cmp, is_lt, nat_cmp, ordering_then}
use Rattle.std.specs.declared.cmp.Ordering.{Ordering}
use Rattle.std.specs.declared.cmp.Ordering.TheVariants.{Less, Equal, Greater}
use Rattle.std.proofs.lemmas.Bool.{cases_lt, false≢true}
use Rattle.std.proofs.lemmas.Cmp.{int_cmp_total, nat_cmp_total, on_total, then_total}
use Rattle.std.proofs.lemmas.Int.{ints}
use Rattle.std.proofs.lemmas.Option.{get_or_from_slice_get, slice_get-get_or, slice_get-map}
use Rattle.std.proofs.lemmas.List.{get_or-map, get_or-take, get_or_default, length-map, length-take, length-take-le}
use Rattle.std.proofs.lemmas.List.Elements.{All-contains, All-take, All-weaker, AllWithin-more}
use Rattle.std.proofs.lemmas.List.Sorted.{All-permutation, Contains-permutation, length_permutation, ranks_by, sorted_far}
use Rattle.jiff.specs.Types.{TimeZone}
use Rattle.cal_spec.specs.rules.Fields.{Fields}
use Rattle.cal_spec.specs.rules.Members.{sets_of}
use Rattle.cal_spec.specs.rules.ZoneSuffix.{name_in}
use Rattle.cal_timer.specs.rules.TimerEntries.{TimerLine}
use Rattle.cal_timer.specs.rules.TimerView.{shown}
use Rattle.cal_timer.specs.declared.timer.TimerLine as declared_line
use Rattle.cal_zone.specs.rules.Setting.{Setting}
use Rattle.cal_plan.specs.rules.ZoneFor.{zone_for}
use Rattle.cal_tasks.specs.rules.ClockNotes.{AreNotesOf, IsCovered, IsNoteAmong, IsZoneOf, by_local, limit_if, max_notes}
use Rattle.cal_tasks.specs.computed.KeptNotes.{AreInOneZone, IsNoteAfter, KeepsAllOf, max_kept}
use Rattle.cal_tasks.specs.declared.clock_note.ClockNote.{ClockNote}

-- if `line` is at index `i` of `lines`, then `shown line`, which is what contracts see of it, is at index `i` of `map
-- shown lines`
seen_at : (lines : List declared_line.TimerLine) (i : ℕ) (line : declared_line.TimerLine) → i < length lines → line ≡ get_or lines i line → slice_get (map shown lines) i ≡ Some (shown line)
seen_at lines i line h is = slice_get-map shown lines i ∙ ap (option_map shown) (slice_get-get_or lines i line h ∙ ap Some (sym is))

pub one_zone : (lines : List declared_line.TimerLine) (one other : ℕ) (a b : declared_line.TimerLine) → one < length lines → a ≡ get_or lines one a → b ≡ get_or lines other b
    → name_in a.expr.zone ≡ name_in b.expr.zone → AreInOneZone lines one other
one_zone lines one other a b h at there same line found =
    let is : line ≡ b = sym (get_or_from_slice_get lines other line b found) ∙ sym there in
    (shown a, seen_at lines one a h at, same ∙ ap (λ (l : declared_line.TimerLine). name_in l.expr.zone) (sym is))

pub own_zone : (lines : List declared_line.TimerLine) (i : ℕ) → AreInOneZone lines i i
own_zone lines i line found = (shown line, slice_get-map shown lines i ∙ ap (option_map shown) found, refl)

line_among : (lines : List declared_line.TimerLine) (i : ℕ) (line : declared_line.TimerLine) → i < length lines → line ≡ get_or lines i line → Contains (map shown lines) (shown line)
line_among lines i line h is =
    let below : i < length (map shown lines) = rw (length-map lines shown) h in
    (i, below, get_or-map shown lines i line (shown line) h ∙ ap shown (sym is))

-- if each note is about one of the expressions, this is still true after notes about the expression at `i` are added
pub notes_of_line : (at : Setting) (now : ℤ) (lines : List declared_line.TimerLine) (i zone : ℕ) (line : declared_line.TimerLine) (tz : TimeZone) (old new : List ClockNote) → i < length lines → line ≡ get_or lines i line
    → zone_for at (shown line).expr.zone ≡ Some tz → AreInOneZone lines zone i → KeepsAllOf tz (sets_of (shown line).expr) now zone old new → All (IsNoteAmong at now (map shown lines)) old
    → All (IsNoteAmong at now (map shown lines)) new
notes_of_line at now lines i zone line tz old new h is zoned same keeps before =
    let P = IsNoteAmong at now (map shown lines) in
    let found : slice_get lines i ≡ Some line = slice_get-get_or lines i line h ∙ ap Some (sym is) in
    All-weaker (λ (note : ClockNote). Contains old note ⊎ IsNoteAfter tz (sets_of (shown line).expr) now zone note) P
    (λ note cases. elim cases as (λ _. P note) [
      | inl was ↦ All-contains P old note before was
      | inr after ↦ record {
        line = shown line;
        among = line_among lines i line h is;
        zone = subst (λ (k : ℕ). IsZoneOf (map shown lines) k (shown line)) (sym after.of.in_zone) (same line found);
        tz = tz;
        zoned = zoned;
        change = after.change;
        is_change = after.is_change;
        later = after.later;
        noted = after.of.noted;
      }
    ]) new keeps.sound

-- if no note about the expressions before `i` was missing, then none about the expressions up to `i` is missing after
-- the notes about the expression at `i` were added
pub all_of_line : (at : Setting) (now : ℤ) (lines : List declared_line.TimerLine) (i zone : ℕ) (line : declared_line.TimerLine) (tz : TimeZone) (old new : List ClockNote) → i < length lines → line ≡ get_or lines i line
    → zone_for at (shown line).expr.zone ≡ Some tz → AreInOneZone lines zone i → KeepsAllOf tz (sets_of (shown line).expr) now zone old new → AllWithin (AreNotesOf at now (map shown lines) max_kept old) (map shown lines) 0 i
    → AllWithin (AreNotesOf at now (map shown lines) max_kept new) (map shown lines) 0 (i + 1)
all_of_line at now lines i zone line tz old new h is zoned same keeps before =
    let Q = AreNotesOf at now (map shown lines) max_kept new in
    let found : slice_get lines i ≡ Some line = slice_get-get_or lines i line h ∙ ap Some (sym is) in
    let still : AllWithin Q (map shown lines) 0 i
    = λ k d low high.
    let was = before k d low high in
    record {
      tz = was.tz;
      zoned = was.zoned;
      zone = was.zone;
      zone_of = was.zone_of;
      changes = was.changes;
      are_next = was.are_next;
      covered = λ j e below local kind noted. keeps.keeps (record { local = local; change = kind; zone = was.zone }) (was.covered j e below local kind noted);
    } in
    let here : Q (shown line)
    = record {
      tz = tz;
      zoned = zoned;
      zone = zone;
      zone_of = same line found;
      changes = keeps.changes;
      are_next = keeps.are_next;
      covered = keeps.covered;
    } in
    AllWithin-more Q (map shown lines) 0 i still
    (λ d. subst Q (sym (get_or-map shown lines i line d h ∙ ap shown (sym is))) here)

not_lower : (x y : ℤ) (r ties : Ordering) → MatchOrdering r (x <ℤ y) (x ≡ y) (y <ℤ x) → is_lt (ordering_then r ties) ≡ false → y ≤ℤ x
not_lower x y Less ties m e = absurd (false≢true (sym e))
not_lower x y Equal ties m e = omega (arith, ints)
not_lower x y Greater ties m e = omega (arith, ints)

by_local_total : IsTotalOrder by_local
by_local_total = then_total (on_total (λ (note : ClockNote). note.local) int_cmp_total) (on_total (λ (note : ClockNote). note.zone) nat_cmp_total)

-- the first `max_notes` notes of a sorted list cover what the whole list covers
first_cover : (notes : List ClockNote) (has_more : Bool) (n : ClockNote) → IsSorted by_local notes → (max_notes < length notes → has_more ≡ true) → IsCovered max_kept notes n
    → IsCovered (limit_if has_more) (take max_notes notes) n
first_cover notes has_more n sorted more (inr enough) =
    let long = length-take-le max_notes notes (let many = enough.many in omega arith) in
    rw (more enough.many) (inr (record { many = omega arith; none_later = All-take (λ (kept : ClockNote). kept.local ≤ℤ n.local) max_notes notes enough.none_later }))
first_cover notes has_more n sorted more (inl (k, below, at)) =
    elim (cases_lt k max_notes) [
      | inl inside ↦ inl (k, rw length-take (omega arith), get_or-take max_notes notes k n inside ∙ at)
      | inr outside ↦ (
          let long = length-take-le max_notes notes (omega arith) in
          rw (more (omega arith)) (inr (record {
            many = omega arith;
            none_later = λ j d early.
                let first : j < max_notes = omega arith in
                let here = ap (λ (x : ClockNote). x.local) (get_or-take max_notes notes j d first) in
                let there = ap (λ (x : ClockNote). x.local) (get_or_default notes k d n below ∙ at) in
                let x = get_or notes k d in
                let y = get_or notes j d in
                let order = not_lower x.local y.local (int_cmp x.local y.local) (nat_cmp x.zone y.zone) (int_ranks x.local y.local)
                (sorted_far (λ (x y : ClockNote). is_lt (by_local x y)) (ranks_by by_local_total (λ (note : ClockNote). note)) notes sorted j k d (omega arith) below) in
                omega (arith, ints);
          })))
    ]

permuted : (old new : List ClockNote) (n : ClockNote) → IsPermutation old new → IsCovered max_kept old n → IsCovered max_kept new n
permuted old new n same (inl at) = inl (Contains-permutation old new n same at)
permuted old new n same (inr enough) =
    let long = length_permutation old new same in
    let many = enough.many in
    inr (record { many = omega arith; none_later = All-permutation (λ (kept : ClockNote). kept.local ≤ℤ n.local) old new same enough.none_later })

-- if no note about an expression is missing, none is missing after the notes are sorted and all but the first
-- `max_notes` are left out
pub all_sorted : (at : Setting) (now : ℤ) (lines list : List (TimerLine Fields)) (old new : List ClockNote) (has_more : Bool) → IsPermutation old new → IsSorted by_local new → (max_notes < length new → has_more ≡ true)
    → All (AreNotesOf at now lines max_kept old) list → All (AreNotesOf at now lines (limit_if has_more) (take max_notes new)) list
all_sorted at now lines list old new has_more same sorted more all =
    All-weaker (AreNotesOf at now lines max_kept old) (AreNotesOf at now lines (limit_if has_more) (take max_notes new))
    (λ line was. record {
      tz = was.tz;
      zoned = was.zoned;
      zone = was.zone;
      zone_of = was.zone_of;
      changes = was.changes;
      are_next = was.are_next;
      covered = λ j e below local kind noted.
          first_cover new has_more (record { local = local; change = kind; zone = was.zone }) sorted more (permuted old new (record { local = local; change = kind; zone = was.zone }) same (was.covered j e below local kind noted));
    }) list all
