-- Lemmas about collecting the notes about a change, one matching local time after another, and about one change after
-- another.
use Rattle.std.proofs.Common.{◌≡◌, ℕ, ◌⊎◌, inl, inr, List, [], ◌∷◌, ℤ, ◌+ℤ◌, ◌<ℤ◌, ◌≤ℤ◌, pos, negsuc, Some, None, sym, subst, ◌∙◌, refl, arith}
use Rattle.std.proofs.lemmas.Int.{ints, by_lt_z}
use Rattle.std.proofs.lemmas.Bool.{false≢true}
use Rattle.std.proofs.lemmas.List.Elements.{All-cons, All-contains, All-contains_itself, All-nil, All-weaker}
use Rattle.std.specs.List.{All, Contains}
use Rattle.jiff.specs.Types.{TimeZone}
use Rattle.cal_civil.specs.rules.LocalSecond.{IsLocalSecond, seconds_in_all, seconds_in_all-is}
use Rattle.cal_elapse.specs.rules.Search.{IsFirstLocal}
use Rattle.cal_spec.specs.rules.Match.{Sets, matches}
use Rattle.cal_tasks.specs.rules.ZoneChange.{IsNextChange}
use Rattle.cal_tasks.specs.rules.ClockNotes.{AreEnough, IsChangedBy, IsCovered, IsMatch, IsNoted}
use Rattle.cal_tasks.specs.computed.ClockShift.{IsShiftOf, shift_from, shift_to}
use Rattle.cal_tasks.specs.computed.KeptNotes.{IsNoteAfter, IsNoteOf, Keeps, KeepsAllBefore, KeepsAllOf, max_kept}
use Rattle.cal_tasks.specs.declared.clock_note.ClockChange.{ClockChange}
use Rattle.cal_tasks.specs.declared.clock_note.ClockChange.TheVariants.{Skipped, Repeated}
use Rattle.cal_tasks.specs.declared.clock_note.ClockNote.{ClockNote}
use Rattle.cal_tasks.specs.declared.clock_shift.ClockShift.{ClockShift}

in_gap_or_fold : (tz : TimeZone) (change local from to : ℤ) (k kind : ClockChange) → from ≡ shift_from tz change k → to ≡ shift_to tz change k → from ≤ℤ to → IsChangedBy tz change local kind
    → (kind ≡ k) × (from ≤ℤ local) × (local <ℤ to)
in_gap_or_fold tz change local from to Skipped Skipped first end order is = let low = is.from in let high = is.to in (refl, omega (arith, ints), omega (arith, ints))
in_gap_or_fold tz change local from to Repeated Repeated first end order is = let low = is.from in let high = is.to in (refl, omega (arith, ints), omega (arith, ints))
in_gap_or_fold tz change local from to Skipped Repeated first end order is = let low = is.from in let high = is.to in absurd (omega (arith, ints))
in_gap_or_fold tz change local from to Repeated Skipped first end order is = let low = is.from in let high = is.to in absurd (omega (arith, ints))

-- a local time that a change skips or repeats is in the gap or fold of the change
in_shift : (tz : TimeZone) (change : ℤ) (shift : ClockShift) (local : ℤ) (kind : ClockChange) → IsShiftOf tz change shift → IsChangedBy tz change local kind
    → (kind ≡ shift.kind) × (shift.from ≤ℤ local) × (local <ℤ shift.to)
in_shift tz change shift local kind is changed = in_gap_or_fold tz change local shift.from shift.to shift.kind kind is.first is.end is.order changed

-- no local second between the start of a search and the first match that it finds is a match
none_between : (sets : Sets) (next local : ℤ) (l : ℤ) → IsFirstLocal (matches sets) next (Some local) → next ≤ℤ l → l <ℤ local → IsMatch sets l → ⊥
none_between sets next local (pos t) first low high is = false≢true (sym (first.3 t low high) ∙ is.1)
none_between sets next local (negsuc t) first low high is = let zero = is.0.0 in omega (arith, ints)

none_after : (sets : Sets) (next : ℤ) (l : ℤ) → IsFirstLocal (matches sets) next None → next ≤ℤ l → IsMatch sets l → ⊥
none_after sets next (pos t) none low is = let high = is.0.1 in let all = seconds_in_all-is in false≢true (sym (none t low (omega (arith, ints))) ∙ is.1)
none_after sets next (negsuc t) none low is = let zero = is.0.0 in omega (arith, ints)

extended : (tz : TimeZone) (sets : Sets) (change : ℤ) (zone : ℕ) (next end : ℤ) (old new : List ClockNote) → KeepsAllBefore tz sets change zone next old new
    → ((l : ℤ) (kind : ClockChange) → next ≤ℤ l → l <ℤ end → IsNoted tz sets change l kind → IsCovered max_kept new (record { local = l; change = kind; zone = zone }))
    → KeepsAllBefore tz sets change zone end old new
extended tz sets change zone next end old new is more = record {
  sound = is.sound;
  covered = λ l kind below noted. by_lt_z l next (λ lt. is.covered l kind lt noted) (λ ge. more l kind ge below noted);
  keeps = is.keeps;
}

kept_also : (tz : TimeZone) (sets : Sets) (change : ℤ) (zone : ℕ) (next : ℤ) (old mid new : List ClockNote) (note : ClockNote) → KeepsAllBefore tz sets change zone next old mid → Keeps mid note new
    → IsNoteOf tz sets change zone note → KeepsAllBefore tz sets change zone next old new
kept_also tz sets change zone next old mid new note is keeps of =
    let P : ClockNote → Type 0 = λ kept. Contains old kept ⊎ IsNoteOf tz sets change zone kept in
    record {
      sound = All-weaker (λ (kept : ClockNote). Contains mid kept ⊎ (kept ≡ note)) P
          (λ kept at. elim at as (λ _. P kept) [ inl before ↦ All-contains P mid kept is.sound before | inr same ↦ inr (subst (IsNoteOf tz sets change zone) (sym same) of) ]) new keeps.sound;
      covered = λ l kind below noted. keeps.keeps (record { local = l; change = kind; zone = zone }) (is.covered l kind below noted);
      keeps = λ n was. keeps.keeps n (is.keeps n was);
    }

-- at the start, the notes cover all local times before `next`, since the change skips or repeats none of them
pub none_kept : (tz : TimeZone) (sets : Sets) (change : ℤ) (zone : ℕ) (shift : ClockShift) (next : ℤ) (old : List ClockNote) → IsShiftOf tz change shift → (next ≤ℤ shift.from) ⊎ (next ≤ℤ pos 0)
    → KeepsAllBefore tz sets change zone next old old
none_kept tz sets change zone shift next old is low = record {
  sound = All-weaker (λ (kept : ClockNote). Contains old kept) (λ (kept : ClockNote). Contains old kept ⊎ IsNoteOf tz sets change zone kept) (λ kept at. inl at) old (All-contains_itself old);
  covered = λ l kind below noted.
      let inside = in_shift tz change shift l kind is noted.changed in
      let from = inside.1 in
      let zero = noted.is_match.0.0 in
      absurd (elim low [ inl a ↦ omega (arith, ints) | inr b ↦ omega (arith, ints) ]);
  keeps = λ n was. was;
}

-- if the next match is past the gap or fold, the notes cover all matching local times that the change skips or repeats
pub all_kept : (tz : TimeZone) (sets : Sets) (change : ℤ) (zone : ℕ) (shift : ClockShift) (next local : ℤ) (old new : List ClockNote) → IsShiftOf tz change shift → IsFirstLocal (matches sets) next (Some local)
    → shift.to ≤ℤ local → KeepsAllBefore tz sets change zone next old new → KeepsAllBefore tz sets change zone (pos seconds_in_all) old new
all_kept tz sets change zone shift next local old new is first past kept =
    extended tz sets change zone next (pos seconds_in_all) old new kept
    (λ l kind low high noted.
    let inside = in_shift tz change shift l kind is noted.changed in
    let to = inside.2 in
    absurd (none_between sets next local l first low (omega (arith, ints)) noted.is_match))

-- if there are enough notes up to the next match, the notes cover all later local times, too
pub enough_kept : (tz : TimeZone) (sets : Sets) (change : ℤ) (zone : ℕ) (next local : ℤ) (old new : List ClockNote) → IsFirstLocal (matches sets) next (Some local)
    → AreEnough max_kept new local → KeepsAllBefore tz sets change zone next old new → KeepsAllBefore tz sets change zone (pos seconds_in_all) old new
enough_kept tz sets change zone next local old new first enough kept =
    extended tz sets change zone next (pos seconds_in_all) old new kept
    (λ l kind low high noted. by_lt_z l local (λ lt. absurd (none_between sets next local l first low lt noted.is_match))
    (λ ge. inr (record { many = enough.many; none_later = All-weaker (λ (n : ClockNote). n.local ≤ℤ local) (λ (n : ClockNote). n.local ≤ℤ l) (λ n le. omega (arith, ints)) new enough.none_later })))

pub none_left : (tz : TimeZone) (sets : Sets) (change : ℤ) (zone : ℕ) (next : ℤ) (old new : List ClockNote) → IsFirstLocal (matches sets) next None
    → KeepsAllBefore tz sets change zone next old new → KeepsAllBefore tz sets change zone (pos seconds_in_all) old new
none_left tz sets change zone next old new none kept =
    extended tz sets change zone next (pos seconds_in_all) old new kept (λ l kind low high noted. absurd (none_after sets next l none low noted.is_match))

-- if the change neither skips nor repeats the next match, no note about this match is needed
pub not_changed : (tz : TimeZone) (sets : Sets) (change : ℤ) (zone : ℕ) (shift : ClockShift) (next local : ℤ) (old new : List ClockNote) → IsShiftOf tz change shift → IsFirstLocal (matches sets) next (Some local)
    → (IsChangedBy tz change local shift.kind → ⊥) → KeepsAllBefore tz sets change zone next old new → KeepsAllBefore tz sets change zone (local +ℤ pos 1) old new
not_changed tz sets change zone shift next local old new is first unchanged kept =
    extended tz sets change zone next (local +ℤ pos 1) old new kept
    (λ l kind low high noted. by_lt_z l local (λ lt. absurd (none_between sets next local l first low lt noted.is_match))
    (λ ge.
    let same : l ≡ local = omega (arith, ints) in
    let inside = in_shift tz change shift l kind is noted.changed in
    absurd (unchanged (rw (same, inside.0) at noted.changed))))

-- if the change skips or repeats the next match, and the note about it is kept, the notes cover this match, too
pub one_kept : (tz : TimeZone) (sets : Sets) (change : ℤ) (zone : ℕ) (shift : ClockShift) (next local : ℤ) (old mid new : List ClockNote) → IsShiftOf tz change shift → IsFirstLocal (matches sets) next (Some local)
    → IsLocalSecond local → IsChangedBy tz change local shift.kind → Keeps mid (record { local = local; change = shift.kind; zone = zone }) new → KeepsAllBefore tz sets change zone next old mid
    → KeepsAllBefore tz sets change zone (local +ℤ pos 1) old new
one_kept tz sets change zone shift next local old mid new is first inside changed keeps kept =
    extended tz sets change zone next (local +ℤ pos 1) old new
    (kept_also tz sets change zone next old mid new (record { local = local; change = shift.kind; zone = zone }) kept keeps
    (record { noted = record { is_match = (inside, first.2); changed = changed }; in_zone = refl }))
    (λ l kind low high noted. by_lt_z l local (λ lt. absurd (none_between sets next local l first low lt noted.is_match))
    (λ ge.
    let same : l ≡ local = omega (arith, ints) in
    let inside = in_shift tz change shift l kind is noted.changed in
    rw (same, inside.0) keeps.covered))

-- if the notes cover all matching local times up to the end of 2199, they cover all, since no local time is later
covered_all : (tz : TimeZone) (sets : Sets) (change : ℤ) (zone : ℕ) (old new : List ClockNote) → KeepsAllBefore tz sets change zone (pos seconds_in_all) old new
    → (local : ℤ) (kind : ClockChange) → IsNoted tz sets change local kind → IsCovered max_kept new (record { local = local; change = kind; zone = zone })
covered_all tz sets change zone old new is local kind noted =
    let last = noted.is_match.0.1 in
    let all = seconds_in_all-is in
    is.covered local kind (omega (arith, ints)) noted

sound_after : (tz : TimeZone) (sets : Sets) (now change : ℤ) (zone : ℕ) (old new : List ClockNote) → IsNextChange tz now (Some change) → KeepsAllBefore tz sets change zone (pos seconds_in_all) old new
    → All (λ (note : ClockNote). Contains old note ⊎ IsNoteAfter tz sets now zone note) new
sound_after tz sets now change zone old new next is =
    let Q : ClockNote → Type 0 = λ note. Contains old note ⊎ IsNoteAfter tz sets now zone note in
    All-weaker (λ (note : ClockNote). Contains old note ⊎ IsNoteOf tz sets change zone note) Q
    (λ note at. elim at as (λ _. Q note) [ inl before ↦ inl before | inr of ↦ inr (record { change = change; is_change = next.0; later = next.1; of = of }) ]) new is.sound

-- if the zone has only one more change, no note about the zone is missing once the notes about this change are kept
pub one_change : (tz : TimeZone) (sets : Sets) (now first : ℤ) (zone : ℕ) (old new : List ClockNote) → IsNextChange tz now (Some first) → IsNextChange tz first None
    → KeepsAllBefore tz sets first zone (pos seconds_in_all) old new → KeepsAllOf tz sets now zone old new
one_change tz sets now first zone old new next none is =
    let C : ℤ → Type 0 = λ change. (local : ℤ) (kind : ClockChange) → IsNoted tz sets change local kind → IsCovered max_kept new (record { local = local; change = kind; zone = zone }) in
    record {
      sound = sound_after tz sets now first zone old new next is;
      changes = first ∷ [];
      are_next = (next, none);
      covered = All-cons C first [] (covered_all tz sets first zone old new is) (All-nil C);
      keeps = is.keeps;
    }

-- if the zone has two more changes, no note about them is missing once the notes about each of them are kept
pub two_changes : (tz : TimeZone) (sets : Sets) (now first second : ℤ) (zone : ℕ) (old mid new : List ClockNote) → IsNextChange tz now (Some first) → IsNextChange tz first (Some second)
    → KeepsAllBefore tz sets first zone (pos seconds_in_all) old mid → KeepsAllBefore tz sets second zone (pos seconds_in_all) mid new → KeepsAllOf tz sets now zone old new
two_changes tz sets now first second zone old mid new next then is last =
    let C : ℤ → Type 0 = λ change. (local : ℤ) (kind : ClockChange) → IsNoted tz sets change local kind → IsCovered max_kept new (record { local = local; change = kind; zone = zone }) in
    let Q : ClockNote → Type 0 = λ note. Contains old note ⊎ IsNoteAfter tz sets now zone note in
    let one = next.1 in
    let two = then.1 in
    record {
      sound = All-weaker (λ (note : ClockNote). Contains mid note ⊎ IsNoteOf tz sets second zone note) Q
          (λ note at. elim at as (λ _. Q note) [
            | inl before ↦ All-contains Q mid note (sound_after tz sets now first zone old mid next is) before
            | inr of ↦ inr (record { change = second; is_change = then.0; later = omega (arith, ints); of = of })
          ]) new last.sound;
      changes = first ∷ second ∷ [];
      are_next = (next, then);
      covered = All-cons C first (second ∷ []) (λ local kind noted. last.keeps (record { local = local; change = kind; zone = zone }) (covered_all tz sets first zone old mid is local kind noted))
          (All-cons C second [] (covered_all tz sets second zone mid new last) (All-nil C));
      keeps = λ n was. last.keeps n (is.keeps n was);
    }
