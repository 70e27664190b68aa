-- Lemmas about keeping the earliest notes.
use Rattle.std.proofs.Common.{◌≡◌, ℕ, ◌+◌, ◌<◌, ◌≤◌, ◌⊎◌, inl, inr, List, length, get_or, set, ◌<ℤ◌, ◌≤ℤ◌, sym, ap, ◌∙◌, refl, arith}
use Rattle.std.proofs.lemmas.Int.{ints, by_lt_z}
use Rattle.std.proofs.lemmas.Bool.{cases_eq}
use Rattle.std.proofs.lemmas.List.{get_or-set_same, get_or-set_other, get_or_default, length-set}
use Rattle.std.proofs.lemmas.List.Elements.{All-set, All-weaker, All-contains_itself, AllWithin-more, AllWithin-none}
use Rattle.std.specs.List.{AllWithin, Contains}
use Rattle.cal_tasks.specs.rules.ClockNotes.{AreEnough}
use Rattle.cal_tasks.specs.computed.KeptNotes.{IsLatest, Keeps, KeepsCovered, max_kept}
use Rattle.cal_tasks.specs.declared.clock_note.ClockNote.{ClockNote}

-- `note` is earlier than the note at `i`
abbrev IsEarlier : List ClockNote → ℕ → ClockNote → Type 0
IsEarlier notes i note = (d : ClockNote) → note.local <ℤ (get_or notes i d).local

dropped : (notes : List ClockNote) (note : ClockNote) (i : ℕ) (n : ClockNote) → IsLatest notes i → IsEarlier notes i note → max_kept ≤ length notes
    → get_or notes i n ≡ n → AreEnough max_kept (set notes i note) n.local
dropped notes note i n is lower many at =
    let later = lower n in
    let same = ap (λ (x : ClockNote). x.local) at in
    record {
      many = rw length-set many;
      none_later = All-set (λ (kept : ClockNote). kept.local ≤ℤ n.local) notes i note (omega (arith, ints))
          (All-weaker (λ (kept : ClockNote). kept.local ≤ℤ (get_or notes i n).local) (λ (kept : ClockNote). kept.local ≤ℤ n.local) (λ kept le. omega (arith, ints)) notes (is.latest n));
    }

keeps_replaced : (notes : List ClockNote) (note : ClockNote) (i : ℕ) → IsLatest notes i → IsEarlier notes i note → max_kept ≤ length notes → KeepsCovered notes (set notes i note)
keeps_replaced notes note i is lower many n (inr enough) =
    let top = enough.none_later i note is.inside in
    let later = lower note in
    inr (record { many = rw length-set many; none_later = All-set (λ (kept : ClockNote). kept.local ≤ℤ n.local) notes i note (omega (arith, ints)) enough.none_later })
keeps_replaced notes note i is lower many n (inl (k, below, at)) =
    elim (cases_eq k i) [
      | inl same ↦ inr (dropped notes note i n is lower many (ap (λ (j : ℕ). get_or notes j n) (sym same) ∙ at))
      | inr other ↦ inl (k, rw length-set below, get_or-set_other notes i k note n other ∙ at)
    ]

-- if there are enough notes, and `note` is earlier than the latest one, `Keeps` holds after `note` replaces the latest
-- one
pub replaced : (notes : List ClockNote) (note : ClockNote) (i : ℕ) → max_kept ≤ length notes → (AreEnough max_kept notes note.local → ⊥) → IsLatest notes i → Keeps notes note (set notes i note)
replaced notes note i many few is =
    let late : (d : ClockNote) → (get_or notes i d).local ≤ℤ note.local → ⊥
    = λ d le. few (record { many = many; none_later = All-weaker (λ (kept : ClockNote). kept.local ≤ℤ (get_or notes i d).local) (λ (kept : ClockNote). kept.local ≤ℤ note.local) (λ kept at. omega (arith, ints)) notes (is.latest d) }) in
    let lower : IsEarlier notes i note = λ d. by_lt_z note.local (get_or notes i d).local (λ lt. lt) (λ le. absurd (late d le)) in
    record {
      sound = All-set (λ (kept : ClockNote). Contains notes kept ⊎ (kept ≡ note)) notes i note (inr refl) (All-weaker (λ (kept : ClockNote). Contains notes kept) (λ (kept : ClockNote). Contains notes kept ⊎ (kept ≡ note)) (λ kept at. inl at) notes (All-contains_itself notes));
      covered = inl (i, rw length-set is.inside, get_or-set_same notes i note note is.inside);
      keeps = keeps_replaced notes note i is lower many;
    }

local_at : (notes : List ClockNote) (i : ℕ) (d e : ClockNote) → i < length notes → (get_or notes i d).local ≡ (get_or notes i e).local
local_at notes i d e below = ap (λ (x : ClockNote). x.local) (get_or_default notes i d e below)

-- none of the notes before `i` is later than the one at `index`
pub record IsLatestBefore (notes : List ClockNote) (i index : ℕ) : Type 0 where
  pub inside : index < length notes
  pub none_later : (d : ClockNote) → AllWithin (λ (kept : ClockNote). kept.local ≤ℤ (get_or notes index d).local) notes 0 i

-- if no note up to the one at `i` is later than the one at `index`, `IsLatestBefore` holds for `i + 1` and `index`
pub still_latest : (notes : List ClockNote) (i index : ℕ) (d₀ : ClockNote) → i < length notes → (get_or notes i d₀).local ≤ℤ (get_or notes index d₀).local → IsLatestBefore notes i index → IsLatestBefore notes (i + 1) index
still_latest notes i index d₀ more le is = record {
  inside = is.inside;
  none_later = λ d. AllWithin-more (λ (kept : ClockNote). kept.local ≤ℤ (get_or notes index d).local) notes 0 i (is.none_later d)
      (λ e. let here = local_at notes i e d₀ more in let last = local_at notes index d d₀ is.inside in omega (arith, ints));
}

-- if no note before the one at `i` is later than the one at `index`, and the one at `i` isn't earlier than the one at
-- `index`, then `IsLatestBefore` holds for `i + 1` and `i`
pub next_latest : (notes : List ClockNote) (i index : ℕ) (d₀ : ClockNote) → i < length notes → (get_or notes index d₀).local ≤ℤ (get_or notes i d₀).local → IsLatestBefore notes i index → IsLatestBefore notes (i + 1) i
next_latest notes i index d₀ more le is = record {
  inside = more;
  none_later = λ d. AllWithin-more (λ (kept : ClockNote). kept.local ≤ℤ (get_or notes i d).local) notes 0 i
      (λ k e low high. let here = is.none_later d k e low high in let new = local_at notes i d d₀ more in let last = local_at notes index d d₀ is.inside in omega (arith, ints))
      (λ e. let same = local_at notes i e d more in omega (arith, ints));
}

pub first_latest : (notes : List ClockNote) → 0 < length notes → IsLatestBefore notes 1 0
first_latest notes more = record {
  inside = more;
  none_later = λ d. AllWithin-more (λ (kept : ClockNote). kept.local ≤ℤ (get_or notes 0 d).local) notes 0 0
      (AllWithin-none (λ (kept : ClockNote). kept.local ≤ℤ (get_or notes 0 d).local) notes 0)
      (λ e. let same = local_at notes 0 e d more in omega (arith, ints));
}

pub last_latest : (notes : List ClockNote) (i index : ℕ) → length notes ≤ i → IsLatestBefore notes i index → IsLatest notes index
last_latest notes i index end is = record {
  inside = is.inside;
  latest = λ d k e below. is.none_later d k e (omega arith) (omega arith);
}
