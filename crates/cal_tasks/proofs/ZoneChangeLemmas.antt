-- Lemmas about the UTC offset of a zone, and about what its clock shows.
use Rattle.std.proofs.Common.{◌≡◌, ℤ, ◌-ℤ◌, ◌+ℤ◌, ap, ◌∙◌, ℕ, ◌+◌, ◌≤◌, ◌<ℤ◌, ◌≤ℤ◌, inl, inr, pos, Some, None, refl, sym, arith}
use Rattle.std.proofs.lemmas.Bool.{cases_eq, cases_lt}
use Rattle.std.proofs.lemmas.Int.{ints}
use Rattle.jiff.specs.Types.{TimeZone}
use Rattle.jiff.specs.Words.{nanos_of_seconds, IsOffsetSeconds}
use Rattle.jiff.proofs.SpanFacts.{signed_arith}
use Rattle.cal_zone.proofs.ZoneLemmas.{offset_at-in_range}
use Rattle.cal_zone.specs.declared.civil_fields.Civil.{Civil}
use Rattle.cal_zone.specs.rules.Civil.{civil_of}
use Rattle.cal_zone.specs.rules.Zone.{local_shown_at}
use Rattle.cal_tasks.specs.rules.ZoneChange.{HasSameOffset, IsNextChange, IsZoneChange, days_after, max_days, utc_offset}
use Rattle.cal_zone.specs.rules.Instant.{IsInstant}

-- the UTC offset that `civil_of` returns for a second is the zone's UTC offset at this second
pub civil_of-offset : (tz : TimeZone) (second : ℤ) (shown : Civil) → shown ≡ civil_of tz second → shown.offset ≡ utc_offset tz second
unfolding civil_of
civil_of-offset tz second shown e = ap (λ (s : Civil). s.offset) e

-- the local second that the clock shows differs from the second of Unix time by at most 25:59:59
pub shown_near : (tz : TimeZone) (second : ℤ) → IsOffsetSeconds (local_shown_at tz second -ℤ second)
unfolding local_shown_at
shown_near tz second =
    let range = offset_at-in_range tz (nanos_of_seconds second) in
    (omega (arith, signed_arith, range.0), omega (arith, signed_arith, range.1))

-- if the clock shows `shown` at `second`, it shows `local` at `other`, provided that `other` is `second` and `local` is
-- `shown`
pub shown_same : (tz : TimeZone) (second other shown local : ℤ) → local_shown_at tz second ≡ shown → other ≡ second → shown ≡ local → local_shown_at tz other ≡ local
shown_same tz second other shown local is same now = ap (local_shown_at tz) same ∙ is ∙ now

-- On each day so far, the UTC offset was the one at `after`. `from` is `days` days after `after`.
pub record IsSameUntil (tz : TimeZone) (after from : ℤ) (days : ℕ) : Type 0 where
  pub at : from ≡ days_after after days
  pub same : (k : ℕ) → k ≤ days → HasSameOffset tz after k

same_at : (tz : TimeZone) (after second : ℤ) (k : ℕ) → second ≡ days_after after k → utc_offset tz second ≡ utc_offset tz after → HasSameOffset tz after k
same_at tz after second k is same = ap (utc_offset tz) (sym is) ∙ same

pub same_at_start : (tz : TimeZone) (after : ℤ) → IsSameUntil tz after after 0
same_at_start tz after = record {
  at = omega (arith, ints);
  same = λ k none. same_at tz after after k (omega (arith, ints)) refl;
}

pub same_next_day : (tz : TimeZone) (after from to : ℤ) (days : ℕ) → to ≡ from +ℤ pos 86_400 → utc_offset tz to ≡ utc_offset tz after → IsSameUntil tz after from days → IsSameUntil tz after to (days + 1)
same_next_day tz after from to days next same is =
    let at = is.at in
    record {
      at = omega (arith, ints);
      same = λ k until. elim (cases_eq k (days + 1)) [
        | inl last ↦ same_at tz after to k (omega (arith, ints)) same
        | inr less ↦ is.same k (omega arith)
      ];
    }

pub next_is : (tz : TimeZone) (after from change : ℤ) (days : ℕ) → IsZoneChange tz change → from <ℤ change → change ≤ℤ (from +ℤ pos 86_400) → IsSameUntil tz after from days → IsNextChange tz after (Some change)
next_is tz after from change days is later near same =
    let at = same.at in
    (is, omega (arith, ints), λ k before. same.same k (omega (arith, ints)))

pub none_next : (tz : TimeZone) (after from : ℤ) (days : ℕ) → max_days ≤ days → IsSameUntil tz after from days → IsNextChange tz after None
none_next tz after from days end same = λ k few instant. same.same k (omega arith)

pub none_inside : (tz : TimeZone) (after from : ℤ) (days : ℕ) → (IsInstant (from +ℤ pos 86_400) → ⊥) → IsInstant from → IsSameUntil tz after from days → IsNextChange tz after None
none_inside tz after from days out low same = λ k few instant.
    let at = same.at in
    elim (cases_lt days k) [
      | inl past ↦ absurd (out (omega (arith, ints), omega (arith, ints)))
      | inr until ↦ same.same k until
    ]

-- if the UTC offset a second after `low` differs from the one at `low`, the zone changes at the later second
pub change_after : (tz : TimeZone) (low change : ℤ) (width : ℕ) (offset : ℤ) → change ≡ low +ℤ pos width → width ≡ 1 → IsInstant change → utc_offset tz low ≡ offset
    → (utc_offset tz (low +ℤ pos width) ≡ offset → ⊥) → IsZoneChange tz change
change_after tz low change width offset is one instant same other =
    let before : (change -ℤ pos 1) ≡ low = omega (arith, ints) in
    record { instant = instant; differs = λ e. other (ap (utc_offset tz) (sym is) ∙ e ∙ ap (utc_offset tz) before ∙ same) }

-- if the UTC offset a day after `from` isn't the one at `after`, it isn't the one at `from`, since `after` and `from`
-- have the same UTC offset
pub differs_next_day : (tz : TimeZone) (after from to : ℤ) (days : ℕ) (offset now : ℤ) → now ≡ utc_offset tz to → to ≡ from +ℤ pos 86_400 → offset ≡ utc_offset tz after → (now ≡ offset → ⊥)
    → IsSameUntil tz after from days → utc_offset tz (from +ℤ pos 86_400) ≡ utc_offset tz from → ⊥
differs_next_day tz after from to days offset now shown is was other same e =
    other (shown ∙ ap (utc_offset tz) is ∙ e ∙ ap (utc_offset tz) same.at ∙ same.same days (omega arith) ∙ sym was)
