-- When an instant is an elapse, and when it is one of the remaining elapses.
use Rattle.std.proofs.Common.{◌≡◌, ◌↔◌, Bool, true, false, [], ◌∷◌, inl, inr, None, Some, ℤ, negsuc, pos, unsigned_abs, ◌<ℤ◌, ◌≤ℤ◌, arith, int_eq}
use Rattle.std.proofs.lemmas.Bool.{false≢true}
use Rattle.jiff.proofs.SpanFacts.{signed_arith}
use Rattle.std.specs.Set.{is_member}
use Rattle.cal_zone.specs.rules.Instant.{IsInstant}
use Rattle.cal_civil.specs.rules.LocalSecond.{IsLocalSecond, seconds_in_all-is}
use Rattle.cal_zone.specs.computed.PlaceAt.{IsLocalAt}
use Rattle.cal_zone.specs.rules.Place.{place_of}
use Rattle.cal_zone.specs.rules.Zone.{zone_of}
use Rattle.cal_zone.specs.declared.zone.Zone.{Zone}
use Rattle.cal_zone.proofs.PlaceLemmas.{one_local_second, within}
use Rattle.cal_spec.specs.rules.Match.{matches}
use Rattle.std.specs.Cmp.{both_ways}
use Rattle.cal_rising.proofs.WithoutLemmas.{Has-is_member, is_member-Has}
use Rattle.cal_elapse.specs.rules.ElapsesAfter.{elapses_after}
use Rattle.cal_elapse.specs.rules.Elapses.{IsPlace}
use Rattle.cal_elapse.specs.computed.Masks.{sets_in}
use Rattle.cal_elapse.specs.computed.RemainingElapses.{remaining_elapses}
use Rattle.cal_elapse.specs.computed.Window.{timed_by, timed_of}
use Rattle.cal_elapse.specs.declared.masks.Masks.{Masks}
use Rattle.cal_elapse.specs.declared.window.Window.{Window}
use Rattle.cal_elapse.proofs.ElapsesLemmas.{AreAbove-elapses_after}
use Rattle.cal_civil.proofs.LocalLemmas.{local_inside}

-- if `local` resolves to `instant`, then `instant` is an elapse of the expression if and only if `local` matches
pub has-local : (masks : Masks) (zone : Zone) (instant local : ℤ) (b : Bool) → IsLocalSecond local → place_of (zone_of zone) local ≡ Some instant
    → b ≡ matches (sets_in masks) (unsigned_abs local) → (b ≡ true) ↔ IsPlace (timed_by masks zone) instant
unfolding timed_by
has-local masks zone instant (pos n) b inside placed is = let within = local_inside (pos n) inside in grind (arith, one_local_second)
has-local masks zone instant (negsuc n) b inside placed is = absurd (omega (arith, signed_arith, inside.0))

pub has-none : (masks : Masks) (zone : Zone) (instant : ℤ) → IsLocalAt (zone_of zone) instant None → (false ≡ true) ↔ IsPlace (timed_by masks zone) instant
unfolding timed_by
has-none masks zone instant none = (
  λ h. absurd (false≢true h),
  λ p. absurd (let count = seconds_in_all-is in let inside = p.within in none (pos p.local) (omega (arith, signed_arith), omega (arith, signed_arith)) p.placed),
)

-- if `i` is after the instant returned last, the remaining elapses contain `i` if and only if it is an elapse of the
-- expression
pub in_rest : (w : Window) (i : ℤ) (b : Bool) → w.last <ℤ i → (b ≡ true) ↔ IsPlace (timed_of w) i → b ≡ is_member int_eq (remaining_elapses w) i
unfolding remaining_elapses
in_rest w i b above h =
    let rest = elapses_after (timed_of w ∷ []) w.last in
    let all = (AreAbove-elapses_after (timed_of w ∷ []) w.last).members i in
    both_ways b (is_member int_eq rest i)
    (λ t. is_member-Has rest i (all.1 (above, inl (h.0 t))))
    (λ t. h.1 (elim (all.0 (Has-is_member rest i t)).1 [ inl p ↦ p | inr n ↦ absurd n ]))

-- if `i` is not after the instant returned last, or if `i` is not an elapse of the expression, the remaining elapses
-- don't contain `i`
pub not_in_rest : (w : Window) (i : ℤ) → (w.last <ℤ i → IsPlace (timed_of w) i → ⊥) → false ≡ is_member int_eq (remaining_elapses w) i
unfolding remaining_elapses
not_in_rest w i h =
    let rest = elapses_after (timed_of w ∷ []) w.last in
    let all = (AreAbove-elapses_after (timed_of w ∷ []) w.last).members i in
    both_ways false (is_member int_eq rest i)
    (λ t. absurd (false≢true t))
    (λ t. absurd (let p = all.0 (Has-is_member rest i t) in h p.0 (elim p.1 [ inl q ↦ q | inr n ↦ absurd n ])))

pub not_above : (w : Window) (i : ℤ) → i ≤ℤ w.last → false ≡ is_member int_eq (remaining_elapses w) i
not_above w i low = not_in_rest w i (λ above p. absurd (omega (arith, signed_arith)))

-- if a matching local second resolves to `i`, and `i` isn't negative, then `i` is an instant
place-instant : (masks : Masks) (zone : Zone) (i : ℤ) → pos 0 ≤ℤ i → IsPlace (timed_by masks zone) i → IsInstant i
unfolding timed_by
place-instant masks zone i low p =
    let count = seconds_in_all-is in
    let near = within (zone_of zone) (pos p.local) i p.placed in
    (omega (arith, signed_arith), omega (arith, signed_arith, near))

pub not_instant : (w : Window) (i : ℤ) → pos 0 ≤ℤ w.last → (IsInstant i → ⊥) → false ≡ is_member int_eq (remaining_elapses w) i
not_instant w i low outside = grind (arith, not_in_rest, place-instant, signed_arith)
