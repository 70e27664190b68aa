-- Every elapse after a base of 0 or more is an instant.
use Rattle.std.proofs.Common.{◌≡◌, List, [], ◌∷◌, map, inl, inr, Some, ℤ, pos, ◌<ℤ◌, ◌≤ℤ◌, arith, slice_get}
use Rattle.std.proofs.lemmas.Int.{ints}
use Rattle.jiff.proofs.SpanFacts.{signed_arith}
use Rattle.jiff.specs.Types.{TimeZone}
use Rattle.cal_zone.specs.rules.Instant.{IsInstant}
use Rattle.cal_civil.specs.rules.LocalSecond.{seconds_in_all-is}
use Rattle.cal_zone.proofs.PlaceLemmas.{within}
use Rattle.cal_spec.specs.rules.Fields.{Fields}
use Rattle.cal_elapse.specs.rules.ElapsesAfter.{elapses_except}
use Rattle.cal_elapse.specs.rules.Elapses.{IsElapse, IsPlace, timed, Timed}
use Rattle.cal_rising.specs.rules.Elements.{Has}
use Rattle.cal_elapse.proofs.ElapsesLemmas.{AreElapses-elapses_except}

place_in : (fields : Fields) (tz : TimeZone) (i : ℤ) → pos 0 ≤ℤ i → IsPlace (timed fields tz) i → IsInstant i
unfolding timed
place_in fields tz i low p =
    let count = seconds_in_all-is in
    let near = within tz (pos p.local) i p.placed in
    (omega (arith, signed_arith), omega (arith, signed_arith, near))

above_zero : (base i : ℤ) → pos 0 ≤ℤ base → base <ℤ i → pos 0 ≤ℤ i
above_zero base i low above = omega (arith, ints)

places_in : {A : Type 0} (fields : A → Fields) (tz : A → TimeZone) (xs : List A) (i : ℤ) → pos 0 ≤ℤ i → IsElapse (map (λ x. timed (fields x) (tz x)) xs) i → IsInstant i
places_in fields tz [] i low h = absurd h
places_in fields tz (x ∷ xs) i low (inl here) = place_in (fields x) (tz x) i low here
places_in fields tz (x ∷ xs) i low (inr there) = places_in fields tz xs i low there

pub IsInstant-elapse : {A : Type 0} (fields : A → Fields) (tz : A → TimeZone) (xs : List A) (exceptions : List Timed) (base i : ℤ) → pos 0 ≤ℤ base
    → Has (elapses_except (map (λ x. timed (fields x) (tz x)) xs) exceptions base) i → IsInstant i
IsInstant-elapse fields tz xs exceptions base i low m =
    let here = ((AreElapses-elapses_except (map (λ x. timed (fields x) (tz x)) xs) exceptions base).members i).0 m in
    places_in fields tz xs i (above_zero base i low here.0) here.1.0

-- The lemma `IsInstant-elapse` for a list of pairs: every elapse after a base of 0 or more is an instant. Each pair
-- consists of the fields of an expression and its zone.
pub IsInstant-pairs : (pairs : List (Fields × TimeZone)) (exceptions : List Timed) (base i : ℤ) → pos 0 ≤ℤ base
    → Has (elapses_except (map (λ (p : Fields × TimeZone). timed p.0 p.1) pairs) exceptions base) i → IsInstant i
IsInstant-pairs pairs exceptions base i low m = IsInstant-elapse (λ (p : Fields × TimeZone). p.0) (λ (p : Fields × TimeZone). p.1) pairs exceptions base i low m

pub first_has : (xs : List ℤ) (i : ℤ) → slice_get xs 0 ≡ Some i → Has xs i
first_has [] i e = absurd (cc)
first_has (x ∷ xs) i e = inl (cc)

pub IsInstant-first : (pairs : List (Fields × TimeZone)) (exceptions : List Timed) (base i : ℤ) → pos 0 ≤ℤ base
    → slice_get (elapses_except (map (λ (p : Fields × TimeZone). timed p.0 p.1) pairs) exceptions base) 0 ≡ Some i → IsInstant i
IsInstant-first pairs exceptions base i low e =
    IsInstant-pairs pairs exceptions base i low (first_has (elapses_except (map (λ (p : Fields × TimeZone). timed p.0 p.1) pairs) exceptions base) i e)
