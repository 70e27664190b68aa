-- The elapses of calendar expressions, and the meaning of an expression in a zone: systemd.time(7), Calendar Events.
-- Some expressions are exceptions: at their elapses, a timer doesn't elapse.
use Rattle.std.specs.Prelude.{◌≡◌, ◌⊎◌, ◌↔◌, ◌<◌, ℕ, Bool, true, List, [], ◌∷◌, Option, Some, ℤ, ◌<ℤ◌, pos}
use Rattle.std.specs.Ordering.{int_cmp}
use Rattle.std.specs.List.Sorted.{IsStrictlySortedBy}
use Rattle.cal_civil.specs.rules.LocalSecond.{seconds_in_all}
use Rattle.cal_rising.specs.rules.Elements.{Has}
use Rattle.jiff.specs.Types.{TimeZone}
use Rattle.cal_zone.specs.rules.Place.{place_of}
use Rattle.cal_spec.specs.rules.Fields.{Fields}
use Rattle.cal_spec.specs.rules.Match.{matches}
use Rattle.cal_spec.specs.rules.Members.{sets_of}

-- The meaning of an expression in a zone: which local seconds match, and the place of each local second, or
-- `None` if it has no place.
pub record Timed : Type 0 where
  pub matches : ℕ → Bool
  pub place : ℕ → Option ℤ

-- the instant `i` is the place of a matching local second
pub record IsPlace (e : Timed) (i : ℤ) : Type 0 where
  pub local : ℕ
  pub within : local < seconds_in_all
  pub is_match : e.matches local ≡ true
  pub placed : e.place local ≡ Some i

-- `i` is an elapse of at least one of the expressions
abbrev pub IsElapse : List Timed → ℤ → Type 0
IsElapse [] i = ⊥
IsElapse (e ∷ es) i = IsPlace e i ⊎ IsElapse es i

-- `i` is an elapse of at least one of the expressions `es` and of none of the exceptions
abbrev pub IsElapseExcept : List Timed → List Timed → ℤ → Type 0
IsElapseExcept es exceptions i = IsElapse es i × (IsElapse exceptions i → ⊥)

-- `xs` is strictly increasing and contains exactly the numbers after `b` for which `Holds` is true
pub record AreAbove (Holds : ℤ → Type 0) (b : ℤ) (xs : List ℤ) : Type 0 where
  pub rises : IsStrictlySortedBy int_cmp xs
  pub members : (i : ℤ) → Has xs i ↔ ((b <ℤ i) × Holds i)

-- `xs` is the list of elapses after `b` of the expressions `es`, without those of the exceptions
abbrev pub AreElapses : List Timed → List Timed → ℤ → List ℤ → Type 0
AreElapses es exceptions b xs = AreAbove (IsElapseExcept es exceptions) b xs

-- the local seconds that match, and the instants to which the zone resolves them
unfoldable pub timed : Fields → TimeZone → Timed
timed fields tz = record { matches = matches (sets_of fields); place = λ local. place_of tz (pos local) }
