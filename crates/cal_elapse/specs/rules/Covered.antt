-- Expressions whose elapses are all elapses of exceptions. systemd has no exceptions; they are this project's own.
use Rattle.std.specs.Prelude.{◌≡◌, ◌⊎◌, ℕ, ℤ, Bool, true, List}
use Rattle.cal_elapse.specs.rules.Elapses.{IsElapse, IsPlace, Timed}
use Rattle.cal_spec.specs.rules.Match.{Sets}

-- the set `has` contains every number of the set `inner`
abbrev pub HasAll : (ℕ → Bool) → (ℕ → Bool) → Type 0
HasAll has inner = (n : ℕ) → inner n ≡ true → has n ≡ true

-- `others` has every value that `sets` has, field by field, and both count days from the same end of the month
pub record AreAmong (sets others : Sets) : Type 0 where
  pub weekday : HasAll others.weekday sets.weekday
  pub year : HasAll others.year sets.year
  pub month : HasAll others.month sets.month
  pub day : HasAll others.day sets.day
  pub hour : HasAll others.hour sets.hour
  pub minute : HasAll others.minute sets.minute
  pub second : HasAll others.second sets.second
  pub from_end : sets.from_end ≡ others.from_end

-- each elapse of `e` is an elapse of one of the exceptions
abbrev pub IsCovered : Timed → List Timed → Type 0
IsCovered e exceptions = (i : ℤ) → IsPlace e i → IsElapse exceptions i

-- every elapse of `kept` is an elapse of `all`, and every elapse of `all` is an elapse of `kept` or of an exception
pub record AreKept (all exceptions kept : List Timed) : Type 0 where
  pub within : (i : ℤ) → IsElapse kept i → IsElapse all i
  pub rest : (i : ℤ) → IsElapse all i → IsElapse kept i ⊎ IsElapse exceptions i
