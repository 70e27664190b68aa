-- The search for the last elapse of a timer up to the present, in longer and longer ranges.
use Rattle.std.specs.Prelude.{ℤ, ◌<ℤ◌, ◌≤ℤ◌, List, Option, None, Some}
use Rattle.cal_elapse.specs.rules.Elapses.{Timed}
use Rattle.cal_load.specs.declared.loaded.LoadedTimer.{LoadedTimer}
use Rattle.cal_rising.specs.rules.Elements.{Has}
use Rattle.cal_tasks.specs.declared.present.Present.{Present}
use Rattle.cal_tasks.specs.rules.LastElapse.{IsLastElapse, IsPastElapse}

-- `last` is the greatest number of `xs` that is at most `until`; None if there is no such number
abbrev pub IsLastUntil : ℤ → List ℤ → Option ℤ → Type 0
IsLastUntil until xs None = (x : ℤ) → Has xs x → until <ℤ x
IsLastUntil until xs (Some last) = Has xs last × (last ≤ℤ until) × ((x : ℤ) → Has xs x → x ≤ℤ until → x ≤ℤ last)

-- the last elapse up to the present of the timer's expressions, without the elapses of these exceptions; `None` only
-- says that there is none after `base`
abbrev pub IsLastAfter : Present → LoadedTimer → List Timed → ℤ → Option ℤ → Type 0
IsLastAfter at timer exceptions base None = (secs : ℤ) → base <ℤ secs → IsPastElapse at timer exceptions secs → ⊥
IsLastAfter at timer exceptions base (Some last) = IsLastElapse at timer exceptions last
