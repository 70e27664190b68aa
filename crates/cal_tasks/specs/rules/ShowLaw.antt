-- Which elapses the report of `show` has (systemd.timer(5), OnCalendar=).
use Rattle.std.specs.Prelude.{◌≡◌, ◌⊎◌, ◌≤◌, ℕ, List, length, ℤ, ◌<ℤ◌}
use Rattle.std.specs.List.Sorted.{IsStrictlySortedBy}
use Rattle.std.specs.Ordering.{int_cmp}
use Rattle.cal_elapse.specs.rules.Elapses.{IsElapseExcept}
use Rattle.cal_load.specs.declared.loaded.LoadedTimer.{LoadedTimer}
use Rattle.cal_rising.specs.rules.Elements.{Has}
use Rattle.cal_tasks.specs.declared.present.Present.{Present}
use Rattle.cal_tasks.specs.rules.LastElapse.{timed_exceptions, timed_expressions}

-- an instant after the present at which one of the timer's expressions elapses and none of its exceptions
abbrev pub IsLaterElapse : Present → LoadedTimer → ℤ → Type 0
IsLaterElapse at timer secs =
    (at.now.secs <ℤ secs) × IsElapseExcept (timed_expressions at timer) (timed_exceptions at timer) secs

-- The instants are the first `count` elapses of the timer after the present, or all of them if there are fewer. They are
-- strictly increasing, and if a later elapse isn't among them, there are `count` of them, all before it.
pub record AreFirstElapses (at : Present) (timer : LoadedTimer) (count : ℕ) (elapses : List ℤ) : Type 0 where
  pub rises : IsStrictlySortedBy int_cmp elapses
  pub few : length elapses ≤ count
  pub are_later : (secs : ℤ) → Has elapses secs → IsLaterElapse at timer secs
  pub first : (secs : ℤ) → IsLaterElapse at timer secs → Has elapses secs
      ⊎ ((length elapses ≡ count) × ((shown : ℤ) → Has elapses shown → shown <ℤ secs))
