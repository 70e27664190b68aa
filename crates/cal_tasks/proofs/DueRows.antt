-- Examples of elapses for which a run can have started, and of runs that may make up for an earlier elapse.
use Rattle.std.proofs.Common.{◌≡◌, ◌⊎◌, inl, inr, Some, None, pos, arith, false, refl, true}
use Rattle.std.proofs.lemmas.Bool.{false≢true}
use Rattle.std.proofs.lemmas.Int.{ints}
use Rattle.cal_load.specs.declared.timing.RunTiming.{RunTiming}
use Rattle.cal_tasks.specs.declared.present.Present.{Present}
use Rattle.cal_tasks.specs.declared.due.BootTime.TheVariants.{At, NotConsidered, Unknown}
use Rattle.cal_tasks.specs.rules.DueRun.{IsWithin, MayCatchUp, MayStartAfter, MayStartWithin}

-- a run at 02:00 can have started for an elapse at 01:00 if it can be an hour late, and not if it can be a second less
-- late
an_hour : (at : Present) → at.now.secs ≡ pos 7200 → IsWithin at (Some 3600) (pos 3600)
an_hour at now = omega (arith, ints)

a_second_less : (at : Present) → at.now.secs ≡ pos 7200 → IsWithin at (Some 3599) (pos 3600) → ⊥
a_second_less at now w = omega (arith, ints)

without_a_limit : (at : Present) → IsWithin at None (pos 0)
without_a_limit at = tt

abbrev persistent : RunTiming
persistent = record { reach = Some 60; has_other_triggers = false; is_persistent = true }

abbrev other : RunTiming
other = record { reach = Some 60; has_other_triggers = false; is_persistent = false }

-- the machine started at the last elapse, which is at second 100
started_then : (at : Present) → MayCatchUp at persistent (At (pos 100)) (pos 100)
started_then at = (refl, inl (omega (arith, ints)))

-- the machine started at second 99, before the last elapse: a run a minute later can be as late, and one after that can't
started_within : (at : Present) → at.now.secs ≡ pos 159 → MayCatchUp at persistent (At (pos 99)) (pos 100)
started_within at now = (refl, inr (omega (arith, ints)))

neither : (at : Present) → at.now.secs ≡ pos 160
    → (MayStartAfter (At (pos 99)) (pos 100) ⊎ MayStartWithin at (Some 60) (At (pos 99))) → ⊥
neither at now (inl after) = omega (arith, ints, after)
neither at now (inr within) = omega (arith, ints, within)

started_before : (at : Present) → at.now.secs ≡ pos 160 → MayCatchUp at persistent (At (pos 99)) (pos 100) → ⊥
started_before at now h = neither at now h.1

start_unknown : (at : Present) → MayCatchUp at persistent Unknown (pos 100)
start_unknown at = (refl, inl tt)

none_considered : (at : Present) → (MayStartAfter NotConsidered (pos 100) ⊎ MayStartWithin at (Some 60) NotConsidered) → ⊥
none_considered at (inl after) = after
none_considered at (inr within) = within

not_considered : (at : Present) → MayCatchUp at persistent NotConsidered (pos 100) → ⊥
not_considered at h = none_considered at h.1

not_persistent : (at : Present) → MayCatchUp at other Unknown (pos 100) → ⊥
not_persistent at h = false≢true h.0
