-- Whether the run of a service that its timer starts is due: systemd.timer(5), OnCalendar=, AccuracySec=,
-- RandomizedDelaySec= and Persistent=. The time of the run is the present.
use Rattle.std.specs.Prelude.{ℕ, ℤ, pos, ◌+ℤ◌, ◌≤ℤ◌, int_lt, ◌≡◌, ◌⊎◌, Bool, true, false, [], Option, None, Some, option_map}
use Rattle.cal_elapse.specs.rules.Elapses.{IsElapse}
use Rattle.cal_load.specs.declared.loaded.LoadedTimer.{LoadedTimer}
use Rattle.cal_load.specs.declared.timing.RunTiming.{RunTiming}
use Rattle.cal_timers_report.specs.rules.ReportView.{VerdictView}
use Rattle.cal_tasks.specs.declared.present.Present.{Present}
use Rattle.cal_tasks.specs.declared.due.BootTime.{BootTime}
use Rattle.cal_tasks.specs.declared.due.BootTime.TheVariants.{NotConsidered, Unknown, At}
use Rattle.cal_tasks.specs.declared.due.DueRun.{DueRun}
use Rattle.cal_tasks.specs.declared.due.DueRun.TheVariants.{Due, CatchesUp, Excepted}
use Rattle.cal_tasks.specs.rules.LastElapse.{IsLastElapse, IsLastOf, IsPastElapse, timed_exceptions}

-- ## Elapses

-- an exception elapses at this instant
abbrev pub IsExcepted : Present → LoadedTimer → ℤ → Type 0
IsExcepted at timer secs = IsElapse (timed_exceptions at timer) secs

-- the instant is at most `reach` seconds before the run; without a limit, every instant before the run is
abbrev pub IsWithin : Present → Option ℕ → ℤ → Type 0
IsWithin at None secs = Unit {0}
IsWithin at (Some reach) secs = at.now.secs ≤ℤ (secs +ℤ pos reach)

-- The elapses that the run can stand for: those of the timer's expressions that are at most `reach` seconds before the
-- run, and always the last one up to the run. Exceptions are disregarded here.
abbrev pub CanStandFor : Present → LoadedTimer → Option ℕ → ℤ → Type 0
CanStandFor at timer reach secs =
    IsPastElapse at timer [] secs × (IsWithin at reach secs ⊎ IsLastElapse at timer [] secs)

-- ## Runs

-- Nobody wants the run: there is an elapse that it can stand for, and all of these are exceptions. If the timer has
-- other triggers, one of these is taken to have started the run unless there is an elapse at most `reach` seconds before.
pub record IsUnwanted (at : Present) (timer : LoadedTimer) (timing : RunTiming) : Type 0 where
  pub stands : (secs : ℤ) × CanStandFor at timer timing.reach secs
  pub excepted : (secs : ℤ) → CanStandFor at timer timing.reach secs → IsExcepted at timer secs
  pub triggered : timing.has_other_triggers ≡ true → (secs : ℤ) × (IsPastElapse at timer [] secs × IsWithin at timing.reach secs)

-- the machine may have started at this instant or later
abbrev pub MayStartAfter : BootTime → ℤ → Type 0
MayStartAfter NotConsidered secs = ⊥
MayStartAfter Unknown secs = Unit {0}
MayStartAfter (At boot) secs = secs ≤ℤ boot

-- the machine may have started at most `reach` seconds before the run
abbrev pub MayStartWithin : Present → Option ℕ → BootTime → Type 0
MayStartWithin at reach NotConsidered = ⊥
MayStartWithin at reach Unknown = Unit {0}
MayStartWithin at reach (At boot) = IsWithin at reach boot

-- The run may make up for an earlier elapse, which was missed while the machine was off (systemd.timer(5), Persistent=):
-- the timer is persistent, and the machine started not before `last`, the last elapse up to the run, or so shortly before
-- the run that the run can be as late: systemd delays such a run, too.
abbrev pub MayCatchUp : Present → RunTiming → BootTime → ℤ → Type 0
MayCatchUp at timing boot last =
    (timing.is_persistent ≡ true) × (MayStartAfter boot last ⊎ MayStartWithin at timing.reach boot)

-- The run is due unless it is unwanted and doesn't make up for an earlier elapse. Each result also has the last elapse
-- of the timer's expressions up to the run, without regard to exceptions.
abbrev pub IsDueRun : Present → LoadedTimer → RunTiming → BootTime → DueRun → Type 0
IsDueRun at timer timing boot (Due None) = IsLastOf at timer [] None
IsDueRun at timer timing boot (Due (Some last)) = IsLastElapse at timer [] last.secs × (IsUnwanted at timer timing → ⊥)
IsDueRun at timer timing boot (CatchesUp last) =
    IsLastElapse at timer [] last.secs × IsUnwanted at timer timing × MayCatchUp at timing boot last.secs
IsDueRun at timer timing boot (Excepted last) =
    IsLastElapse at timer [] last.secs × IsUnwanted at timer timing × (MayCatchUp at timing boot last.secs → ⊥)

-- what the report says about the run
abbrev pub run_seen : DueRun → VerdictView
run_seen (Due last) = VerdictView.Due (option_map (λ instant. instant.secs) last)
run_seen (CatchesUp last) = VerdictView.CatchesUp last.secs
run_seen (Excepted last) = VerdictView.Excepted last.secs

-- ## Laws

-- the timer's expressions elapse only at this instant in the last `reach` seconds
pub record IsOnlyWithin (at : Present) (timer : LoadedTimer) (reach : Option ℕ) (secs : ℤ) : Type 0 where
  pub elapsed : IsPastElapse at timer [] secs
  pub within : IsWithin at reach secs
  pub only : (other : ℤ) → IsPastElapse at timer [] other → IsWithin at reach other → other ≡ secs

-- ## Steps

-- the timer, with its exceptions, has an elapse at most `reach` seconds before the run
abbrev pub HasUnexcepted : Present → LoadedTimer → Option ℕ → Type 0
HasUnexcepted at timer reach =
    (secs : ℤ) × (IsPastElapse at timer (timed_exceptions at timer) secs × IsWithin at reach secs)

-- whether the instant is one, and after `base`
abbrev pub is_after : ℤ → Option ℤ → Bool
is_after base None = false
is_after base (Some last) = int_lt base last
