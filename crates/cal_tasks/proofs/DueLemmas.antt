-- Lemmas on the runs that are due.
use Rattle.std.proofs.Common.{◌≡◌, ◌↔◌, ◌⊎◌, inl, inr, ℕ, Bool, true, false, not, is_some, List, [], Option, None, Some, ℤ, pos, ◌-ℤ◌, ◌<ℤ◌, ◌≤ℤ◌, ap, arith, map, option_map, refl, sym, subst, ◌∙◌}
use Rattle.std.specs.Prelude.{int_lt}
use Rattle.std.specs.List.{list_any}
use Rattle.std.proofs.lemmas.Bool.{cases_Bool, false≢true}
use Rattle.std.proofs.lemmas.Int.{by_lt_z, ints}
use Rattle.cal_bytes.proofs.General.{lt_from_test, lt_test}
use Rattle.cal_elapse.proofs.ElapsesLemmas.{AreElapses-elapses_except}
use Rattle.cal_elapse.specs.rules.Elapses.{IsElapse, Timed}
use Rattle.cal_load.specs.declared.loaded.LoadedTimer.{LoadedTimer}
use Rattle.cal_load.specs.declared.timing.RunTiming.{RunTiming}
use Rattle.cal_load.specs.rules.CalendarZones.{exceptions_in}
use Rattle.cal_plan.specs.rules.TimerElapses.{elapses_of_lists, timed_entry}
use Rattle.cal_spec.specs.rules.Fields.{Fields}
use Rattle.cal_timer.specs.rules.TimerEntries.{TimerLine}
use Rattle.cal_rising.specs.rules.Elements.{Has}
use Rattle.cal_zone.specs.declared.instant.Instant.{Instant}
use Rattle.cal_zone.specs.rules.Instant.{IsInstant}
use Rattle.cal_timers_report.specs.rules.ReportView.{VerdictView, is_due}
use Rattle.cal_tasks.proofs.AtInstantLemmas.{any_if_elapse}
use Rattle.cal_tasks.specs.computed.AtInstant.{line_elapses_at}
use Rattle.cal_tasks.specs.computed.LastSearch.{IsLastAfter}
use Rattle.cal_tasks.specs.declared.present.Present.{Present}
use Rattle.cal_tasks.specs.declared.due.BootTime.{BootTime}
use Rattle.cal_tasks.specs.declared.due.DueRun.{DueRun}
use Rattle.cal_tasks.specs.declared.due.DueRun.TheVariants.{Due, CatchesUp, Excepted}
use Rattle.cal_tasks.specs.rules.DueRun.{CanStandFor, HasUnexcepted, IsDueRun, IsExcepted, IsOnlyWithin, IsUnwanted, IsWithin, MayCatchUp, is_after, run_seen}
use Rattle.cal_tasks.specs.rules.LastElapse.{IsLastElapse, IsLastOf, IsPastElapse, timed_exceptions, timed_expressions}
use Rattle.cal_tasks.specs.rules.LoadedElapses.{elapses_in, setting_for}

-- a timer has at most one last elapse
same_last : (at : Present) (timer : LoadedTimer) (exceptions : List Timed) (one other : ℤ) → IsLastElapse at timer exceptions one → IsLastElapse at timer exceptions other → one ≡ other
same_last at timer exceptions one other h k =
    let up = h.last other k.elapsed in
    let down = k.last one h.elapsed in
    omega (arith, ints)

-- the elapses of a timer, with its exceptions, are elapses of its expressions
plain_elapse : (at : Present) (timer : LoadedTimer) (exceptions : List Timed) (secs : ℤ) → IsPastElapse at timer exceptions secs → IsPastElapse at timer [] secs
plain_elapse at timer exceptions secs p = record { instant = p.instant; past = p.past; is_elapse = (p.is_elapse.0, λ n. n) }

except_elapse : (at : Present) (timer : LoadedTimer) (secs : ℤ) → IsPastElapse at timer [] secs → (IsExcepted at timer secs → ⊥) → IsPastElapse at timer (timed_exceptions at timer) secs
except_elapse at timer secs p is_not = record { instant = p.instant; past = p.past; is_elapse = (p.is_elapse.0, is_not) }

-- a later instant is in the window, too
within_later : (at : Present) (reach : Option ℕ) (one other : ℤ) → one ≤ℤ other → IsWithin at reach one → IsWithin at reach other
within_later at None one other h w = tt
within_later at (Some reach) one other h w = omega (arith, ints)

-- ## Whether an elapse in the window isn't an exception

pub within_all : (at : Present) (timer : LoadedTimer) (reach : Option ℕ) (last : Option Instant) (found : Bool) → ((secs : ℤ) → IsInstant secs → IsWithin at reach secs)
    → IsLastOf at timer (timed_exceptions at timer) (option_map (λ instant. instant.secs) last) → found ≡ is_some last → (found ≡ true) ↔ HasUnexcepted at timer reach
within_all at timer reach None found all none e = (λ h. absurd (false≢true (sym e ∙ h)), λ h. absurd (none h.0 h.1.0))
within_all at timer reach (Some last) found all is e = (λ h. (last.secs, (is.elapsed, all last.secs is.elapsed.instant)), λ h. e)

after_by : (at : Present) (timer : LoadedTimer) (reach : Option ℕ) (base last : ℤ) (test : Bool) → int_lt base last ≡ test → ((secs : ℤ) → (base <ℤ secs) ↔ IsWithin at reach secs)
    → IsLastElapse at timer (timed_exceptions at timer) last → (test ≡ true) ↔ HasUnexcepted at timer reach
after_by at timer reach base last true e some is = (λ h. (last, (is.elapsed, (some last).0 (lt_from_test base last e))), λ h. refl)
after_by at timer reach base last false e some is = (
  λ h. absurd (false≢true h),
  λ h. let above = (some h.0).1 h.1.1 in
      let up = is.last h.0 h.1.0 in
      let over : base <ℤ last = omega (arith, ints) in
      absurd (false≢true (sym e ∙ lt_test base last over)),
)

pub within_after : (at : Present) (timer : LoadedTimer) (reach : Option ℕ) (base : ℤ) (last : Option ℤ) (found : Bool) → ((secs : ℤ) → (base <ℤ secs) ↔ IsWithin at reach secs)
    → IsLastAfter at timer (timed_exceptions at timer) base last → found ≡ is_after base last → (found ≡ true) ↔ HasUnexcepted at timer reach
within_after at timer reach base None found some none e = (λ h. absurd (false≢true (sym e ∙ h)), λ h. absurd (none h.0 ((some h.0).1 h.1.1) h.1.0))
within_after at timer reach base (Some last) found some is e =
    let test = after_by at timer reach base last (int_lt base last) refl some is in
    (λ h. test.0 (sym e ∙ h), λ h. e ∙ test.1 h)

-- ## Unwanted runs

-- an exception elapses at an instant, or none does
excepted_or_not : (at : Present) (timer : LoadedTimer) (secs : ℤ) → IsExcepted at timer secs ⊎ (IsExcepted at timer secs → ⊥)
excepted_or_not at timer secs =
    let test = any_if_elapse (setting_for at timer) secs (exceptions_in timer.calendar) in
    elim (cases_Bool (list_any (line_elapses_at (setting_for at timer) secs) (exceptions_in timer.calendar))) [
      | inl is ↦ inl (test.0 is)
      | inr is_not ↦ inr (λ e. false≢true (sym is_not ∙ test.1 e))
    ]

last_stands : (at : Present) (timer : LoadedTimer) (reach : Option ℕ) (last : ℤ) → IsLastElapse at timer [] last → CanStandFor at timer reach last
last_stands at timer reach last is = (is.elapsed, inr is)

pub not_excepted : (at : Present) (timer : LoadedTimer) (timing : RunTiming) (last : ℤ) (excepted : Bool) → IsLastElapse at timer [] last
    → (excepted ≡ true) ↔ IsExcepted at timer last → excepted ≡ false → (false ≡ true) ↔ IsUnwanted at timer timing
not_excepted at timer timing last excepted is test e = (
  λ h. absurd (false≢true h),
  λ u. absurd (false≢true (sym e ∙ test.1 (u.excepted last (last_stands at timer timing.reach last is)))),
)

pub not_by_expression : (at : Present) (timer : LoadedTimer) (timing : RunTiming) (last : ℤ) (by : Bool) → IsLastElapse at timer [] last
    → (by ≡ true) ↔ (timing.has_other_triggers ≡ true → IsWithin at timing.reach last) → by ≡ false → (false ≡ true) ↔ IsUnwanted at timer timing
not_by_expression at timer timing last by is test e = (
  λ h. absurd (false≢true h),
  λ u. absurd (false≢true (sym e ∙ test.1 (λ t. let found = u.triggered t in
      within_later at timing.reach found.0 last (is.last found.0 found.1.0) found.1.1))),
)

stands_excepted : (at : Present) (timer : LoadedTimer) (timing : RunTiming) (last : ℤ) → IsLastElapse at timer [] last → IsExcepted at timer last
    → (HasUnexcepted at timer timing.reach → ⊥) → (secs : ℤ) → CanStandFor at timer timing.reach secs → IsExcepted at timer secs
stands_excepted at timer timing last is excepted none secs (p, inl w) =
    elim (excepted_or_not at timer secs) [
      | inl e ↦ e
      | inr n ↦ absurd (none (secs, (except_elapse at timer secs p n, w)))
    ]
stands_excepted at timer timing last is excepted none secs (p, inr l) =
    subst (λ (i : ℤ). IsExcepted at timer i) (same_last at timer [] last secs is l) excepted

pub unwanted_by : (at : Present) (timer : LoadedTimer) (timing : RunTiming) (last : ℤ) (found : Bool) → IsLastElapse at timer [] last → IsExcepted at timer last
    → (timing.has_other_triggers ≡ true → IsWithin at timing.reach last) → (found ≡ true) ↔ HasUnexcepted at timer timing.reach → (not found ≡ true) ↔ IsUnwanted at timer timing
unwanted_by at timer timing last false is excepted by test = (
  λ h. record {
    stands = (last, last_stands at timer timing.reach last is);
    excepted = stands_excepted at timer timing last is excepted (λ u. false≢true (test.1 u));
    triggered = λ t. (last, (is.elapsed, by t));
  },
  λ u. refl,
)
unwanted_by at timer timing last true is excepted by test = (
  λ h. absurd (false≢true h),
  λ u. let found = test.0 refl in
      absurd (found.1.0.is_elapse.1 (u.excepted found.0 (plain_elapse at timer (timed_exceptions at timer) found.0 found.1.0, inl found.1.1))),
)

-- ## One result

pub one_run : (at : Present) (timer : LoadedTimer) (timing : RunTiming) (boot : BootTime) (one other : DueRun) → IsDueRun at timer timing boot one → IsDueRun at timer timing boot other
    → run_seen one ≡ run_seen other
one_run at timer timing boot (Due None) (Due None) h k = refl
one_run at timer timing boot (Due None) (Due (Some other)) h k = absurd (h other.secs k.0.elapsed)
one_run at timer timing boot (Due None) (CatchesUp other) h k = absurd (h other.secs k.0.elapsed)
one_run at timer timing boot (Due None) (Excepted other) h k = absurd (h other.secs k.0.elapsed)
one_run at timer timing boot (Due (Some one)) (Due None) h k = absurd (k one.secs h.0.elapsed)
one_run at timer timing boot (Due (Some one)) (Due (Some other)) h k = ap (λ (i : ℤ). VerdictView.Due (Some i)) (same_last at timer [] one.secs other.secs h.0 k.0)
one_run at timer timing boot (Due (Some one)) (CatchesUp other) h k = absurd (h.1 k.1)
one_run at timer timing boot (Due (Some one)) (Excepted other) h k = absurd (h.1 k.1)
one_run at timer timing boot (CatchesUp one) (Due None) h k = absurd (k one.secs h.0.elapsed)
one_run at timer timing boot (CatchesUp one) (Due (Some other)) h k = absurd (k.1 h.1)
one_run at timer timing boot (CatchesUp one) (CatchesUp other) h k = ap VerdictView.CatchesUp (same_last at timer [] one.secs other.secs h.0 k.0)
one_run at timer timing boot (CatchesUp one) (Excepted other) h k =
    absurd (k.2 (subst (λ (i : ℤ). MayCatchUp at timing boot i) (same_last at timer [] one.secs other.secs h.0 k.0) h.2))
one_run at timer timing boot (Excepted one) (Due None) h k = absurd (k one.secs h.0.elapsed)
one_run at timer timing boot (Excepted one) (Due (Some other)) h k = absurd (k.1 h.1)
one_run at timer timing boot (Excepted one) (CatchesUp other) h k =
    absurd (h.2 (subst (λ (i : ℤ). MayCatchUp at timing boot i) (sym (same_last at timer [] one.secs other.secs h.0 k.0)) k.2))
one_run at timer timing boot (Excepted one) (Excepted other) h k = ap VerdictView.Excepted (same_last at timer [] one.secs other.secs h.0 k.0)

-- ## Laws

before : (i : ℤ) → (i -ℤ pos 1) <ℤ i
before i = omega (arith, ints)

-- an elapse of the timer is an elapse of one of its expressions, and of none of its exceptions
here_elapses : (at : Present) (timer : LoadedTimer) (secs : ℤ) → Has (elapses_in at (secs -ℤ pos 1) timer) secs → IsElapse (timed_expressions at timer) secs × (IsExcepted at timer secs → ⊥)
unfolding elapses_of_lists
here_elapses at timer secs h =
    (((AreElapses-elapses_except (timed_expressions at timer) (timed_exceptions at timer) (secs -ℤ pos 1)).members secs).0 h).1

-- a run that isn't due is unwanted, and doesn't make up for an earlier elapse
due_or_unwanted : (at : Present) (timer : LoadedTimer) (timing : RunTiming) (boot : BootTime) (run : DueRun) → IsDueRun at timer timing boot run
    → (is_due (run_seen run) ≡ true) ⊎ ((is_due (run_seen run) ≡ false) × IsUnwanted at timer timing)
due_or_unwanted at timer timing boot (Due last) h = inl refl
due_or_unwanted at timer timing boot (CatchesUp last) h = inl refl
due_or_unwanted at timer timing boot (Excepted last) h = inr (refl, h.1)

due_unless : (at : Present) (timer : LoadedTimer) (timing : RunTiming) (boot : BootTime) (run : DueRun) → (IsUnwanted at timer timing → ⊥) → IsDueRun at timer timing boot run
    → is_due (run_seen run) ≡ true
due_unless at timer timing boot run wanted h =
    elim (due_or_unwanted at timer timing boot run h) [ inl is ↦ is | inr n ↦ absurd (wanted n.1) ]

pub due_without_exceptions : (at : Present) (timer : LoadedTimer) (timing : RunTiming) (boot : BootTime) (run : DueRun) → exceptions_in timer.calendar ≡ []
    → IsDueRun at timer timing boot run → is_due (run_seen run) ≡ true
due_without_exceptions at timer timing boot run none h =
    due_unless at timer timing boot run
    (λ u. subst (λ (list : List (TimerLine Fields)). IsElapse (map (timed_entry (setting_for at timer)) list) u.stands.0) none (u.excepted u.stands.0 u.stands.1)) h

due_at_an_elapse : (at : Present) (timer : LoadedTimer) (timing : RunTiming) (boot : BootTime) (run : DueRun) (secs : ℤ) → CanStandFor at timer timing.reach secs
    → Has (elapses_in at (secs -ℤ pos 1) timer) secs → IsDueRun at timer timing boot run → is_due (run_seen run) ≡ true
due_at_an_elapse at timer timing boot run secs stands has h =
    due_unless at timer timing boot run (λ u. (here_elapses at timer secs has).1 (u.excepted secs stands)) h

pub due_within : (at : Present) (timer : LoadedTimer) (timing : RunTiming) (boot : BootTime) (run : DueRun) (elapse : Instant) → elapse.secs ≤ℤ at.now.secs
    → IsWithin at timing.reach elapse.secs → Has (elapses_in at (elapse.secs -ℤ pos 1) timer) elapse.secs → IsDueRun at timer timing boot run → is_due (run_seen run) ≡ true
due_within at timer timing boot run elapse past within has h =
    due_at_an_elapse at timer timing boot run elapse.secs
    (record { instant = elapse.in_range; past = past; is_elapse = ((here_elapses at timer elapse.secs has).0, λ n. n) }, inl within) has h

pub due_at_the_last : (at : Present) (timer : LoadedTimer) (timing : RunTiming) (boot : BootTime) (run : DueRun) (secs : ℤ) → IsLastElapse at timer [] secs
    → Has (elapses_in at (secs -ℤ pos 1) timer) secs → IsDueRun at timer timing boot run → is_due (run_seen run) ≡ true
due_at_the_last at timer timing boot run secs last has h = due_at_an_elapse at timer timing boot run secs (last_stands at timer timing.reach secs last) has h

pub due_by_another : (at : Present) (timer : LoadedTimer) (timing : RunTiming) (boot : BootTime) (run : DueRun) → timing.has_other_triggers ≡ true
    → ((secs : ℤ) → IsPastElapse at timer [] secs → IsWithin at timing.reach secs → ⊥) → IsDueRun at timer timing boot run → is_due (run_seen run) ≡ true
due_by_another at timer timing boot run others none h =
    due_unless at timer timing boot run (λ u. let found = u.triggered others in none found.0 found.1.0 found.1.1) h

-- if there is exactly one elapse in the window, it is the last one
only_is_last : (at : Present) (timer : LoadedTimer) (reach : Option ℕ) (only : ℤ) → IsOnlyWithin at timer reach only → IsLastElapse at timer [] only
only_is_last at timer reach only o = record {
  elapsed = o.elapsed;
  last = λ other p. by_lt_z only other
      (λ lt. (let same = o.only other p (within_later at reach only other (omega (arith, ints)) o.within) in omega (arith, ints)))
      (λ ge. ge);
}

only_stands : (at : Present) (timer : LoadedTimer) (reach : Option ℕ) (only : ℤ) → IsOnlyWithin at timer reach only → (secs : ℤ) → CanStandFor at timer reach secs → secs ≡ only
only_stands at timer reach only o secs (p, inl w) = o.only secs p w
only_stands at timer reach only o secs (p, inr l) = same_last at timer [] secs only l (only_is_last at timer reach only o)

only_unwanted : (at : Present) (timer : LoadedTimer) (timing : RunTiming) (only : ℤ) → IsOnlyWithin at timer timing.reach only → IsExcepted at timer only → IsUnwanted at timer timing
only_unwanted at timer timing only o excepted = record {
  stands = (only, (o.elapsed, inl o.within));
  excepted = λ secs stands. subst (λ (i : ℤ). IsExcepted at timer i) (sym (only_stands at timer timing.reach only o secs stands)) excepted;
  triggered = λ t. (only, (o.elapsed, o.within));
}

pub due_by_only : (at : Present) (timer : LoadedTimer) (timing : RunTiming) (boot : BootTime) (run : DueRun) (only : ℤ) → IsOnlyWithin at timer timing.reach only
    → (MayCatchUp at timing boot only → ⊥) → IsDueRun at timer timing boot run → (is_due (run_seen run) ≡ true) ↔ (IsExcepted at timer only → ⊥)
due_by_only at timer timing boot (Due None) only o no_boot h = absurd (h only o.elapsed)
due_by_only at timer timing boot (Due (Some last)) only o no_boot h = (λ e x. h.1 (only_unwanted at timer timing only o x), λ n. refl)
due_by_only at timer timing boot (CatchesUp last) only o no_boot h =
    absurd (no_boot (subst (λ (i : ℤ). MayCatchUp at timing boot i) (same_last at timer [] last.secs only h.0 (only_is_last at timer timing.reach only o)) h.2))
due_by_only at timer timing boot (Excepted last) only o no_boot h =
    (λ e. absurd (false≢true e), λ n. absurd (n (h.1.excepted only (o.elapsed, inl o.within))))
