use Rattle.std.proofs.Common.{◌≡◌, ◌∙◌, [], Err, false, map, refl, rules, subst, sym}
use Rattle.std.proofs.lemmas.Bool.{both_ways}
use Rattle.cal_unit_index.specs.rules.Files.{shown_unit_text}
use Rattle.cal_load.specs.rules.CalendarZones.{expressions_in}
use Rattle.cal_load.specs.rules.TextFaults.{IsTextFault}
use Rattle.cal_load.proofs.ZonedTimerLemmas.{none_shown, some_shown, timer_read, unstarted_text}
use Rattle.cal_load.proofs.unit.timer_from_files.Goals as goal
use Rattle.cal_load.proofs.unit.timer_from_files.Goals.{else-not-is_started-via-then-not-is_started+else-is_empty, else-not-is_started-via-else-not-is_started}

pub returns-in_err-parsed-clause-fault : goal.returns-in_err-parsed-clause-fault
returns-in_err-parsed-clause-fault g c =
    let same : c.from_residual.result ≡ Err c.in_err-parsed.field-0.0 = search rules in
    rw same (λ machine shows.
    subst (λ name. IsTextFault machine name (map shown_unit_text c.args.files.items) c.in_err-parsed.field-0.0) c.as_str.ensures.value
    (subst (λ files. IsTextFault machine c.as_str.result.now (map shown_unit_text files) c.in_err-parsed.field-0.0) c.as_slice.ensures.value
    (c.in_err-parsed.ensures.fault machine)))

pub returns-then-is_empty-clause-fault : goal.returns-then-is_empty-clause-fault
returns-then-is_empty-clause-fault g c machine shows =
    let parsed = c.in_ok-parsed.ensures in
    let none = sym c.lines.ensures ∙ none_shown c.lines.result.now (sym c.is_empty.ensures ∙ c.if-is_empty.true) in (
      refl,
      unstarted_text machine c.as_str.result.now _ c.as_slice.result.now _ c.in_ok-parsed.parsed.calendar c.load_calendar_zones.new.calendar c.in_ok-found.found
          c.in_ok-parsed.parsed.is_started c.as_str.ensures.value c.as_slice.ensures.value refl parsed.whole parsed.broken parsed.numbered parsed.calendar
          (c.in_ok-found.ensures.known machine shows) parsed.starts c.if-not-is_started.true none parsed.ignored,
    )

pub returns-clause-read : goal.returns-clause-read
returns-clause-read g c machine shows =
    let other : c.in_ok-parsed.parsed.is_started ≡ false → expressions_in c.load_calendar_zones.new.calendar ≡ [] → ⊥ =
    elim c.else-not-is_started.branch [
      | else-not-is_started-via-then-not-is_started+else-is_empty w ↦ λ off none. some_shown w.lines.result.now (sym w.is_empty.ensures ∙ w.if-is_empty.false) (w.lines.ensures ∙ none)
      | else-not-is_started-via-else-not-is_started w ↦ λ off none. both_ways _ off w.if-not-is_started.false
    ] in
    let parsed = c.in_ok-parsed.ensures in
    timer_read machine c.as_str.result.now c.as_slice.result.now _ c.in_ok-parsed.parsed.calendar c.in_ok-found.found c.in_ok-parsed.parsed.is_started
    c.as_str.ensures.value c.as_slice.ensures.value refl refl parsed.whole parsed.broken parsed.numbered parsed.calendar (c.in_ok-found.ensures.known machine shows)
    parsed.starts other parsed.ignored parsed.notes
