-- Lemmas on timers without the lines whose zone can't be used: what was read from their files, and why nothing starts
-- their unit.
use Rattle.std.proofs.Common.{◌≡◌, ◌∙◌, ◌==◌, ℕ, All, Bool, List, [], ◌∷◌, None, false, true, ap, length, map, refl, string_bytes, subst, sym}
use Rattle.std.proofs.lemmas.Bool.{false≢true}
use Rattle.std.proofs.lemmas.List.{nil_from_length}
use Rattle.std.proofs.lemmas.Bool.{eqb-true}
use Rattle.cal_machine.specs.rules.Machine.{Machine}
use Rattle.cal_spec.specs.computed.Expr.{expr_in}
use Rattle.cal_timer.specs.declared.timer.TimerLine as declared_line
use Rattle.cal_timer.specs.rules.TimerView.{shown}
use Rattle.cal_unit_index.specs.declared.files.UnitText as texts
use Rattle.cal_unit_index.specs.rules.Files.{UnitText, shown_unit_text}
use Rattle.cal_load.specs.declared.calendar.Calendar as calendars
use Rattle.cal_load.specs.declared.calendar.IgnoredLine.{IgnoredLine}
use Rattle.cal_load.specs.declared.loaded.LoadedTimer.{LoadedTimer}
use Rattle.cal_load.specs.declared.timer_files.TimerFiles.{TimerFiles}
use Rattle.cal_load.specs.declared.zones.CalendarZones.{CalendarZones}
use Rattle.cal_load.specs.rules.CalendarZones.{expressions_in}
use Rattle.cal_load.specs.rules.Loaded.{AreFilesOf, HasZones, IsCalendarBy, IsCalendarOf, IsStarted, IsStartedBy, IsTimerReadFrom, IsZoned, broken_of_files, broken_own, entries_of_files, ignored_of_files, noted_in_files, timer_assignments, unclear_of_files}
use Rattle.cal_load.specs.rules.Notes.{note_text, starts_unit}
use Rattle.cal_load.specs.rules.Position.{AreFirstLines, HasLine}
use Rattle.cal_load.specs.rules.TextFaults.{HasNothingToDo}
use Rattle.cal_load.specs.rules.UnusableZones.{AreUnusableLines}
use Rattle.cal_load.proofs.PositionLemmas.{entries_numbered, ignored_numbered, timer_numbered}
use Rattle.cal_load.proofs.UnusableZoneLemmas.{nothing_starts, unusable_numbered, unusable_of_files, zoned_files}

pub none_shown : (lines : List declared_line.TimerLine) → (length lines == 0) ≡ true → map shown lines ≡ []
none_shown lines h = ap (map shown) (nil_from_length lines (eqb-true (length lines) 0 h))

pub some_shown : (lines : List declared_line.TimerLine) → (length lines == 0) ≡ false → map shown lines ≡ [] → ⊥
some_shown [] h e = false≢true (sym h)
some_shown (line ∷ lines) h e = cc

-- if a timer's files were read, and the lines whose zone can't be used were removed, `AreFilesOf` holds
files_read : (machine : Machine) (name : List ℕ) (all : List texts.UnitText) (read : TimerFiles) (old new : calendars.Calendar) (found : CalendarZones)
    → all ≡ read.texts.items → found.unusable.items ≡ read.unusable_zones.items
    → broken_own (map shown_unit_text all) ≡ None → read.broken.items ≡ broken_of_files (map shown_unit_text all)
    → AreFirstLines (map shown_unit_text all) read.first_lines.items
    → IsCalendarBy (timer_assignments name (map shown_unit_text all)) old → IsZoned machine old new found
    → read.ignored.items ≡ ignored_of_files name (map shown_unit_text all)
    → AreFilesOf machine name (map shown_unit_text all) found.zones read
files_read machine name all read old new found filed listed whole broken first_lines by zoned ignored =
    let files = map shown_unit_text all in
    let entries = entries_of_files name files in
    let unusable : AreUnusableLines machine found.zones entries read.unusable_zones.items =
    subst (AreUnusableLines machine found.zones entries) listed (unusable_of_files machine name files old new found by zoned) in
    record {
      has_texts = ap (map shown_unit_text) (sym filed);
      has_first_lines = first_lines;
      is_whole = whole;
      has_broken = broken;
      has_ignored = ignored;
      has_unusable_zones = unusable;
      has_ignored_lines =
          subst (All (λ (line : IgnoredLine). HasLine files line.number)) (sym ignored)
          (ignored_numbered expr_in (HasLine files) (timer_assignments name files) (timer_numbered name files));
      has_unusable_lines =
          unusable_numbered machine found.zones (HasLine files) entries read.unusable_zones.items
          (entries_numbered expr_in (HasLine files) (timer_assignments name files) (timer_numbered name files)) unusable;
    }

-- if nothing starts the unit of a timer, `HasNothingToDo` holds, which says why the files don't make a timer
pub unstarted_text : (machine : Machine) (name own : List ℕ) (all : List texts.UnitText) (read : TimerFiles) (old new : calendars.Calendar) (found : CalendarZones) (is_started : Bool)
    → name ≡ own → all ≡ read.texts.items → found.unusable.items ≡ read.unusable_zones.items
    → broken_own (map shown_unit_text all) ≡ None → read.broken.items ≡ broken_of_files (map shown_unit_text all)
    → AreFirstLines (map shown_unit_text all) read.first_lines.items
    → IsCalendarBy (timer_assignments name (map shown_unit_text all)) old → IsZoned machine old new found
    → IsStartedBy (unclear_of_files name (map shown_unit_text all)) (starts_unit (timer_assignments name (map shown_unit_text all))) is_started
    → is_started ≡ false → expressions_in new ≡ []
    → read.ignored.items ≡ ignored_of_files name (map shown_unit_text all)
    → HasNothingToDo machine own (map shown_unit_text read.texts.items) read
unstarted_text machine name own all read old new found is_started named filed listed whole broken first_lines by zoned started off none ignored =
    subst (λ name. HasNothingToDo machine name (map shown_unit_text read.texts.items) read) named
    (subst (λ all. HasNothingToDo machine name (map shown_unit_text all) read) filed (
      nothing_starts machine name (map shown_unit_text all) old new found is_started by zoned started off none,
      (found.zones, zoned.zones.1, files_read machine name all read old new found filed listed whole broken first_lines by zoned ignored),
    ))

-- the files start the unit if an expression is left, or if something else starts it
still_started : (machine : Machine) (name : List ℕ) (files : List UnitText) (old new : calendars.Calendar) (found : CalendarZones) (is_started : Bool)
    → IsCalendarBy (timer_assignments name files) old → IsZoned machine old new found
    → IsStartedBy (unclear_of_files name files) (starts_unit (timer_assignments name files)) is_started
    → (is_started ≡ false → expressions_in new ≡ [] → ⊥) → IsStarted name files found.zones
still_started machine name files old new found true by zoned started other none unclear = started.0 refl unclear
still_started machine name files old new found false by zoned started other none unclear =
    absurd (other refl ((zoned_files machine name files old new found by zoned).0 ∙ none))

-- if a timer has what was read from its files, `IsTimerReadFrom` holds for the timer and these files
pub timer_read : (machine : Machine) (name : List ℕ) (all : List texts.UnitText) (timer : LoadedTimer) (old : calendars.Calendar) (found : CalendarZones) (is_started : Bool)
    → name ≡ string_bytes timer.name → all ≡ timer.files.texts.items → found.zones ≡ timer.zones → found.unusable.items ≡ timer.files.unusable_zones.items
    → broken_own (map shown_unit_text all) ≡ None → timer.files.broken.items ≡ broken_of_files (map shown_unit_text all)
    → AreFirstLines (map shown_unit_text all) timer.files.first_lines.items
    → IsCalendarBy (timer_assignments name (map shown_unit_text all)) old → IsZoned machine old timer.calendar found
    → IsStartedBy (unclear_of_files name (map shown_unit_text all)) (starts_unit (timer_assignments name (map shown_unit_text all))) is_started
    → (is_started ≡ false → expressions_in timer.calendar ≡ [] → ⊥)
    → timer.files.ignored.items ≡ ignored_of_files name (map shown_unit_text all)
    → map string_bytes timer.notes.items ≡ map note_text (noted_in_files name (map shown_unit_text all))
    → IsTimerReadFrom machine (map shown_unit_text timer.files.texts.items) timer
timer_read machine name all timer old found is_started named filed tabled listed whole broken first_lines by zoned started other ignored notes =
    let files = map shown_unit_text all in
    let read = files_read machine name all timer.files old timer.calendar found filed listed whole broken first_lines by zoned ignored in
    let calendar = zoned_files machine name files old timer.calendar found by zoned in
    let starts = still_started machine name files old timer.calendar found is_started by zoned started other in
    subst (λ all. IsTimerReadFrom machine (map shown_unit_text all) timer) filed
    (record {
      has_files =
          subst (λ name. AreFilesOf machine name files timer.zones timer.files) named
          (subst (λ table. AreFilesOf machine name files table timer.files) tabled read);
      has_calendar = subst (λ name. IsCalendarOf name files timer.zones timer.calendar) named (subst (λ table. IsCalendarOf name files table timer.calendar) tabled calendar);
      is_started = subst (λ name. IsStarted name files timer.zones) named (subst (IsStarted name files) tabled starts);
      has_zones = subst (HasZones machine timer.calendar) tabled zoned.zones;
      has_notes = subst (λ name. map string_bytes timer.notes.items ≡ map note_text (noted_in_files name files)) named notes;
    })
