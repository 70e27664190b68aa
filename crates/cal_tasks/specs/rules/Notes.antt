-- The notes of a timer that aren't its settings, in the reports of `list`, `show` and `next`.
use Rattle.std.specs.Prelude.{◌==◌, ◌&&◌, ℕ, Bool, not, List, [], ◌∷◌, codes, if◌then◌else◌, length}
use Rattle.cal_load.specs.declared.loaded.LoadedTimer.{LoadedTimer}
use Rattle.cal_tasks.specs.rules.FromCrontab.{is_from_crontab}
use Rattle.cal_tasks.specs.rules.Unguarded.{UnguardedView, has_ignored_exceptions}

-- the note if `is_noted` is true, and otherwise no note
abbrev pub note_if : Bool → List ℕ → List (List ℕ)
note_if is_noted note = if is_noted then note ∷ [] else []

abbrev pub exceptions_note : List UnguardedView → LoadedTimer → List (List ℕ)
exceptions_note unguarded timer = note_if (has_ignored_exceptions unguarded timer) (codes "exceptions ignored by systemd")

-- the note about a timer that was made of an entry of a crontab, if clock changes skip or repeat some of its local times
abbrev pub cron_note : {X : Type 0} → LoadedTimer → List X → List (List ℕ)
cron_note timer changes =
    note_if (is_from_crontab timer && not (length changes == 0)) (codes "cron has rules of its own for clock changes: cron(8)")
