-- Each note so far is about one of the expressions, and none about the expressions before the loop's index is missing.
use Rattle.std.proofs.Common.{map}
use Rattle.std.specs.List.{All, AllWithin}
use Rattle.cal_timer.specs.rules.TimerView.{shown}
use Rattle.cal_zone.specs.rules.Setting.{setting_seen}
use Rattle.cal_tasks.specs.rules.ClockNotes.{AreNotesOf, IsNoteAmong}
use Rattle.cal_tasks.specs.computed.KeptNotes.{max_kept}
use Rattle.cal_tasks.proofs.skipped.notes_of_lines.Given as goal

abbrev pub invariant-loop-index : goal.invariant-loop-index
invariant-loop-index l = record {
  sound : All (IsNoteAmong (setting_seen l.setting) l.setting.now.secs (map shown l.lines)) l.notes.items;
  all : AllWithin (AreNotesOf (setting_seen l.setting) l.setting.now.secs (map shown l.lines) max_kept l.notes.items) (map shown l.lines) 0 l.index;
}
