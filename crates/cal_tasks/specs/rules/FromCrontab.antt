-- Timers that were made of entries of crontabs: crontab(5).
use Rattle.std.specs.Prelude.{◌==◌, ◌&&◌, ℕ, Bool, not, List, codes, length, map, string_bytes}
use Rattle.std.specs.List.{join_by}
use Rattle.std.specs.Str.{bytes_eq}
use Rattle.cal_load.specs.declared.loaded.LoadedTimer.{LoadedTimer}
use Rattle.cal_load.specs.rules.CalendarZones.{expressions_in}

abbrev pub expression_texts : LoadedTimer → List (List ℕ)
expression_texts timer = map (λ entry. entry.text) (expressions_in timer.calendar)

abbrev pub listed : List (List ℕ) → List ℕ
listed texts = join_by (λ text. text) (codes ", ") texts

-- Whether a timer was made of texts, at least one of which is an entry of a crontab. It has no files, and its name is
-- the list of these texts: if all of them are expressions, the name is the list of its expressions.
abbrev pub is_from_crontab : LoadedTimer → Bool
is_from_crontab timer =
    length timer.files.texts.items == 0 && not (bytes_eq (listed (expression_texts timer)) (string_bytes timer.name))
