-- The report of entries as text: comments and settings, to be pasted into a unit (systemd.syntax(7)).
use Rattle.std.specs.Prelude.{ℕ, ◌==◌, ◌||◌, not, List, [], ◌++◌, Option, None, Some, codes, if◌then◌else◌}
use Rattle.std.specs.Char.{encode_utf8, is_control}
use Rattle.std.specs.Fmt.{decimal}
use Rattle.std.specs.List.{flat_map, join_by}
use Rattle.std.specs.Str.{chars}
use Rattle.cal_timers_report.specs.rules.PrintableText.{code_text, printable_text}
use Rattle.cal_crontabs.specs.rules.Entries.{EntryView}

-- the path and the number of a line, if it is in a file
abbrev pub place_lines : Option (List ℕ) → ℕ → List ℕ
place_lines None line = []
place_lines (Some file) line = codes "# " ++ (printable_text file ++ (codes ":" ++ (decimal line ++ codes "\n")))

-- a character in a comment: a control character other than a tab as its code, and any other character unchanged
abbrev pub comment_char : ℕ → List ℕ
comment_char sign = if sign == 9 || not (is_control sign) then encode_utf8 sign else code_text sign

abbrev pub comment_text : List ℕ → List ℕ
comment_text text = flat_map comment_char (chars text)

abbrev pub comment_line : List ℕ → List ℕ
comment_line text = codes "# " ++ (comment_text text ++ codes "\n")

abbrev pub note_line : List ℕ → List ℕ
note_line note = codes "# Note: " ++ (printable_text note ++ codes "\n")

abbrev pub note_lines : List (List ℕ) → List ℕ
note_lines notes = flat_map note_line notes

abbrev pub setting_line : List ℕ → List ℕ
setting_line setting = setting ++ codes "\n"

abbrev pub setting_lines : List (List ℕ) → List ℕ
setting_lines settings = flat_map setting_line settings

-- the comments about an entry, and its settings
unfoldable pub entry_text : EntryView → List ℕ
entry_text entry =
    place_lines entry.file entry.line
    ++ (comment_line entry.text ++ (note_lines entry.notes ++ setting_lines entry.settings))

-- the texts about all entries, with an empty line between two of them
abbrev pub entries_text : List EntryView → List ℕ
entries_text entries = join_by entry_text (codes "\n") entries
