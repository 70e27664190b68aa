-- The report of entries as a JSON document (RFC 8259). The names and the order of the members are this project's own choice.
use Rattle.std.specs.Prelude.{ℕ, List, [], ◌∷◌, codes}
use Rattle.json.specs.Json.{Json, string}
use Rattle.cal_timers_report.specs.rules.JsonParts.{json_document, list_of, natural, object_of, or_null}
use Rattle.cal_crontabs.specs.rules.Entries.{EntryView}

abbrev pub entry_members : EntryView → List (List ℕ × Json)
entry_members entry = (
    (codes "file", or_null string entry.file)
    ∷ (codes "line", natural entry.line)
    ∷ (codes "text", string entry.text)
    ∷ (codes "user", or_null string entry.user)
    ∷ (codes "command", string entry.command)
    ∷ (codes "input", or_null string entry.input)
    ∷ (codes "settings", list_of string entry.settings)
    ∷ (codes "notes", list_of string entry.notes)
    ∷ [])

abbrev pub entry_json : EntryView → Json
entry_json entry = object_of (entry_members entry)

-- an array with an object for each entry
abbrev pub entries_document : List EntryView → List ℕ
entries_document entries = json_document (list_of entry_json entries)
