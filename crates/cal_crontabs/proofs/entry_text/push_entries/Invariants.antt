use Rattle.std.proofs.Common.{◌≡◌, ◌++◌, codes, map, take, string_bytes}
use Rattle.std.specs.List.{flat_map}
use Rattle.cal_crontabs.specs.rules.Entries.{entry_seen}
use Rattle.cal_crontabs.specs.rules.EntryText.{entry_text}
use Rattle.cal_crontabs.proofs.entry_text.push_entries.Given as goal

-- for each entry that the loop has visited, an empty line and the entry's text have been appended
abbrev pub invariant-loop-entry : goal.invariant-loop-entry
invariant-loop-entry l =
    string_bytes l.out
    ≡ string_bytes l.initial.out ++ flat_map (λ entry. codes "\n" ++ entry_text entry) (map entry_seen (take l.entry-index l.others))
