use Rattle.std.proofs.Common.{◌≡◌, ◌++◌, map, take, string_bytes}
use Rattle.cal_tasks.proofs.notes.push_all.Given as goal

-- so far, the notes before the loop's index have been appended
abbrev pub invariant-loop-note : goal.invariant-loop-note
invariant-loop-note l =
    map (λ note. note.now) l.notes.items ≡ map (λ note. note.now) l.fn.notes.items ++ map string_bytes (take l.note-index l.more)
