use Rattle.std.proofs.Common.{rules}
use Rattle.std.proofs.lemmas.List.Sorted.{answers_always}
use Rattle.cal_tasks.specs.declared.clock_note.ClockNote.{ClockNote}
use Rattle.cal_tasks.proofs.skipped.sort_notes.Goals as goal

pub returns-clause-sorted : goal.returns-clause-sorted
returns-clause-sorted c =
    c.sort_unstable_by_key.ensures.sorted (λ (note : ClockNote). (note.local, note.zone)) (answers_always _ _ _ (λ f a r g called. search rules))
