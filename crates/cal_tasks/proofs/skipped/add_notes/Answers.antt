use Rattle.cal_tasks.proofs.NoteLemmas.{one_change, two_changes}
use Rattle.cal_tasks.proofs.skipped.add_notes.Goals as goal

pub returns-in_default-next_change : goal.returns-in_default-next_change
returns-in_default-next_change c =
    one_change _ _ _ _ _ _ _ (rw c.in-Some.is at c.next_change.ensures) (rw c.in_default-next_change.is at c.next_change-2.ensures) c.in_ok-add_notes_of_change.ensures

pub returns : goal.returns
returns c =
    two_changes _ _ _ _ _ _ _ _ _ (rw c.in-Some.is at c.next_change.ensures) (rw c.in-Some-next_change.is at c.next_change-2.ensures) c.in_ok-add_notes_of_change.ensures c.in_ok-add_notes_of_change-2.ensures
