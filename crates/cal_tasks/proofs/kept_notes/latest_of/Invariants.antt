-- None of the notes before the loop's index is later than the latest.
use Rattle.cal_tasks.proofs.KeptLemmas.{IsLatestBefore}
use Rattle.cal_tasks.proofs.kept_notes.latest_of.Given as goal

abbrev pub invariant-loop-index : goal.invariant-loop-index
invariant-loop-index l = IsLatestBefore l.notes l.index l.latest
