-- none of the entries so far is one of the timer whose exceptions are surely ignored, so there is such an entry among
-- the remaining ones if and only if there is one among all entries
use Rattle.std.proofs.Common.{◌≡◌, drop, map}
use Rattle.std.specs.List.{list_any}
use Rattle.cal_tasks.specs.rules.Unguarded.{is_ignored_entry, unguarded_seen}
use Rattle.cal_tasks.proofs.unguarded.is_among.Given as goal

abbrev pub invariant-loop-entry : goal.invariant-loop-entry
invariant-loop-entry l =
    list_any (is_ignored_entry l.timer) (map unguarded_seen (drop l.entry-index l.unguarded))
    ≡ list_any (is_ignored_entry l.timer) (map unguarded_seen l.unguarded)
