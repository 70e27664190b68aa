use Rattle.std.proofs.Common.{rules}
use Rattle.std.specs.List.Sorted.{IsStrictlySortedBy}
use Rattle.cal_library_tests.proofs.refused.merged_lists.Goals as goal

pub add-requires-clause-sorted : goal.add-requires-clause-sorted
unfolding IsStrictlySortedBy
add-requires-clause-sorted c = search rules

pub add-requires-2-clause-sorted : goal.add-requires-2-clause-sorted
unfolding IsStrictlySortedBy
add-requires-2-clause-sorted c = search rules
