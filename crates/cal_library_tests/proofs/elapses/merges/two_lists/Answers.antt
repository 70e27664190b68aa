use Rattle.std.proofs.Common.{rules}
use Rattle.std.specs.List.Sorted.{IsStrictlySortedBy}
use Rattle.cal_library_tests.proofs.elapses.merges.two_lists.Goals as goal

pub expect_merged-requires-clause-one : goal.expect_merged-requires-clause-one
unfolding IsStrictlySortedBy
expect_merged-requires-clause-one c = search rules

pub expect_merged-requires-clause-two : goal.expect_merged-requires-clause-two
unfolding IsStrictlySortedBy
expect_merged-requires-clause-two c = search rules

pub expect_merged-requires-2-clause-one : goal.expect_merged-requires-2-clause-one
unfolding IsStrictlySortedBy
expect_merged-requires-2-clause-one c = search rules

pub expect_merged-requires-2-clause-two : goal.expect_merged-requires-2-clause-two
unfolding IsStrictlySortedBy
expect_merged-requires-2-clause-two c = search rules
