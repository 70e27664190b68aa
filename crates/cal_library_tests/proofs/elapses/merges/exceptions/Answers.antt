use Rattle.std.proofs.Common.{rules}
use Rattle.std.specs.List.Sorted.{IsStrictlySortedBy}
use Rattle.cal_library_tests.proofs.elapses.merges.exceptions.Goals as goal

pub expect_without-requires-clause-one : goal.expect_without-requires-clause-one
unfolding IsStrictlySortedBy
expect_without-requires-clause-one c = search rules

pub expect_without-requires-clause-two : goal.expect_without-requires-clause-two
unfolding IsStrictlySortedBy
expect_without-requires-clause-two c = search rules

pub expect_without-requires-clause-exception : goal.expect_without-requires-clause-exception
unfolding IsStrictlySortedBy
expect_without-requires-clause-exception c = search rules

pub expect_without-requires-2-clause-one : goal.expect_without-requires-2-clause-one
unfolding IsStrictlySortedBy
expect_without-requires-2-clause-one c = search rules

pub expect_without-requires-2-clause-two : goal.expect_without-requires-2-clause-two
unfolding IsStrictlySortedBy
expect_without-requires-2-clause-two c = search rules

pub expect_without-requires-2-clause-exception : goal.expect_without-requires-2-clause-exception
unfolding IsStrictlySortedBy
expect_without-requires-2-clause-exception c = search rules
