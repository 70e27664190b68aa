use Rattle.std.proofs.Common.{rules}
use Rattle.std.specs.List.Sorted.{IsStrictlySortedBy}
use Rattle.cal_library_tests.proofs.refused.an_exception.Goals as goal

pub merge_two-requires-clause-one : goal.merge_two-requires-clause-one
unfolding IsStrictlySortedBy
merge_two-requires-clause-one c = search rules

pub merge_two-requires-clause-two : goal.merge_two-requires-clause-two
unfolding IsStrictlySortedBy
merge_two-requires-clause-two c = search rules

pub listed-requires : goal.listed-requires
unfolding IsStrictlySortedBy
listed-requires c = search rules
