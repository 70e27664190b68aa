use Rattle.cal_spec.proofs.ExprRule.{read_is_spelled, rejected_found, rejected_only, spelled_is_read}
use Rattle.cal_spec.proofs.GrammarFaults.{either, fault_found, fault_only, never_both, one_fault}
use Rattle.cal_spec.proofs.WholeRule.{valid_found, valid_only, one_expression}
use Rattle.cal_spec.proofs.grammar_laws.expressions_are_those_of_the_rule.Goals as goal

pub returns-clause-found : goal.returns-clause-found
returns-clause-found c = valid_found

pub returns-clause-only : goal.returns-clause-only
returns-clause-only c = valid_only

pub returns-clause-one : goal.returns-clause-one
returns-clause-one c = one_expression

pub returns-clause-normal : goal.returns-clause-normal
returns-clause-normal c = λ text f. (read_is_spelled text f, spelled_is_read text f)

pub returns-clause-fault : goal.returns-clause-fault
returns-clause-fault c = λ text e. (fault_found text e, fault_only text e)

pub returns-clause-rejected : goal.returns-clause-rejected
returns-clause-rejected c = λ text e. (rejected_found text e, rejected_only text e)

pub returns-clause-one_fault : goal.returns-clause-one_fault
returns-clause-one_fault c = one_fault

pub returns-clause-either : goal.returns-clause-either
returns-clause-either c = either

pub returns-clause-never_both : goal.returns-clause-never_both
returns-clause-never_both c = never_both
