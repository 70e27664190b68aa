use Rattle.cal_stamp.proofs.StampRuleLemmas as rule
use Rattle.cal_stamp.proofs.laws.one_form.Goals as goal

pub returns-clause-found : goal.returns-clause-found
returns-clause-found c = rule.found

pub returns-clause-only : goal.returns-clause-only
returns-clause-only c = rule.only
