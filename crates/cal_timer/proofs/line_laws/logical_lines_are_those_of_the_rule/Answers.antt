use Rattle.cal_timer.proofs.LogicalRuleLemmas.{logical_are, logical_only}
use Rattle.cal_timer.proofs.line_laws.logical_lines_are_those_of_the_rule.Goals as goal

pub returns : goal.returns
returns c = record { these = logical_are; only = logical_only }
