use Rattle.std.proofs.Common.{◌∙◌, sym}
use Rattle.cal_cron.proofs.LineRule.{line_found, line_only}
use Rattle.cal_cron.proofs.laws.lines_are_those_of_the_rule.Goals as goal

pub returns-clause-found : goal.returns-clause-found
returns-clause-found c = line_found

pub returns-clause-only : goal.returns-clause-only
returns-clause-only c = line_only

pub returns-clause-one : goal.returns-clause-one
returns-clause-one c = λ text s t p q. let e = sym (line_only text s p) ∙ line_only text t q in cc
