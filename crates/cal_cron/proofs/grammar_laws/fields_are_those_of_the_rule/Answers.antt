use Rattle.cal_cron.proofs.FieldRule.{field_only}
use Rattle.cal_cron.proofs.grammar_laws.fields_are_those_of_the_rule.Goals as goal

pub returns-clause-only : goal.returns-clause-only
returns-clause-only c = field_only
