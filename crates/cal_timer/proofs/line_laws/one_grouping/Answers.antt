use Rattle.cal_timer.proofs.LineRuleLemmas.{are_groups, groups_of_lines, lines_of_groups}
use Rattle.cal_timer.proofs.line_laws.one_grouping.Goals as goal

pub returns : goal.returns
returns c = record { lines = lines_of_groups; some = are_groups; only = groups_of_lines }
