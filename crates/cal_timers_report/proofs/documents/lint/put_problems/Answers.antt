use Rattle.std.proofs.Common.{map, arith}
use Rattle.std.proofs.lemmas.Grind.{common_steps}
use Rattle.cal_timers_report.specs.rules.Documents.{problem_json}
use Rattle.cal_timers_report.specs.rules.ReportView.{problem_seen}
use Rattle.cal_timers_report.proofs.JsonLemmas.{list_closed}
use Rattle.cal_timers_report.proofs.documents.lint.put_problems.Goals as goal

pub returns : goal.returns
returns c = grind (arith, common_steps, list_closed problem_json c.args.out.now (map problem_seen c.args.rows.now))
