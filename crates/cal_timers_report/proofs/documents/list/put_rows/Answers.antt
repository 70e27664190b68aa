use Rattle.std.proofs.Common.{map, arith}
use Rattle.std.proofs.lemmas.Grind.{common_steps}
use Rattle.cal_timers_report.specs.rules.Documents.{unit_json}
use Rattle.cal_timers_report.specs.rules.ReportView.{unit_seen}
use Rattle.cal_timers_report.proofs.JsonLemmas.{list_closed}
use Rattle.cal_timers_report.proofs.documents.list.put_rows.Goals as goal

pub returns : goal.returns
returns c = grind (arith, common_steps, list_closed (unit_json c.args.zone c.args.now.secs) c.args.out.now (map unit_seen c.args.rows.now))
