use Rattle.std.proofs.Common.{map, arith}
use Rattle.std.proofs.lemmas.Grind.{common_steps}
use Rattle.cal_timers_report.specs.rules.Documents.{unit_elapse_json}
use Rattle.cal_timers_report.specs.rules.ReportView.{elapse_seen}
use Rattle.cal_timers_report.proofs.JsonLemmas.{list_closed}
use Rattle.cal_timers_report.proofs.documents.between.put_elapses.Goals as goal

pub returns : goal.returns
returns c = grind (arith, common_steps, list_closed (unit_elapse_json c.args.zone) c.args.out.now (map elapse_seen c.args.elapses.now))
