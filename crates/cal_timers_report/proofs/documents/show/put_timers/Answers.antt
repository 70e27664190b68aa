use Rattle.std.proofs.Common.{map, arith}
use Rattle.std.proofs.lemmas.Grind.{common_steps}
use Rattle.cal_timers_report.specs.rules.Documents.{timer_json}
use Rattle.cal_timers_report.specs.rules.ReportView.{timer_seen}
use Rattle.cal_timers_report.proofs.JsonLemmas.{list_closed}
use Rattle.cal_timers_report.proofs.documents.show.put_timers.Goals as goal

pub returns : goal.returns
returns c = grind (arith, common_steps, list_closed (timer_json c.args.zone c.args.now.secs) c.args.out.now (map timer_seen c.args.timers.now))
