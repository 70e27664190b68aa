use Rattle.std.proofs.Common.{◌++◌, ◌∷◌, [], codes, map, arith}
use Rattle.std.proofs.lemmas.Grind.{common_steps}
use Rattle.json.specs.Token.{key}
use Rattle.cal_timers_report.specs.rules.Documents.{clock_time_json}
use Rattle.cal_timers_report.specs.rules.ReportView.{clock_time_seen}
use Rattle.cal_timers_report.proofs.JsonLemmas.{list_closed}
use Rattle.cal_timers_report.proofs.documents.show.put_clock.Goals as goal

pub returns : goal.returns
returns c = grind (arith, common_steps, list_closed clock_time_json (c.args.out.now ++ key (codes "clock") ∷ []) (map clock_time_seen c.args.times.now))
