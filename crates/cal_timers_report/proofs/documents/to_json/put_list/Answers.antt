use Rattle.std.proofs.Common.{map, arith}
use Rattle.std.proofs.lemmas.Grind.{common_steps}
use Rattle.cal_timers_report.proofs.JsonLemmas.{list_closed}
use Rattle.cal_timers_report.proofs.documents.to_json.put_list.Goals as goal

pub returns : goal.returns
returns g c = grind (arith, common_steps, list_closed g.T.ToJson.json c.args.out.now (map g.T.ToJson.shown c.args.values.now))
