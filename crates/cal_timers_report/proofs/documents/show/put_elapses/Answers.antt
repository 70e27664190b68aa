use Rattle.std.proofs.Common.{◌++◌, ◌∷◌, [], codes, map, arith}
use Rattle.std.proofs.lemmas.Grind.{common_steps}
use Rattle.json.specs.Token.{key}
use Rattle.cal_timers_report.specs.rules.Documents.{elapse_json}
use Rattle.cal_timers_report.proofs.JsonLemmas.{list_closed}
use Rattle.cal_timers_report.proofs.documents.show.put_elapses.Goals as goal

pub returns : goal.returns
returns c = grind (arith, common_steps, list_closed (elapse_json c.args.zone c.args.now.secs) (c.args.out.now ++ key (codes "elapses") ∷ []) (map (λ instant. instant.secs) c.args.elapses.now))
