use Rattle.std.proofs.Common.{◌++◌, ◌∷◌, [], map, arith}
use Rattle.std.proofs.lemmas.Grind.{common_steps}
use Rattle.json.specs.Token.{key}
use Rattle.cal_timers_report.specs.rules.Documents.{line_json}
use Rattle.cal_timers_report.specs.rules.ReportView.{line_seen}
use Rattle.cal_timers_report.proofs.JsonLemmas.{list_closed}
use Rattle.cal_timers_report.proofs.documents.show.put_lines.Goals as goal

pub returns : goal.returns
returns c = grind (arith, common_steps, list_closed line_json (c.args.out.now ++ key c.args.name.now ∷ []) (map line_seen c.args.lines.now))
