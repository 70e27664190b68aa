use Rattle.std.proofs.Common.{◌++◌, ◌∷◌, [], List, codes, arith}
use Rattle.std.proofs.lemmas.Grind.{common_steps, flat_map-append}
use Rattle.json.specs.Json.{Json}
use Rattle.json.specs.Token.{key}
use Rattle.json.specs.Tree.{json_tokens}
use Rattle.cal_timers_report.specs.rules.Documents.{readings_of}
use Rattle.cal_timers_report.specs.rules.ReportView.{side_seen}
use Rattle.cal_timers_report.proofs.JsonLemmas.{array_closed}
use Rattle.cal_timers_report.proofs.documents.same.put_readings.Goals as goal

pub returns : goal.returns
returns c =
    let one : List Json = readings_of (side_seen c.args.found.now.one) in
    let other : List Json = readings_of (side_seen c.args.found.now.other) in
    grind (arith, common_steps, array_closed (c.args.out.now ++ key (codes "read_as") ∷ []) (one ++ other), flat_map-append json_tokens one other)
