use Rattle.std.proofs.Common.{map, arith, string_bytes}
use Rattle.std.proofs.lemmas.Grind.{common_steps}
use Rattle.json.specs.Json.{string}
use Rattle.cal_timers_report.proofs.JsonLemmas.{list_closed}
use Rattle.cal_crontabs.proofs.document.put_strings.Goals as goal

pub returns : goal.returns
returns c = grind (arith, common_steps, list_closed string c.args.out.now (map string_bytes c.args.texts.now))
