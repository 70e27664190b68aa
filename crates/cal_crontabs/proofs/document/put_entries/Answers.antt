use Rattle.std.proofs.Common.{map, arith}
use Rattle.std.proofs.lemmas.Grind.{common_steps}
use Rattle.cal_crontabs.specs.rules.Document.{entry_json}
use Rattle.cal_crontabs.specs.rules.Entries.{entry_seen}
use Rattle.cal_timers_report.proofs.JsonLemmas.{list_closed}
use Rattle.cal_crontabs.proofs.document.put_entries.Goals as goal

pub returns : goal.returns
returns c = grind (arith, common_steps, list_closed entry_json c.args.out.now (map entry_seen c.args.entries.now))
