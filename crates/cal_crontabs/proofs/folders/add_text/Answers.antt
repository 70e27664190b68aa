use Rattle.std.proofs.Common.{◌∙◌, ap, map, string_bytes}
use Rattle.cal_unit_index.proofs.IndexLemmas.{shown_insert_key}
use Rattle.cal_crontabs.proofs.folders.add_text.Goals as goal

pub returns : goal.returns
returns c = ap (map string_bytes) c.in_ok-insert.ensures.keys ∙ shown_insert_key c.args.found.now.keys c.args.name
