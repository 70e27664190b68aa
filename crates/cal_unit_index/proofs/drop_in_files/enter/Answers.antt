use Rattle.std.proofs.Common.{◌∙◌, ap, map}
use Rattle.cal_unit_index.specs.rules.DropIns.{shown_pair}
use Rattle.cal_unit_index.proofs.DropInLemmas.{shown_insert}
use Rattle.cal_unit_index.proofs.drop_in_files.enter.Goals as goal

pub returns : goal.returns
returns c = ap (map shown_pair) c.in_ok-insert.ensures.entries ∙ shown_insert c.args.by_name.now.entries c.args.file.name c.args.file.path
