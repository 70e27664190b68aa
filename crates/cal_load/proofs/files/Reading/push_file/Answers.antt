use Rattle.cal_unit_index.specs.rules.Files.{shown_file}
use Rattle.cal_load.proofs.FileLemmas.{tried_at}
use Rattle.cal_load.proofs.files.Reading.push_file.Goals as goal

pub returns-clause-tried : goal.returns-clause-tried
returns-clause-tried c machine paths is h =
    tried_at machine paths c.args.path.now (shown_file c.args.found) c.args.self.now _ c.in_ok-from_str.field-0 _ c.in_ok-from_str.ensures.ok
    c.taken_of-taken.ensures c.in_ok-insert.ensures.updates is c.in_ok-push_text.ensures h
