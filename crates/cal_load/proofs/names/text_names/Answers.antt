use Rattle.std.proofs.Common.{map, string_bytes}
use Rattle.cal_load.specs.rules.AllTargets.{is_text_name}
use Rattle.cal_unit_index.proofs.IndexLemmas.{passing_pushed}
use Rattle.cal_load.proofs.names.text_names.Goals as goal

pub loop-name-preserved : goal.loop-name-preserved
loop-name-preserved c =
    passing_pushed is_text_name string_bytes (map string_bytes c.loop-name.found.keys) _ c.loop-name.yielded c.in-Some.name
    c.in_ok-add_text_name.ensures c.loop-name.invariant
