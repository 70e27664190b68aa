use Rattle.std.proofs.Common.{map, string_bytes}
use Rattle.cal_crontabs.specs.rules.Crontabs.{is_taken}
use Rattle.cal_unit_index.proofs.IndexLemmas.{passing_pushed}
use Rattle.cal_crontabs.proofs.folders.taken_names.Goals as goal

pub loop-name-preserved : goal.loop-name-preserved
loop-name-preserved c =
    passing_pushed (is_taken c.args.rule) string_bytes (map string_bytes c.loop-name.found.keys) _ c.loop-name.yielded c.in-Some.name
    c.in_ok-add_name.ensures c.loop-name.invariant
