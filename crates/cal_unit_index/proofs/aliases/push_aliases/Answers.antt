use Rattle.std.proofs.Common.{map}
use Rattle.cal_unit_index.specs.rules.Index.{destination_of}
use Rattle.cal_unit_index.specs.rules.Names.{alias_with, shown_alias}
use Rattle.cal_unit_index.proofs.IndexLemmas.{appended_more}
use Rattle.cal_unit_index.proofs.aliases.push_aliases.Goals as goal

pub loop-stem-preserved : goal.loop-stem-preserved
loop-stem-preserved c =
    appended_more (alias_with (destination_of c.args.index.now)) (λ stem. stem.now) (map shown_alias c.args.aliases.now.items) (map shown_alias c.loop-stem.aliases.items)
    (map shown_alias c.push_alias.new.aliases.items) c.loop-stem.yielded c.in-Some.stem c.in_ok-push_alias.ensures c.loop-stem.invariant
