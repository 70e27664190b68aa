use Rattle.std.proofs.Common.{rules, lit<, length, ◌==◌}
use Rattle.std.specs.Prelude.{not}
use Rattle.std.proofs.lemmas.Iterator.Consumers.{YieldsList-at, YieldsList-from_filter, map_from_collect}
use Rattle.std.proofs.lemmas.Iterator.Splits.{YieldsList-from_str_split}
use Rattle.cal_unit_index.specs.rules.SearchPath.{paths_in}
use Rattle.cal_unit_index.proofs.paths.paths_in.Goals as goal
use borrow.Author.Tests.{tests}

pub returns : goal.returns
unfolding paths_in
returns c =
    map_from_collect _ c.collect.ensures.ran
    (YieldsList-from_filter _ (λ path. not (length path == 0))
    (YieldsList-at c.filter.ensures.source (YieldsList-from_str_split 58 c.args.list.now (lit< tt) c.split.ensures.text c.split.ensures.has_more c.split.ensures.pattern))
    c.filter.ensures.closure (λ x r q k. search (rules, tests)))
