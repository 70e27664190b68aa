use Rattle.std.proofs.Common.{rules}
use Rattle.std.proofs.lemmas.Iterator.{YieldsList-from_slice}
use Rattle.std.proofs.lemmas.Iterator.Search.{any_from_yields_List}
use Rattle.cal_answers.specs.rules.Remarks.{is_unknown}
use borrow.Author.Tests.{tests}
use Rattle.cal_answers.proofs.remarks.has_unknown.Goals as goal

pub returns : goal.returns
returns c =
    any_from_yields_List (is_unknown c.args.target.now) _ _ c.any.result c.any.ensures.ran (YieldsList-from_slice c.args.faults.now cc) (λ x b q k. search (rules, tests))
