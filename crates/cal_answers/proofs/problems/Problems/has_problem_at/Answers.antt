use Rattle.std.proofs.Common.{rules, sym, ◌∙◌}
use Rattle.std.proofs.lemmas.Iterator.{YieldsList-from_slice}
use Rattle.std.proofs.lemmas.Iterator.Search.{any_from_yields_List}
use Rattle.cal_bytes.proofs.General.{list_any-map}
use Rattle.cal_answers.specs.rules.LintRows.{Listed, is_problem_at, listed_as}
use borrow.Author.Tests.{tests}
use Rattle.cal_answers.proofs.problems.Problems.has_problem_at.Goals as goal

pub returns : goal.returns
returns c =
    let items = c.args.self.now.list.items in
    any_from_yields_List (λ known. is_problem_at c.args.file.now c.args.line (listed_as known).row) _ _ c.any.result c.any.ensures.ran (YieldsList-from_slice items cc) (λ x b q k. search (rules, tests))
    ∙ sym (list_any-map (λ (known : Listed). is_problem_at c.args.file.now c.args.line known.row) listed_as items)
