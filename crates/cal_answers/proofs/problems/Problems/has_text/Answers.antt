use Rattle.std.proofs.Common.{rules, sym, ◌∙◌}
use Rattle.std.proofs.lemmas.Iterator.{YieldsList-from_slice}
use Rattle.std.proofs.lemmas.Iterator.Search.{any_from_yields_List}
use Rattle.std.specs.Str.{bytes_eq}
use Rattle.cal_bytes.proofs.General.{list_any-map}
use Rattle.cal_answers.specs.rules.LintRows.{Listed, listed_as}
use borrow.Author.Tests.{tests}
use Rattle.cal_answers.proofs.problems.Problems.has_text.Goals as goal

pub returns : goal.returns
returns c =
    let items = c.args.self.now.list.items in
    any_from_yields_List (λ known. bytes_eq (listed_as known).text c.args.text.now) _ _ c.any.result c.any.ensures.ran (YieldsList-from_slice items cc) (λ x b q k. search (rules, tests))
    ∙ sym (list_any-map (λ (known : Listed). bytes_eq known.text c.args.text.now) listed_as items)
