use Rattle.std.proofs.Common.{not, rules, string_bytes, sym, ◌∙◌}
use Rattle.std.proofs.lemmas.Iterator.{YieldsList-from_slice}
use Rattle.std.proofs.lemmas.Iterator.Search.{any_from_yields_List}
use Rattle.cal_load.specs.rules.AllTargets.{is_path}
use Rattle.cal_bytes.proofs.General.{list_any-map}
use borrow.Author.Tests.{tests}
use Rattle.cal_answers.proofs.index.has_name.Goals as goal

pub returns : goal.returns
returns c =
    any_from_yields_List (λ text. not (is_path (string_bytes text))) _ _ c.any.result c.any.ensures.ran (YieldsList-from_slice c.args.named.now cc) (λ x b q k. search (rules, tests))
    ∙ sym (list_any-map (λ text. not (is_path text)) string_bytes c.args.named.now)
