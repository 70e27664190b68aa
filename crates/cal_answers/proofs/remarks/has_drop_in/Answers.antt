use Rattle.std.proofs.Common.{rules, string_bytes, sym, ◌∙◌}
use Rattle.std.proofs.lemmas.Iterator.{YieldsList-from_slice}
use Rattle.std.proofs.lemmas.Iterator.Search.{any_from_yields_List}
use Rattle.cal_bytes.proofs.General.{list_any-map}
use Rattle.cal_answers.specs.rules.Remarks.{is_drop_in}
use borrow.Author.Tests.{tests}
use Rattle.cal_answers.proofs.remarks.has_drop_in.Goals as goal

pub returns : goal.returns
returns c =
    any_from_yields_List (λ target. is_drop_in (string_bytes target)) _ _ c.any.result c.any.ensures.ran (YieldsList-from_slice c.args.named.now cc) (λ x b q k. search (rules, tests))
    ∙ sym (list_any-map is_drop_in string_bytes c.args.named.now)
