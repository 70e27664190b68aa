use Rattle.std.proofs.Common.{rules, string_bytes, sym, ◌∙◌}
use Rattle.std.proofs.lemmas.Iterator.{YieldsList-from_slice}
use Rattle.std.proofs.lemmas.Iterator.Search.{any_from_yields_List}
use Rattle.std.specs.Str.{bytes_eq}
use Rattle.cal_bytes.proofs.General.{list_any-map}
use borrow.Author.Tests.{tests}
use Rattle.cal_answers.proofs.answer.has_line.Goals as goal

pub returns : goal.returns
returns c =
    any_from_yields_List (λ known. bytes_eq (string_bytes known) c.args.line.now) _ _ c.any.result c.any.ensures.ran (YieldsList-from_slice c.args.lines.now cc) (λ x b q k. search (rules, tests))
    ∙ sym (list_any-map (λ known. bytes_eq known c.args.line.now) string_bytes c.args.lines.now)
