use Rattle.std.proofs.Common.{◌∙◌, ap, string_bytes, sym}
use Rattle.std.proofs.lemmas.Option.{same_Some}
use Rattle.std.proofs.lemmas.Result.{IfOk-weaker}
use Rattle.std.specs.Prelude.{option_map}
use Rattle.cal_load.proofs.ExpressionLemmas.{text_found}
use Rattle.cal_load.proofs.expressions.first_text.Goals as goal

pub returns-in-Some : goal.returns-in-Some
returns-in-Some c =
    IfOk-weaker c.from_str.result _ _ (λ found is text first.
    is ∙ c.as_str.ensures.value
    ∙ same_Some _ _ (ap (option_map (λ line. string_bytes line.now.text)) (sym c.in-Some.is)
    ∙ text_found c.args.zone.now text c.args.lines.now c.first_with_zone.result c.first_with_zone.ensures first))
    c.from_str.ensures.ok

pub returns-in-None : goal.returns-in-None
returns-in-None c text first =
    let none = ap (option_map (λ line. string_bytes line.now.text)) (sym c.in-None.is)
    ∙ text_found c.args.zone.now text c.args.lines.now c.first_with_zone.result c.first_with_zone.ensures first in
    absurd (cc)
