use Rattle.std.proofs.Common.{◌∙◌, [], ap, map, rules, sym}
use Rattle.std.proofs.lemmas.List.{get_or-map}
use Rattle.std.proofs.lemmas.Result.{IfOk-weaker}
use Rattle.cal_timers_command.proofs.VerbFirstLemmas.{led, not_led, none_led}
use Rattle.cal_timers_command.proofs.verb_first.with_verb_first.Goals as goal

pub returns-in_default : goal.returns-in_default
returns-in_default g c =
    IfOk-weaker c.list_first.result _ _ (λ texts is. is ∙ none_led (map g.S.AsStr.text c.args.arguments.now) (search rules)) c.list_first.ensures

pub returns-then-leads : goal.returns-then-leads
returns-then-leads g c =
    let text = c.as_str.ensures ∙ ap g.S.AsStr.text c.index-arguments-index.is ∙ sym (get_or-map g.S.AsStr.text c.args.arguments.now c.in-Some.index _ [] c.in-Some.ensures.inside) in
    IfOk-weaker c.moved_first.result _ _ (λ texts is. is ∙ led (map g.S.AsStr.text c.args.arguments.now) c.in-Some.index _ c.in-Some.ensures.word text (sym c.leads.ensures ∙ c.if-leads.true)) c.moved_first.ensures

pub returns-else-leads : goal.returns-else-leads
returns-else-leads g c =
    let text = c.as_str.ensures ∙ ap g.S.AsStr.text c.index-arguments-index.is ∙ sym (get_or-map g.S.AsStr.text c.args.arguments.now c.in-Some.index _ [] c.in-Some.ensures.inside) in
    IfOk-weaker c.list_first-else-leads.result _ _ (λ texts is. is ∙ not_led (map g.S.AsStr.text c.args.arguments.now) c.in-Some.index _ c.in-Some.ensures.word text (sym c.leads.ensures ∙ c.if-leads.false)) c.list_first-else-leads.ensures
