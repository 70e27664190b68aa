use Rattle.std.proofs.Common.{◌∙◌, [], ap, map, rules, sym}
use Rattle.std.proofs.lemmas.List.{get_or-map}
use Rattle.cal_timers_command.proofs.VerbFirstLemmas.{none_due, word_due}
use Rattle.cal_timers_command.proofs.verb_first.asks_due.Goals as goal

pub returns-in-Some : goal.returns-in-Some
returns-in-Some g c =
    let text = c.as_str.ensures ∙ ap g.S.AsStr.text c.index-arguments-index.is ∙ sym (get_or-map g.S.AsStr.text c.args.arguments.now c.in-Some.index _ [] c.in-Some.ensures.inside) in
    c.eq.ensures ∙ word_due (map g.S.AsStr.text c.args.arguments.now) c.in-Some.index c.as_str.result.now c.in-Some.ensures.word text

pub returns-in-None : goal.returns-in-None
returns-in-None g c = none_due (map g.S.AsStr.text c.args.arguments.now) (search rules)
