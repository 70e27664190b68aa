use Rattle.std.proofs.Common.{◌≡◌, ◌+◌, ◌-◌, ◌++◌, ◌∷◌, ◌∙◌, [], ap, drop, length, map, rules, sym, take}
use Rattle.std.proofs.lemmas.List.{get_or-map}
use Rattle.cal_timers_command.specs.rules.Texts.{texts_of}
use Rattle.cal_timers_command.proofs.VerbFirstLemmas.{moved}
use Rattle.cal_timers_command.proofs.verb_first.moved_first.Goals as goal

pub returns : goal.returns
returns g c =
    let pushed : texts_of c.push.new.self.items ≡ g.S.AsStr.text c.index-arguments-index.result ∷ [] = search rules in
    let before : texts_of c.push_texts.new.texts.items ≡ texts_of c.push.new.self.items ++ map g.S.AsStr.text (take c.args.index c.args.arguments.now) = search rules in
    let after : texts_of c.push_texts-2.new.texts.items ≡ texts_of c.push_texts.new.texts.items
    ++ map g.S.AsStr.text (take (length c.args.arguments.now - (c.args.index + 1)) (drop (c.args.index + 1) c.args.arguments.now)) = search rules in
    moved g.S.AsStr.text c.args.arguments.now c.args.index _ _ _ _ pushed before after
    (ap g.S.AsStr.text c.index-arguments-index.is ∙ sym (get_or-map g.S.AsStr.text c.args.arguments.now c.args.index _ [] c.requires))
