use Rattle.std.proofs.Common.{◌<◌, ◌∙◌, ap, arith, get_or, length, List, map, string_bytes, subst}
use Rattle.cal_unit_index.specs.declared.aliases.Alias as aliases
use Rattle.cal_unit_index.specs.rules.Index.{destination_of}
use Rattle.cal_unit_index.specs.rules.Names.{name_by, shown_alias}
use Rattle.cal_unit_index.proofs.IndexLemmas.{set_more}
use Rattle.cal_unit_index.proofs.names.given_names.Goals as goal

pub loop-alias-preserved : goal.loop-alias-preserved
loop-alias-preserved c =
    let alias = c.alias-item.result in
    let index = c.loop-alias.alias-index in
    set_more (name_by (destination_of c.args.index.now) (string_bytes c.args.file.now.file) (string_bytes c.args.file.now.stem)) shown_alias c.args.index.now.aliases.items
    index alias (map string_bytes c.loop-alias.names.keys) (map string_bytes c.add_given.new.names.keys)
    (subst (λ (items : List aliases.Alias). index < length items) c.as_slice-alias-items.ensures.value (omega arith))
    (c.alias-item.is ∙ ap (λ (items : List aliases.Alias). get_or items index alias) c.as_slice-alias-items.ensures.value)
    c.in_ok-add_given.ensures c.loop-alias.invariant
