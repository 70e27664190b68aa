use Rattle.std.proofs.Common.{◌∙◌, ap, map, string_bytes}
use Rattle.std.proofs.lemmas.Result.{IfOk-weaker}
use Rattle.cal_unit_index.specs.rules.Destinations.{destination_in}
use Rattle.cal_unit_index.specs.rules.Index.{destination_of}
use Rattle.cal_unit_index.specs.rules.Names.{names_with, shown_alias}
use Rattle.cal_unit_index.proofs.IndexLemmas.{same_lookup}
use Rattle.cal_unit_index.proofs.names.names_of.Goals as goal

pub returns : goal.returns
returns c = record {
  known =
      IfOk-weaker c.indexed_names.result _ _ (λ names known machine search_path is.
      let file = string_bytes c.args.file.now.file in
      let own = string_bytes c.args.file.now.stem in
      known
      ∙ ap (λ lookup. names_with lookup (map shown_alias c.args.index.now.aliases.items) file own c.args.asked.now) (same_lookup (destination_of c.args.index.now) (destination_in machine search_path) is.destinations)
      ∙ ap (λ aliases. names_with (destination_in machine search_path) aliases file own c.args.asked.now) is.aliases) c.indexed_names.ensures;
}
