use Rattle.std.proofs.Common.{◌∙◌, ap}
use Rattle.std.proofs.lemmas.Result.{IfOk-weaker}
use Rattle.cal_unit_index.specs.rules.Destinations.{destination_in}
use Rattle.cal_unit_index.specs.rules.Index.{destination_of}
use Rattle.cal_unit_index.specs.rules.Units.{unit_by}
use Rattle.cal_unit_index.proofs.IndexLemmas.{same_lookup}
use Rattle.cal_unit_index.proofs.unit.find_unit.Goals as goal

pub returns : goal.returns
returns c = record {
  known =
      IfOk-weaker c.find_indexed_unit.result _ _ (λ unit known machine search_path is.
      known
      ∙ ap (λ lookup. unit_by lookup c.args.stem.now) (same_lookup (destination_of c.args.index.now) (destination_in machine search_path) is.destinations)) c.find_indexed_unit.ensures;
}
