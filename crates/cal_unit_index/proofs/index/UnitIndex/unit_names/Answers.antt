use Rattle.std.proofs.Common.{◌∙◌, ap, filter}
use Rattle.std.proofs.lemmas.Result.{IfOk-weaker}
use Rattle.cal_unit_index.specs.rules.Destinations.{sorted_once, stems_of}
use Rattle.cal_unit_index.specs.rules.Index.{is_unit}
use Rattle.cal_unit_index.proofs.IndexLemmas.{each_folder}
use Rattle.cal_unit_index.proofs.index.UnitIndex.unit_names.Goals as goal

pub returns : goal.returns
returns c = record {
  known =
      IfOk-weaker c.find_unit_names.result _ _ (λ names known machine search_path is.
      known
      ∙ ap sorted_once (each_folder machine search_path c.args.self.now (λ lookup found. filter (is_unit lookup) (stems_of found)) is.folders is.destinations)) c.find_unit_names.ensures;
}
