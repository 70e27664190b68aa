use Rattle.std.proofs.Common.{◌≡◌, ◌∙◌, ℕ, List, ap, map}
use Rattle.std.proofs.lemmas.Result.{IfOk-weaker}
use Rattle.cal_machine.specs.rules.Machine.{Machine}
use Rattle.cal_unit_index.specs.rules.Index.{IsIndexOf, shown_folder}
use Rattle.cal_load.specs.rules.StartedUnit.{is_missing_in, is_missing_on}
use Rattle.cal_load.proofs.started.is_missing.Goals as goal

pub returns : goal.returns
returns c =
    IfOk-weaker c.is_missing_in.result
    (λ missing. missing ≡ is_missing_in (map shown_folder c.folders.result.now) c.args.unit.now)
    (λ missing. (machine : Machine) (search_path : List (List ℕ)) → IsIndexOf machine search_path c.args.index.now
    → missing ≡ is_missing_on machine search_path c.args.unit.now)
    (λ missing h machine search_path is.
    h ∙ ap (λ folders. is_missing_in folders c.args.unit.now) (ap (map shown_folder) c.folders.ensures ∙ is.folders))
    c.is_missing_in.ensures
