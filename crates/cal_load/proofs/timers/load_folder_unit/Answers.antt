use Rattle.std.proofs.Common.{◌∙◌, [], ◌∷◌}
use Rattle.std.proofs.lemmas.Result.{IfOk-weaker, on_ok_weaker}
use Rattle.cal_load.specs.rules.AllTargets.Sought.{FolderUnit}
use Rattle.cal_load.specs.rules.AllUnits.{IsFoundOf}
use Rattle.cal_load.proofs.TimerLemmas.{folder_unit_found, timers_more}
use Rattle.cal_load.proofs.UnitLemmas.{ok_or_err, pushed_more}
use Rattle.cal_load.proofs.timers.load_folder_unit.Goals as goal

pub returns-clause-known : goal.returns-clause-known
returns-clause-known g c =
    on_ok_weaker c.push_found.result (λ pushed machine search_path shows is held.
    timers_more machine search_path c.read_unit-found.result c.args.loaded.now.timers.items c.push_found.new.loaded.timers.items
    (IfOk-weaker c.read_unit-found.result _ _ (λ found known. folder_unit_found machine search_path c.args.folder.now c.args.stem.now found (known machine (c.args.folder.now ∷ []) shows is)) c.read_unit-found.ensures.known) pushed.timers held) c.push_found.ensures

pub returns-clause-more : goal.returns-clause-more
returns-clause-more g c =
    on_ok_weaker c.push_found.result (λ pushed.
    pushed_more _ (FolderUnit c.args.folder.now c.args.stem.now) _ c.args.loaded.now c.push_found.new.loaded c.read_unit-found.result (c.as_str.ensures.value ∙ c.in_ok-name.ensures) pushed
    (λ machine search_path knows.
    ok_or_err _ _ (IsFoundOf machine (c.args.folder.now ∷ []) c.args.stem.now) c.read_unit-found.result
    (λ found known. known machine (c.args.folder.now ∷ []) knows.0 knows.1) (λ fault known. known machine (c.args.folder.now ∷ []) knows.0 knows.1)
    c.read_unit-found.ensures.known c.read_unit-found.ensures.fault)) c.push_found.ensures
