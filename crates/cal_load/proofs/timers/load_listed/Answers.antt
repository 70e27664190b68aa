use Rattle.std.proofs.lemmas.Result.{IfOk-weaker, on_ok_weaker}
use Rattle.std.proofs.Common.{◌∙◌, sym}
use Rattle.cal_load.specs.rules.AllTargets.Sought.{ListedUnit}
use Rattle.cal_load.specs.rules.AllUnits.{IsFoundOf}
use Rattle.cal_load.proofs.TimerLemmas.{timers_more, unit_found}
use Rattle.cal_load.proofs.UnitLemmas.{absent_more, ok_or_err, pushed_more}
use Rattle.cal_load.proofs.timers.load_listed.Goals as goal

pub returns-clause-known : goal.returns-clause-known
returns-clause-known g c =
    on_ok_weaker c.push_found.result (λ pushed machine search_path shows is held.
    timers_more machine search_path c.read_unit-found.result c.args.loaded.now.timers.items c.push_found.new.loaded.timers.items
    (IfOk-weaker c.read_unit-found.result _ _ (λ found known. unit_found machine search_path c.args.stem.now found (known machine search_path shows is)) c.read_unit-found.ensures.known) pushed.timers held) c.push_found.ensures

pub returns-then-is_absent-clause-more : goal.returns-then-is_absent-clause-more
returns-then-is_absent-clause-more g c =
    absent_more _ c.args.stem.now c.args.loaded.now c.read_unit-found.result (sym c.is_absent.ensures ∙ c.if-is_absent.true)
    (λ machine search_path knows.
    ok_or_err _ _ (IsFoundOf machine search_path c.args.stem.now) c.read_unit-found.result (λ found known. known machine search_path knows.0 knows.1) (λ fault known. known machine search_path knows.0 knows.1)
    c.read_unit-found.ensures.known c.read_unit-found.ensures.fault)

pub returns-clause-more : goal.returns-clause-more
returns-clause-more g c =
    on_ok_weaker c.push_found.result (λ pushed.
    pushed_more _ (ListedUnit c.args.stem.now) _ c.args.loaded.now c.push_found.new.loaded c.read_unit-found.result (c.as_str.ensures.value ∙ c.in_ok-name.ensures.ok) pushed
    (λ machine search_path knows.
    ok_or_err _ _ (IsFoundOf machine search_path c.args.stem.now) c.read_unit-found.result (λ found known. known machine search_path knows.0 knows.1) (λ fault known. known machine search_path knows.0 knows.1)
    c.read_unit-found.ensures.known c.read_unit-found.ensures.fault)) c.push_found.ensures
