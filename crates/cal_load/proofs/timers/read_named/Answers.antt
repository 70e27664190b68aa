use Rattle.std.proofs.lemmas.Result.{IfOk-weaker}
use Rattle.cal_load.proofs.TimerLemmas.{unit_found}
use Rattle.cal_load.proofs.timers.read_named.Goals as goal

pub returns-in-Some-clause-known : goal.returns-in-Some-clause-known
returns-in-Some-clause-known g c =
    IfOk-weaker c.read_unit.result _ _ (λ found known machine search_path shows is. unit_found machine search_path c.in-Some.stem.now found (known machine search_path shows is)) c.read_unit.ensures.known
