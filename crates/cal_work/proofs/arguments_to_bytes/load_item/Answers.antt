use Rattle.std.proofs.Common.{refl}
use Rattle.cal_work.proofs.WorkLemmas.{loads, loads_nothing, loads_unopened}
use Rattle.cal_work.proofs.arguments_to_bytes.load_item.Goals as goal

pub returns-in-Ok : goal.returns-in-Ok
returns-in-Ok g c =
    let holds = rw c.as_str.ensures.value at c.in-Ok.ensures.holds in
    let loaded = rw c.as_str-in-Ok.ensures.value at c.load_zone.ensures.loaded in
    loads _ _ _ _ c.load_zone.result _ _ _ _ holds c.load_zone.ensures.failed c.load_zone.ensures.sure loaded

pub returns-in-Err-Unopened : goal.returns-in-Err-Unopened
returns-in-Err-Unopened g c =
    let given = rw (c.in-Err-Unopened.field-0-is, c.as_str.ensures.value) at c.in-Err-Unopened.ensures.unopened in
    loads_unopened _ _ _ (given refl)

pub returns-in-Err-NoMemory : goal.returns-in-Err-NoMemory
returns-in-Err-NoMemory g c = loads_nothing _ _ _
