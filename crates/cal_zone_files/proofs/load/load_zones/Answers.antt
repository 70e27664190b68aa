use Rattle.std.proofs.Common.{arith, refl, rules, string_bytes}
use Rattle.cal_bytes.proofs.General.{items_next}
use Rattle.cal_zone_files.proofs.ZoneLemmas.{empty_has, empty_has_none, error_at}
use Rattle.cal_zone_files.proofs.load.load_zones.Goals as goal

pub loop-name-init : goal.loop-name-init
loop-name-init g c = search (rules, empty_has, empty_has_none)

pub returns-in-Err-clause-fault : goal.returns-in-Err-clause-fault
returns-in-Err-clause-fault g c machine shows =
    let next = items_next string_bytes c.args.names.now c.loop-name.name-index c.name-item.result _ (omega arith) c.name-item.is refl in
    let known = c.loop-name.invariant in
    let error = rw c.as_str.ensures.value at c.in-Err.ensures.fault machine shows in
    error_at machine c.args.names.now c.loop-name.name-index _ _ _ _ next error known.0 (known.1 machine (c.load_zone.ensures.grows machine shows))
