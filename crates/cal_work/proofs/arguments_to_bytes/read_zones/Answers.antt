use Rattle.std.proofs.Common.{arith, refl}
use Rattle.cal_command.specs.rules.Ask.{shown_item}
use Rattle.cal_work.proofs.WorkLemmas.{next_loaded, next_stops, none_left}
use Rattle.cal_work.proofs.arguments_to_bytes.read_zones.Goals as goal
use Rattle.cal_bytes.proofs.General.{items_end, items_next}

pub returns-in-Err : goal.returns-in-Err
returns-in-Err g c =
    let next = items_next shown_item c.args.items.now c.loop-item.item-index c.item-item.result _ (omega arith) c.item-item.is refl in
    let stop = rw c.as_str.ensures.value at c.load_stop.ensures in
    next_stops (λ table. table) _ _ _ _ (shown_item c.item-item.result) _ _ c.in-Err.fault _ next c.loop-item.invariant c.in-Err.ensures stop

pub loop-item-preserved : goal.loop-item-preserved
loop-item-preserved g c =
    let next = items_next shown_item c.args.items.now c.loop-item.item-index c.item-item.result _ (omega arith) c.item-item.is refl in
    next_loaded _ _ _ _ (shown_item c.item-item.result) _ _ next c.loop-item.invariant c.in-Ok.ensures

pub returns : goal.returns
returns g c =
    none_left (λ table. table) _ _ _ _ _ (items_end shown_item c.args.items.now c.loop-item.item-index (omega arith)) refl c.loop-item.invariant
