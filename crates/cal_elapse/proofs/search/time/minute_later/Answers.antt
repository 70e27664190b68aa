use Rattle.std.proofs.Common.{arith}
use Rattle.cal_elapse.specs.computed.Bits.{is_bit}
use Rattle.cal_elapse.proofs.CarryLemmas.{first_later, none_later}
use Rattle.cal_elapse.proofs.TimeLemmas.{minutes_split}
use Rattle.cal_elapse.proofs.search.time.minute_later.Goals as goal
use Rattle.cal_bytes.proofs.General.{below_end}

pub returns-in-None : goal.returns-in-None
returns-in-None c = none_later (minutes_split c.args.masks.now) c.args.hour 64 (omega arith) c.in-None.ensures

pub returns-in-Some : goal.returns-in-Some
returns-in-Some c =
    let m = c.args.masks.now in
    let inside = below_end (is_bit m.hours) 24 c.in-Some.hour m.last_hour c.in-Some.ensures.2 in
    let small = below_end (is_bit m.minutes) 60 c.lowest_bit.result m.last_minute c.lowest_bit.ensures.2 in
    first_later (minutes_split m) c.args.hour 64 c.in-Some.hour 64 c.lowest_bit.result inside small c.in-Some.ensures c.lowest_bit.ensures
