use Rattle.std.proofs.Common.{arith}
use Rattle.cal_elapse.specs.computed.Bits.{is_bit}
use Rattle.cal_elapse.proofs.CarryLemmas.{first_later, none_later}
use Rattle.cal_elapse.proofs.TimeLemmas.{seconds_split}
use Rattle.cal_elapse.proofs.search.time.second_later.Goals as goal
use Rattle.cal_bytes.proofs.General.{below_end}

pub returns-in-None : goal.returns-in-None
returns-in-None c = none_later (seconds_split c.args.masks.now) c.args.minute 1_440 (omega arith) c.in-None.ensures

pub returns-in-Some : goal.returns-in-Some
returns-in-Some c =
    let m = c.args.masks.now in
    let small = below_end (is_bit m.seconds) 60 c.lowest_bit.result m.last_second c.lowest_bit.ensures.2 in
    search (first_later (seconds_split m) c.args.minute 1_440 c.in-Some.minute 64 c.lowest_bit.result c.in-Some.ensures.1 small c.in-Some.ensures c.lowest_bit.ensures)
