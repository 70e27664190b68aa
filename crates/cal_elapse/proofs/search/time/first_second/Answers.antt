use Rattle.std.proofs.Common.{◌+◌, ◌*◌}
use Rattle.cal_elapse.specs.computed.Bits.{is_bit}
use Rattle.cal_elapse.proofs.CarryLemmas.{first_later}
use Rattle.cal_elapse.proofs.TimeLemmas.{minutes_split, seconds_split}
use Rattle.cal_elapse.proofs.search.time.first_second.Goals as goal
use Rattle.cal_bytes.proofs.General.{below_end}

pub returns : goal.returns
returns c =
    let m = c.args.masks.now in
    let hour_in = below_end (is_bit m.hours) 24 c.lowest_bit.result m.last_hour c.lowest_bit.ensures.2 in
    let minute_in = below_end (is_bit m.minutes) 60 c.lowest_bit-2.result m.last_minute c.lowest_bit-2.ensures.2 in
    let second_in = below_end (is_bit m.seconds) 60 c.lowest_bit-3.result m.last_second c.lowest_bit-3.ensures.2 in
    let minute = first_later (minutes_split m) 0 64 c.lowest_bit.result 64 c.lowest_bit-2.result hour_in minute_in c.lowest_bit.ensures c.lowest_bit-2.ensures in
    search (first_later (seconds_split m) 0 1_440 (c.lowest_bit.result * 60 + c.lowest_bit-2.result) 64 c.lowest_bit-3.result minute.1 second_in minute c.lowest_bit-3.ensures)
