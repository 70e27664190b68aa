use Rattle.std.proofs.Common.{◌/◌, ◌%◌, arith}
use Rattle.cal_elapse.specs.computed.Bits.{is_bit}
use Rattle.cal_elapse.proofs.CarryLemmas.{first_here, none_by_high, none_by_low}
use Rattle.cal_elapse.proofs.TimeLemmas.{minutes_split}
use Rattle.cal_elapse.proofs.search.time.minute_here.Goals as goal
use Rattle.cal_bytes.proofs.General.{below_end}

pub returns-then-not-has_bit : goal.returns-then-not-has_bit
returns-then-not-has_bit c =
    let f = c.args.from in
    none_by_high (minutes_split c.args.masks.now) (f / 60) (f % 60) f (omega arith) (omega arith) (cc)

pub returns-in-None : goal.returns-in-None
returns-in-None c =
    let f = c.args.from in
    none_by_low (minutes_split c.args.masks.now) (f / 60) (f % 60) f 64 (omega arith) (omega arith) (omega arith) c.in-None.ensures

pub returns-in-Some : goal.returns-in-Some
returns-in-Some c =
    let m = c.args.masks.now in
    let f = c.args.from in
    let small = below_end (is_bit m.minutes) 60 c.in-Some.minute m.last_minute c.in-Some.ensures.2 in
    first_here (minutes_split m) (f / 60) (f % 60) f 64 c.in-Some.minute (omega arith) (omega arith) (cc) small c.in-Some.ensures
