use Rattle.std.proofs.Common.{◌*◌, arith}
use Rattle.cal_elapse.specs.computed.Bits.{is_bit, is_bit_in}
use Rattle.cal_elapse.proofs.CarryLemmas.{first_later, none_later}
use Rattle.cal_elapse.proofs.YearWordLemmas.{months_split, no_months}
use Rattle.cal_elapse.proofs.search.month.month_later.Goals as goal
use Rattle.cal_bytes.proofs.General.{below_end}

pub returns-then-masks-eq0 : goal.returns-then-masks-eq0
returns-then-masks-eq0 c = no_months c.args.masks.now (c.args.year * 12) c.if-masks-eq0.true

pub returns-in-None : goal.returns-in-None
returns-in-None c = none_later (months_split c.args.masks.now) c.args.year 256 (omega arith) c.in-None.ensures

pub returns-in-Some : goal.returns-in-Some
returns-in-Some c =
    let m = c.args.masks.now in
    let inside = below_end (is_bit_in m.years) 230 c.in-Some.year m.last_year c.in-Some.ensures.2 in
    let small = below_end (is_bit m.months) 12 c.lowest_bit.result m.last_month c.lowest_bit.ensures.2 in
    first_later (months_split m) c.args.year 256 c.in-Some.year 64 c.lowest_bit.result inside small c.in-Some.ensures c.lowest_bit.ensures
