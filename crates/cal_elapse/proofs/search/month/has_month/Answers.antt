use Rattle.std.proofs.Common.{◌≡◌, ◌/◌, true, false}
use Rattle.cal_elapse.specs.computed.Bits.{is_bit_in}
use Rattle.cal_elapse.proofs.YearWordLemmas.{month_is}
use Rattle.cal_elapse.proofs.search.month.has_month.Goals as goal

pub returns-then-has_year : goal.returns-then-has_year
returns-then-has_year c =
    let year : is_bit_in c.args.masks.now.years (c.args.index / 12) ≡ true = cc in
    rw (month_is c.args.masks.now c.args.index c.requires, year) c.has_bit.ensures

pub returns-else-has_year : goal.returns-else-has_year
returns-else-has_year c =
    let year : is_bit_in c.args.masks.now.years (c.args.index / 12) ≡ false = cc in
    rw (month_is c.args.masks.now c.args.index c.requires, year) c.if-has_year.false
