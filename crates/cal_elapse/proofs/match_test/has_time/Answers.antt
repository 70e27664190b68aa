use Rattle.std.proofs.Common.{◌≡◌, ◌&&◌, ◌/◌, ◌%◌, true, false, arith, refl}
use Rattle.cal_elapse.specs.computed.Bits.{is_bit}
use Rattle.cal_elapse.specs.computed.Masks.{sets_in}
use Rattle.cal_elapse.specs.rules.Months.{minute_in}
use Rattle.cal_spec.specs.rules.Match.{time_in}
use Rattle.cal_elapse.proofs.CarryLemmas.{split_at}
use Rattle.cal_elapse.proofs.TimeLemmas.{seconds_split}
use Rattle.cal_elapse.proofs.match_test.has_time.Goals as goal

pub returns-then-has_minute : goal.returns-then-has_minute
returns-then-has_minute c =
    let m = c.args.masks.now in
    let s = c.args.second in
    let whole : time_in (sets_in m) s ≡ (minute_in (sets_in m) (s / 60) && is_bit m.seconds (s % 60)) = split_at (seconds_split m) (s / 60) s (omega arith) refl in
    let minute : minute_in (sets_in m) (s / 60) ≡ true = cc in
    rw (whole, minute) c.has_bit.ensures

pub returns-else-has_minute : goal.returns-else-has_minute
returns-else-has_minute c =
    let m = c.args.masks.now in
    let s = c.args.second in
    let whole : time_in (sets_in m) s ≡ (minute_in (sets_in m) (s / 60) && is_bit m.seconds (s % 60)) = split_at (seconds_split m) (s / 60) s (omega arith) refl in
    let minute : minute_in (sets_in m) (s / 60) ≡ false = cc in
    rw (whole, minute) c.if-has_minute.false
