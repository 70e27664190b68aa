-- How the masks of hours, minutes and seconds, which have one bit for each matching value, tell whether a time of day
-- matches.
use Rattle.std.proofs.Common.{arith}
use Rattle.cal_elapse.specs.computed.Bits.{is_bit}
use Rattle.cal_elapse.specs.computed.Masks.{sets_in}
use Rattle.cal_elapse.specs.rules.Months.{minute_in}
use Rattle.cal_elapse.specs.declared.masks.Masks.{Masks}
use Rattle.cal_elapse.proofs.CarryLemmas.{Splits}
use Rattle.cal_spec.specs.rules.Match.{time_in}
use Rattle.cal_bytes.proofs.General.{and_regrouped}

-- a minute of the day matches if and only if both its hour and its minute of the hour match
pub minutes_split : (m : Masks) → Splits (minute_in (sets_in m)) (is_bit m.hours) (is_bit m.minutes) 60 24
unfolding sets_in minute_in
minutes_split m = grind arith

-- a time of day matches if and only if both its minute of the day and its second match
pub seconds_split : (m : Masks) → Splits (time_in (sets_in m)) (minute_in (sets_in m)) (is_bit m.seconds) 60 1_440
unfolding sets_in minute_in time_in
seconds_split m = grind (arith, and_regrouped)
