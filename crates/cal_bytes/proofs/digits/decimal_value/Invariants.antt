use Rattle.std.proofs.Common.{◌≡◌, min, take}
use Rattle.std.specs.Str.Parse.{digits_value}
use Rattle.cal_bytes.proofs.DigitLemmas.{top}
use Rattle.cal_bytes.proofs.digits.decimal_value.Given as goal

abbrev pub invariant-loop-digit : goal.invariant-loop-digit
invariant-loop-digit l = l.whole ≡ min (digits_value 10 (take l.digit-index l.digits)) top
