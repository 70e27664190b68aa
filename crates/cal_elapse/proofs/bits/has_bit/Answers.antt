use Rattle.std.proofs.Common.{◌==◌, ℕ, ap}
use Rattle.std.proofs.lemmas.Nat.Bits.{shr_and_one}
use Rattle.cal_elapse.specs.computed.Bits.{is_bit}
use Rattle.cal_elapse.proofs.bits.has_bit.Goals as goal

pub returns : goal.returns
unfolding is_bit
returns c = search (ap (λ (b : ℕ). b == 1) (shr_and_one c.args.mask c.args.index))
