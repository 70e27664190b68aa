use Rattle.std.proofs.Common.{w64}
use Rattle.std.proofs.lemmas.Nat.Bits.{bit_at_clear_other, bit_at_clear_same}
use Rattle.cal_elapse.proofs.BitLemmas.{is_bit-same, is_bit-zero}
use Rattle.cal_elapse.proofs.bits.without_bit.Goals as goal

pub returns-clause-cleared : goal.returns-clause-cleared
returns-clause-cleared c = is_bit-zero _ c.args.index (bit_at_clear_same w64 c.args.mask c.args.index c.requires)

pub returns-clause-others : goal.returns-clause-others
returns-clause-others c = λ i inside other. is_bit-same _ c.args.mask i i (bit_at_clear_other w64 c.args.mask c.args.index c.requires i inside other)
