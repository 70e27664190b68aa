use Rattle.std.proofs.Common.{w64}
use Rattle.std.proofs.lemmas.Nat.Bits.{bit_at_set_other, bit_at_set_same}
use Rattle.cal_elapse.proofs.BitLemmas.{is_bit-one, is_bit-same}
use Rattle.cal_elapse.proofs.bits.with_bit.Goals as goal

pub returns-clause-set : goal.returns-clause-set
returns-clause-set c = search (is_bit-one _ c.args.index (bit_at_set_same w64 c.args.mask c.args.index c.requires))

pub returns-clause-others : goal.returns-clause-others
returns-clause-others c = λ i apart. is_bit-same _ c.args.mask i i (bit_at_set_other w64 c.args.mask c.args.index c.requires i apart)
