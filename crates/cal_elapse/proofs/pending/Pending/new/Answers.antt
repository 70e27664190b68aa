use Rattle.std.proofs.Common.{refl}
use Rattle.cal_elapse.specs.computed.Ring.{no_second}
use Rattle.cal_elapse.proofs.RingLemmas.{empty_from, nothing_seen}
use Rattle.cal_elapse.proofs.pending.Pending.new.Goals as goal

pub invariant_of-result : goal.invariant_of-result
invariant_of-result c = empty_from _ 2_925 refl c.in_ok-new.ensures.ok

pub returns : goal.returns
returns c = nothing_seen _ 2_925 no_second c.in_ok-new.ensures.ok
