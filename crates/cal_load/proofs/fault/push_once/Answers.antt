use Rattle.std.proofs.Common.{subst}
use Rattle.cal_load.specs.rules.FileFaults.{IsLostIn}
use Rattle.cal_load.proofs.FileFaultLemmas.{lost_known, lost_pushed}
use Rattle.cal_load.proofs.fault.push_once.Goals as goal

pub returns-then-is_known-clause-lost : goal.returns-then-is_known-clause-lost
returns-then-is_known-clause-lost c lost is =
    lost_known lost c.args.faults.now.items
    (subst (λ faults. IsLostIn faults lost) c.as_slice.ensures.value (c.is_known.ensures c.if-is_known.true lost is))

pub returns-clause-lost : goal.returns-clause-lost
returns-clause-lost c lost is = lost_pushed lost c.args.fault c.args.faults.now.items _ c.in_ok-push.ensures.items is
