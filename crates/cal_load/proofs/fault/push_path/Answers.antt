use Rattle.std.proofs.lemmas.Result.{on_ok_weaker}
use Rattle.std.proofs.Common.{refl, string_bytes}
use Rattle.cal_load.specs.rules.FileFaults.{lost_path}
use Rattle.cal_load.proofs.fault.push_path.Goals as goal

pub returns-clause-lost : goal.returns-clause-lost
returns-clause-lost c =
    on_ok_weaker c.push_once.result (λ pushed.
    pushed (lost_path (record { path = string_bytes c.args.path; reason = c.args.why }))
    (record { named = c.in_ok-target.ensures.cases; says = (c.args.path, refl, refl) })) c.push_once.ensures.lost
