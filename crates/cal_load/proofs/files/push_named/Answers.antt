use Rattle.std.proofs.lemmas.Result.{on_ok_weaker}
use Rattle.cal_load.proofs.files.push_named.Goals as goal

pub returns : goal.returns
returns c =
    on_ok_weaker c.push_once.result (λ pushed cause is.
    pushed (record { name = c.args.name.now; cause = cause }) (record { named = c.in_ok-target.ensures.ok; says = is })) c.push_once.ensures.lost
