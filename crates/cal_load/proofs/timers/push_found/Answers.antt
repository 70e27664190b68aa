use Rattle.std.proofs.Common.{refl}
use Rattle.std.proofs.lemmas.Result.{on_ok_weaker}
use Rattle.cal_load.proofs.UnitLemmas.{pushed_kept}
use Rattle.cal_load.proofs.timers.push_found.Goals as goal

pub returns : goal.returns
returns c =
    on_ok_weaker c.push_lost.result (λ kept.
    pushed_kept c.args.target.now c.args.found c.args.loaded.now c.push.new.self _ refl refl c.in_ok-push.ensures kept) c.push_lost.ensures.kept
