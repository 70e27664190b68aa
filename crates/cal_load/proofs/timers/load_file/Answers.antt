use Rattle.std.proofs.Common.{refl}
use Rattle.std.proofs.lemmas.Result.{IfOk-weaker, on_ok_weaker}
use Rattle.cal_load.specs.rules.AllTargets.{IsFoundAt}
use Rattle.cal_load.specs.rules.AllTargets.Sought.{SingleFile}
use Rattle.cal_load.proofs.TimerLemmas.{file_found, timers_more}
use Rattle.cal_load.proofs.UnitLemmas.{ok_or_err, pushed_more}
use Rattle.cal_load.proofs.timers.load_file.Goals as goal

pub returns-clause-known : goal.returns-clause-known
returns-clause-known g c =
    on_ok_weaker c.push.result (λ pushed machine search_path shows held.
    timers_more machine search_path c.read_timer_file-found.result c.args.loaded.now.timers.items c.push.new.self.timers.items
    (IfOk-weaker c.read_timer_file-found.result _ _ (λ found known. file_found machine search_path found (known machine shows)) c.read_timer_file-found.ensures.known) pushed.timers held) c.push.ensures

pub returns-clause-more : goal.returns-clause-more
returns-clause-more g c =
    on_ok_weaker c.push.result (λ pushed.
    pushed_more _ (SingleFile c.args.path.now) c.args.path.now c.args.loaded.now c.push.new.self c.read_timer_file-found.result refl pushed
    (λ machine search_path shows.
    ok_or_err _ _ (IsFoundAt machine c.args.path.now) c.read_timer_file-found.result (λ found known. known machine shows) (λ fault known. known machine shows)
    c.read_timer_file-found.ensures.read c.read_timer_file-found.ensures.fault)) c.push.ensures
