use Rattle.std.proofs.lemmas.Result.{on_ok_weaker}
use Rattle.cal_lint.proofs.setting_problems.add_advice.Goals as goal

pub returns-clause-suggestions : goal.returns-clause-suggestions
returns-clause-suggestions c =
    on_ok_weaker c.add_concerns.result (λ h all. h (c.in_ok-push_rejection.ensures.suggestions all)) c.add_concerns.ensures.suggestions
