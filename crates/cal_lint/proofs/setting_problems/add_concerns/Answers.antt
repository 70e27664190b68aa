use Rattle.std.proofs.lemmas.Result.{on_ok_weaker}
use Rattle.cal_lint.proofs.setting_problems.add_concerns.Goals as goal

pub returns-clause-suggestions : goal.returns-clause-suggestions
returns-clause-suggestions c =
    on_ok_weaker c.push_ambiguity.result (λ h all. h (c.in_ok-push_flaw.ensures.suggestions all)) c.push_ambiguity.ensures.suggestions
