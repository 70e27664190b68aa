use Rattle.std.proofs.Common.{ap, map, subst, ◌∙◌}
use Rattle.cal_load.specs.rules.Expressions.{IsTimerOrReason}
use Rattle.cal_answers.specs.rules.Found.{AreMadeOf}
use Rattle.cal_answers.proofs.loading.load_named_expressions.Goals as goal

pub returns-clause-known : goal.returns-clause-known
returns-clause-known g c = λ machine shows.
    subst (λ texts. AreMadeOf machine texts c.in_ok-loaded.loaded)
    (ap (map (λ text. text.now)) c.as_slice.ensures.value ∙ c.in_ok-texts.ensures)
    (c.in_ok-loaded.ensures.known machine shows)

pub returns-clause-outcome : goal.returns-clause-outcome
returns-clause-outcome g c =
    subst (λ texts. IsTimerOrReason (λ machine. g.T.Tree.shows c.load_expressions.new.tree machine) texts c.in_ok-loaded.loaded)
    (ap (map (λ text. text.now)) c.as_slice.ensures.value ∙ c.in_ok-texts.ensures)
    c.in_ok-loaded.ensures.outcome
