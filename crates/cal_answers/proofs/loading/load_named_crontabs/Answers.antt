use Rattle.std.proofs.Common.{ap, map, subst, ◌∙◌}
use Rattle.cal_crontabs.specs.rules.Crontabs.{AreCrontabsOn}
use Rattle.cal_answers.proofs.loading.load_named_crontabs.Goals as goal

pub returns-clause-known : goal.returns-clause-known
returns-clause-known g c = λ machine shows.
    subst (λ texts. AreCrontabsOn machine texts c.in_ok-crontabs.crontabs)
    (ap (map (λ text. text.now)) c.as_slice.ensures.value ∙ c.in_ok-texts.ensures)
    (c.in_ok-crontabs.ensures.known machine shows)
