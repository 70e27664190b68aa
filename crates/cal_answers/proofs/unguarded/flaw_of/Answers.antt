use Rattle.std.proofs.Common.{◌∙◌, sym}
use Rattle.std.proofs.lemmas.Result.{IfOk-weaker}
use Rattle.cal_answers.proofs.UnguardedLemmas.{flaw_if, no_flaw}
use Rattle.cal_answers.proofs.unguarded.flaw_of.Goals as goal

pub returns-then-has_exceptions-clause-known : goal.returns-then-has_exceptions-clause-known
returns-then-has_exceptions-clause-known g c = IfOk-weaker c.started_flaw.result _ _ (λ flaw known machine search_path shows index.
    flaw_if machine search_path c.args.is_user c.args.timer.now flaw (sym c.if-has_exceptions.true ∙ c.has_exceptions.ensures) (known machine search_path shows index))
    c.started_flaw.ensures.known

pub returns-clause-known : goal.returns-clause-known
returns-clause-known g c = λ machine search_path shows index.
    no_flaw machine search_path c.args.is_user c.args.timer.now (sym c.if-has_exceptions.false ∙ c.has_exceptions.ensures)
