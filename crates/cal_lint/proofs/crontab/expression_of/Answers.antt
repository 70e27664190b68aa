use Rattle.std.proofs.Common.{◌≡◌, string_bytes, subst, sym}
use Rattle.std.specs.Prelude.{IfOk}
use Rattle.cal_lint.specs.rules.Crontab.{crontab_expression, single_expression}
use Rattle.cal_lint.proofs.crontab.expression_of.Goals as goal

pub returns-in-Ok : goal.returns-in-Ok
unfolding crontab_expression
returns-in-Ok c =
    subst (λ read. IfOk c.single_expression.result (λ expr. string_bytes expr ≡ single_expression read)) (sym c.in-Ok.ensures.exprs) c.single_expression.ensures
