use Rattle.std.proofs.Common.{Err, Ok, map}
use Rattle.std.proofs.lemmas.Result.{MatchResult-weaker, err_from_is_err_and}
use Rattle.cal_spec.specs.computed.Expr.{expr_in}
use Rattle.cal_timer.specs.rules.TimerView.{shown_assignment, shown}
use Rattle.cal_timer.proofs.ResumedLemmas.{resumed_changed, resumed_fault}
use Rattle.cal_timer.proofs.lists.TimerLists.assign.Goals as goal

pub returns-in_err-change : goal.returns-in_err-change
returns-in_err-change c =
    let p = err_from_is_err_and c.from_residual.result c.from_residual.ensures.1 in
    rw (p.1, p.2, ← c.self.view_is) (λ other after.
    resumed_fault expr_in _ (shown_assignment c.args.assignment) after _
    (rw (← c.is_expression.ensures, ← c.is_reset.ensures) (c.in_err-change.ensures other)))

pub returns : goal.returns
returns c =
    let first = rw (c.is_expression.ensures, c.is_reset.ensures) at c.in_ok-change.ensures in
    rw (← c.self.view_is) (MatchResult-weaker c.change-2.result c.change-2.ensures
    (λ _ second after.
    resumed_changed expr_in _ (shown_assignment c.args.assignment) after (map shown c.change.new.list.items) (Ok (map shown c.change-2.new.list.items))
    first (rw (← c.is_exception.ensures, ← c.is_exception_reset.ensures) second))
    (λ fault second other after.
    resumed_changed expr_in _ (shown_assignment c.args.assignment) after (map shown c.change.new.list.items) (Err fault)
    first (rw (← c.is_exception.ensures, ← c.is_exception_reset.ensures) (second other))))
