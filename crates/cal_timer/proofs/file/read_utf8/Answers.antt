use Rattle.std.proofs.Common.{◌≡◌, ◌∙◌, ap, sym, false, Ok}
use Rattle.std.proofs.lemmas.Result.{MatchResult-weaker}
use Rattle.cal_spec.specs.computed.Expr.{expr_in}
use Rattle.cal_timer.specs.rules.Lines.{logical_lines}
use Rattle.cal_timer.specs.rules.Assignments.{assignments_in}
use Rattle.cal_timer.specs.rules.TimerText.{without_mark}
use Rattle.cal_timer.specs.rules.TimerEntries.{timer_of}
use Rattle.cal_timer.specs.computed.ResumedLists.{empty_lists, resumed}
use Rattle.cal_timer.proofs.ListedLemmas.{lists_from_entries}
use Rattle.cal_timer.proofs.file.read_utf8.Goals as goal

pub returns : goal.returns
unfolding timer_of
returns c =
    let here = rw c.without_mark.ensures.mark at c.in_ok-take_text.ensures in
    let read : resumed expr_in empty_lists (assignments_in false (logical_lines 1 (without_mark c.args.text.now))) ≡ Ok c.take_text.new.self =
    ap (λ now. resumed expr_in now (assignments_in false (logical_lines 1 (without_mark c.args.text.now)))) (sym c.new-lists.ensures) ∙ here in
    let lists = lists_from_entries expr_in (assignments_in false (logical_lines 1 (without_mark c.args.text.now))) c.take_text.new.self read in
    MatchResult-weaker c.into_timer.result c.into_timer.ensures.lists (λ timer h. lists ∙ h) (λ fault h _. lists ∙ h)
