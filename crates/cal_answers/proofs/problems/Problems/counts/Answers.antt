use Rattle.std.proofs.Common.{◌-◌, ◌∙◌, ap, count_by, length}
use Rattle.cal_answers.proofs.LintLemmas.{counts_are}
use Rattle.cal_answers.proofs.problems.Problems.counts.Goals as goal

pub returns : goal.returns
returns c =
    counts_are c.args.self.now.list.items _ _ (c.error_count-errors.ensures ∙ ap (count_by (λ problem. problem.is_error)) c.as_slice-list.ensures.value)
    (c.saturating_sub.ensures ∙ ap (λ n. n - c.error_count-errors.result) (ap length c.as_slice-list.ensures.value))
