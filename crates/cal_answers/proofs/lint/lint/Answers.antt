use Rattle.std.proofs.Common.{◌∙◌, ap, map}
use Rattle.cal_answers.proofs.LintOutputLemmas.{lint_on}
use Rattle.cal_answers.specs.rules.LintCandidates.{shown_candidate}
use Rattle.cal_answers.specs.rules.LintOutput.{has_lines}
use Rattle.cal_answers.proofs.lint.lint.Goals as goal

pub returns-clause-prints : goal.returns-clause-prints
returns-clause-prints c = λ machine search_path is.
    lint_on c.args.context c.args.is_strict machine search_path c.args.files.now c.args.timers.now c.args.crontabs.now _ _ _ _ _ _ _ _ _ _ _ _ _ _ c.as_slice.ensures.value c.as_slice-2.ensures.value
    c.new-problems.ensures c.in_ok-add_files.ensures c.in_ok-add_crontabs.ensures
    (ap (map shown_candidate) c.as_slice-3.ensures.value ∙ c.in_ok-found.ensures machine search_path is) c.in_ok-add_all.ensures c.in_ok-add_unguarded.ensures
    (ap (map shown_candidate) c.as_slice-7.ensures.value ∙ c.in_ok-lacking.ensures machine search_path is) c.in_ok-out.ensures c.counts-counts.ensures
    (c.has_lines.ensures ∙ ap has_lines c.as_str.ensures.value) c.lint_status-status.ensures
