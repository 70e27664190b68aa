use Rattle.cal_answers.proofs.LintLawLemmas.{all_counted, fails_if}
use Rattle.cal_answers.proofs.report_laws.lint_fails_for_what_it_prints.Goals as goal

pub returns : goal.returns
returns c = record { status = fails_if; counts = all_counted }
