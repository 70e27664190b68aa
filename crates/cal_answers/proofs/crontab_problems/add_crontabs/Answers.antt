use Rattle.std.proofs.Common.{◌∙◌, ap, map}
use Rattle.cal_cron.specs.computed.Translation.{exprs_in}
use Rattle.cal_crontabs.specs.rules.Findings.{finding_seen}
use Rattle.cal_answers.proofs.LintOutputLemmas.{crontabs_listed}
use Rattle.cal_answers.proofs.crontab_problems.add_crontabs.Goals as goal

pub returns : goal.returns
returns c = (
  exprs_in,
  c.times_are_read.ensures,
  c.unused_entries_are_found.ensures,
  crontabs_listed _ _ _ _ _ (ap (map finding_seen) c.as_slice.ensures.value ∙ c.in_ok-found.ensures) c.in_ok-add_findings.ensures,
)
