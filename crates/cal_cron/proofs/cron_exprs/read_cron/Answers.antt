use Rattle.cal_cron.proofs.ScheduleLemmas.{cron_rejected, cron_runs}
use Rattle.cal_cron.proofs.cron_exprs.read_cron.Goals as goal

pub returns-clause-runs : goal.returns-clause-runs
returns-clause-runs c = cron_runs c.read_exprs.result c.args.text.now c.read_exprs.ensures

pub returns-clause-rejected : goal.returns-clause-rejected
returns-clause-rejected c = cron_rejected c.read_exprs.result c.args.text.now c.read_exprs.ensures
