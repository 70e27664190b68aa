use Rattle.std.proofs.Common.{◌∙◌, ap}
use Rattle.cal_cron.specs.computed.Translation.{exprs_of}
use Rattle.cal_cron.specs.rules.CronMatch.{exprs_match}
use Rattle.cal_crontabs.proofs.laws.times_are_read.Goals as goal

pub returns : goal.returns
returns c =
    let law = c.expressions_elapse_when_cron_runs.ensures in
    record {
      runs = λ text exprs read.
          let found = law.only text exprs read in
          record {
            schedule = found.0;
            line = found.1;
            same = λ local. ap (λ e. exprs_match e.first e.other local) found.2 ∙ law.same text found.0 local found.1;
          };
      all = λ text schedule line. (exprs_of schedule, law.some text schedule line);
    }
