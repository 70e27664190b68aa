use Rattle.std.proofs.Common.{◌<◌, arith, length, not}
use Rattle.cal_cron.specs.computed.Translation.{exprs_in}
use Rattle.cal_crontabs.specs.rules.CrontabFiles.{is_crontab}
use Rattle.cal_answers.proofs.FoundLemmas.{targets_more}
use Rattle.cal_answers.proofs.loading.split_targets.Goals as goal

pub loop-target-preserved : goal.loop-target-preserved
loop-target-preserved g c =
    let within : c.loop-target.target-index < length c.args.targets.now = omega arith in (
      (λ machine shows.
          let was = c.loop-target.invariant.0 machine (c.in_ok-add_target.ensures.grows machine shows) in
          let more = c.in_ok-add_target.ensures.known machine shows in (
            targets_more (is_crontab exprs_in machine) c.args.targets.now c.loop-target.target-index _ _ _ within was.0 more.0,
            targets_more (λ target. not (is_crontab exprs_in machine target)) c.args.targets.now c.loop-target.target-index _ _ _ within was.1 more.1,
          )),
      (λ machine shows. c.loop-target.invariant.1 machine (c.in_ok-add_target.ensures.grows machine shows)),
    )
