use Rattle.cal_cron.specs.computed.Translation.{exprs_in}
use Rattle.cal_answers.proofs.loading.load_lint_units.Goals as goal

pub returns-clause-known : goal.returns-clause-known
returns-clause-known g c machine search_path shows is =
    let after_files = c.in_ok-timers.ensures.grows machine shows in (
      c.in_ok-files.ensures.known machine after_files,
      c.in_ok-timers.ensures.known machine search_path shows is,
      (exprs_in, c.times_are_read.ensures, c.in_ok-crontabs.ensures.known machine (c.in_ok-files.ensures.grows machine after_files)),
    )
