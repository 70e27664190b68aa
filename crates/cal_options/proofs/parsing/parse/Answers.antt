use Rattle.std.proofs.Common.{◌≡◌, map, true, arith}
use Rattle.clap.specs.Words.{App, app_of, is_simple, is_simple_and_free, kind_of}
use Rattle.cal_options.specs.rules.ArgumentFault.{shown_fault}
use Rattle.cal_options.proofs.FaultLemmas.{reported_fault}
use Rattle.cal_options.proofs.parsing.parse.Goals as goal

simple : (app : App) → is_simple_and_free app ≡ true → is_simple app ≡ true
simple app both = grind arith

pub returns-in-Ok-clause-faults : goal.returns-in-Ok-clause-faults
returns-in-Ok-clause-faults g c = c.in-Ok.ensures.kinds c.requires

pub returns-in-Ok-clause-found : goal.returns-in-Ok-clause-found
returns-in-Ok-clause-found g c = (c.in-Ok.ensures.matches (simple (app_of c.args.command) c.requires)).1

pub returns-in-Err-clause-refusal : goal.returns-in-Err-clause-refusal
returns-in-Err-clause-refusal g c =
    reported_fault (app_of c.args.command) (map g.S.AsStr.text c.args.arguments.now) (kind_of c.in-Err.error) (shown_fault c.convert_error.result)
    c.in-Err.ensures.passes (c.in-Err.ensures.kinds c.requires) c.convert_error.ensures
