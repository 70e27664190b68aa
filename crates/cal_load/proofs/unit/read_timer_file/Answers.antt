use Rattle.std.proofs.Common.{◌≡◌, Err, rules}
use Rattle.cal_unit_index.specs.rules.Files.{text_at}
use Rattle.cal_load.proofs.unit.read_timer_file.Goals as goal

pub returns-in_err-own-clause-fault : goal.returns-in_err-own-clause-fault
returns-in_err-own-clause-fault g c =
    let same : c.from_residual.result ≡ Err c.in_err-own.field-0.0 = search rules in
    rw same (λ machine shows. c.in_err-own.ensures.fault machine c.args.path.now (text_at machine c.args.path.now) shows)
