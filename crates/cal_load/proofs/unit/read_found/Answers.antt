use Rattle.std.proofs.Common.{◌≡◌, Err, rules, string_bytes, subst}
use Rattle.cal_unit_index.specs.rules.Files.{file_at}
use Rattle.cal_load.specs.rules.AllUnits.{IsFileFault, unit_name}
use Rattle.cal_load.specs.rules.Loaded.{unit_texts}
use Rattle.cal_load.proofs.unit.read_found.Goals as goal

pub returns-in_err-own-clause-fault : goal.returns-in_err-own-clause-fault
returns-in_err-own-clause-fault g c =
    let same : c.from_residual.result ≡ Err c.in_err-own.field-0.0 = search rules in
    rw same (λ machine search_path shows is.
    let files = unit_texts machine search_path (string_bytes c.args.file.path) (string_bytes c.args.file.file) (string_bytes c.args.file.stem) c.args.asked.now in
    let name = unit_name (string_bytes c.args.file.stem) in
    subst (λ place. IsFileFault machine (file_at machine place) place name files c.in_err-own.field-0.0) c.as_str.ensures.value (c.in_err-own.ensures.fault machine name files shows))
