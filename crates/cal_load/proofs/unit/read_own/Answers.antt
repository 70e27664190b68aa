use Rattle.std.proofs.Common.{◌∙◌, ap, sym}
use Rattle.cal_unit_index.specs.rules.Files.{shown_file}
use Rattle.cal_load.proofs.UnitLemmas.{file_unusable}
use Rattle.cal_load.proofs.unit.read_own.Goals as goal

pub returns-in-Unusable-clause-fault : goal.returns-in-Unusable-clause-fault
returns-in-Unusable-clause-fault g c machine name files shows =
    file_unusable machine c.in-Unusable.reason c.args.path.now _ name files _ (sym (ap shown_file c.in-Unusable.is) ∙ c.in_ok-read_file.ensures.known machine shows) c.own_fault.ensures
