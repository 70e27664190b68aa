use Rattle.std.proofs.Common.{◌∙◌, ap, sym}
use Rattle.std.proofs.lemmas.Result.{IfOk-weaker}
use Rattle.cal_unit_index.specs.rules.Units.{shown_unit, unit_on}
use Rattle.cal_load.proofs.files.Reading.take_unit.Goals as goal

pub returns-in-Found-clause-read : goal.returns-in-Found-clause-read
returns-in-Found-clause-read g c =
    IfOk-weaker c.take_found.result _ _ (λ reason read machine search_path shows is.
    read machine search_path (unit_on machine search_path c.args.asked.now) shows is (sym (ap shown_unit c.in-Found.is) ∙ c.in_ok-find_unit.ensures.known machine search_path is)) c.take_found.ensures.read
