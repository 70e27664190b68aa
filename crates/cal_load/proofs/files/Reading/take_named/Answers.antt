use Rattle.std.proofs.Common.{◌∙◌, ap, refl, sym}
use Rattle.std.proofs.lemmas.Result.{on_ok_weaker}
use Rattle.std.specs.Prelude.{option_map}
use Rattle.cal_unit_index.specs.rules.UnitName.{unit_stem}
use Rattle.cal_load.specs.rules.FileFaults.Cause.{Absent}
use Rattle.cal_load.proofs.FileLemmas.{invalid_read, valid_read}
use Rattle.cal_load.proofs.files.Reading.take_named.Goals as goal

pub returns-in_default-clause-read : goal.returns-in_default-clause-read
returns-in_default-clause-read g c =
    on_ok_weaker c.push_named.result (λ pushed machine search_path shows is.
    invalid_read machine search_path c.args.name.now (unit_stem c.args.name.now) c.args.self.now _
    (sym (ap (option_map (λ stem. stem.now)) c.in_default.is) ∙ c.unit_stem.ensures) refl refl (pushed Absent refl)) c.push_named.ensures

pub returns-in-Some-2-clause-read : goal.returns-in-Some-2-clause-read
returns-in-Some-2-clause-read g c =
    on_ok_weaker c.push_named-in-Some-2.result (λ pushed machine search_path shows is.
    valid_read machine search_path c.args.name.now c.in-Some.stem.now (unit_stem c.args.name.now) c.in_ok-reason.field-0 c.in-Some-2.reason c.args.self.now c.take_unit.new.self _
    (sym (ap (option_map (λ stem. stem.now)) c.in-Some.is) ∙ c.unit_stem.ensures)
    (c.in_ok-reason.ensures.read machine search_path shows is) c.in-Some-2.is refl refl pushed) c.push_named-in-Some-2.ensures
