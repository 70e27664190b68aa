use Rattle.std.proofs.Common.{◌∙◌, None, Some, refl, sym}
use Rattle.std.proofs.lemmas.Result.{on_ok_weaker}
use Rattle.cal_unit_index.specs.rules.Units.{unit_on}
use Rattle.cal_load.specs.rules.AllFiles.{unit_paths}
use Rattle.cal_load.specs.rules.AllUnits.{unit_name}
use Rattle.cal_load.specs.rules.FileFaults.{cause_of_unit, lost_as, lost_of_unit, unless_absent}
use Rattle.cal_load.proofs.FileFaultLemmas.{absent_listed, none_listed, one_listed}
use Rattle.cal_load.proofs.FileLemmas.{reported_read}
use Rattle.cal_load.proofs.files.Reading.take_listed.Goals as goal

pub returns-in_default-clause-read : goal.returns-in_default-clause-read
returns-in_default-clause-read g c machine search_path shows is =
    let cause = cause_of_unit machine (unit_on machine search_path c.args.stem.now) in
    reported_read machine (unit_paths machine search_path c.args.stem.now) (lost_of_unit machine search_path c.args.stem.now (unit_on machine search_path c.args.stem.now)) cause c.in_ok-reason.field-0 None (lost_as (unit_name c.args.stem.now) (unless_absent cause)) c.args.self.now c.take_unit.new.self c.take_unit.new.self
    (c.in_ok-reason.ensures.read machine search_path shows is) c.in_default.is refl refl (none_listed (unit_name c.args.stem.now) cause c.take_unit.new.self.loaded.faults.items)

pub returns-then-is_absent-clause-read : goal.returns-then-is_absent-clause-read
returns-then-is_absent-clause-read g c machine search_path shows is =
    let cause = cause_of_unit machine (unit_on machine search_path c.args.stem.now) in
    reported_read machine (unit_paths machine search_path c.args.stem.now) (lost_of_unit machine search_path c.args.stem.now (unit_on machine search_path c.args.stem.now)) cause c.in_ok-reason.field-0 (Some c.in-Some.reason) (lost_as (unit_name c.args.stem.now) (unless_absent cause)) c.args.self.now c.take_unit.new.self c.take_unit.new.self
    (c.in_ok-reason.ensures.read machine search_path shows is) c.in-Some.is refl refl
    (absent_listed (unit_name c.args.stem.now) cause c.in-Some.reason c.take_unit.new.self.loaded.faults.items (sym c.is_absent.ensures ∙ c.if-is_absent.true))

pub returns-clause-read : goal.returns-clause-read
returns-clause-read g c =
    on_ok_weaker c.push_once.result (λ pushed machine search_path shows is.
    let cause = cause_of_unit machine (unit_on machine search_path c.args.stem.now) in
    reported_read machine (unit_paths machine search_path c.args.stem.now) (lost_of_unit machine search_path c.args.stem.now (unit_on machine search_path c.args.stem.now)) cause c.in_ok-reason.field-0 (Some c.in-Some.reason) (lost_as (unit_name c.args.stem.now) (unless_absent cause)) c.args.self.now c.take_unit.new.self _
    (c.in_ok-reason.ensures.read machine search_path shows is) c.in-Some.is refl refl
    (one_listed (unit_name c.args.stem.now) cause (record { target = c.in_ok-target.target; reason = c.in-Some.reason }) c.take_unit.new.self.loaded.faults.items _
    (sym c.is_absent.ensures ∙ c.if-is_absent.false) c.in_ok-target.ensures.ok pushed)) c.push_once.ensures.lost
