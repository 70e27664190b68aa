use Rattle.std.proofs.Common.{string_bytes, subst}
use Rattle.cal_load.specs.declared.files.Taken.TheVariants.{Unusable}
use Rattle.cal_load.specs.rules.AllFiles.{IsTaken}
use Rattle.cal_load.specs.rules.FileFaults.{IsCause, cause_of}
use Rattle.cal_load.proofs.FileLemmas.{unusable_read}
use Rattle.cal_load.proofs.files.Reading.take_found.Goals as goal

pub returns-in_ok-reason-in-Unusable-clause-read : goal.returns-in_ok-reason-in-Unusable-clause-read
returns-in_ok-reason-in-Unusable-clause-read g c machine search_path unit shows is found =
    unusable_read machine search_path c.args.asked.now (string_bytes c.args.file.now.path) (string_bytes c.args.file.now.file) (string_bytes c.args.file.now.stem)
    c.in-Unusable.reason c.in_ok-reason-in-Unusable.reason unit c.args.self.now c.take.new.self
    (subst (λ place. IsTaken machine place (Unusable c.in-Unusable.reason) c.args.self.now c.take.new.self) c.as_str.ensures.value
    (subst (λ taken. IsTaken machine c.as_str.result.now taken c.args.self.now c.take.new.self) c.in-Unusable.is (c.in_ok-take.ensures.tried machine shows)))
    c.in_ok-take.ensures.faults
    (subst (λ place. IsCause (cause_of place c.in-Unusable.reason) c.in_ok-reason-in-Unusable.reason) c.as_str-in-Unusable.ensures.value c.in_ok-reason-in-Unusable.ensures)
    found
