use Rattle.std.proofs.Common.{refl, subst}
use Rattle.std.proofs.lemmas.Result.{on_ok_weaker}
use Rattle.cal_load.specs.declared.files.Taken.TheVariants.{Unusable}
use Rattle.cal_load.specs.rules.AllFiles.{IsTaken}
use Rattle.cal_load.specs.rules.FileFaults.{cause_of}
use Rattle.cal_load.proofs.FileLemmas.{file_read}
use Rattle.cal_load.proofs.files.Reading.take_path.Goals as goal

pub returns-in_ok-reason-in-Unusable-clause-read : goal.returns-in_ok-reason-in-Unusable-clause-read
returns-in_ok-reason-in-Unusable-clause-read g c =
    on_ok_weaker c.push_named.result (λ pushed machine shows.
    file_read machine c.args.path.now (Unusable c.in-Unusable.reason) c.args.self.now c.take.new.self _
    (subst (λ taken. IsTaken machine c.args.path.now taken c.args.self.now c.take.new.self) c.in-Unusable.is (c.in_ok-take.ensures.tried machine shows))
    c.in_ok-take.ensures.faults refl refl
    (pushed (cause_of c.args.path.now c.in-Unusable.reason) c.in_ok-reason-in-Unusable.ensures)) c.push_named.ensures
