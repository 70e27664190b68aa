use Rattle.std.proofs.Common.{◌≡◌, false, true, Ok, Err, refl}
use Rattle.cal_bytes.specs.declared.whole.WholeFault.TheVariants as whole
use Rattle.cal_spec.specs.computed.Expr.{expr_in}
use Rattle.cal_timer.proofs.TimerLemmas.{never_failed}
use Rattle.cal_timer.proofs.file.read_timer.Goals as goal

pub returns-in-Err-ReadFailed-clause-list : goal.returns-in-Err-ReadFailed-clause-list
returns-in-Err-ReadFailed-clause-list g c =
    let failure = rw c.in-Err-ReadFailed.field-0-is at c.in-Err-ReadFailed.ensures in
    (Err whole.ReadFailed, search failure.bytes, failure.failed, λ _. refl)

pub returns-in-Err-TooLarge-clause-list : goal.returns-in-Err-TooLarge-clause-list
returns-in-Err-TooLarge-clause-list g c =
    let failure = rw c.in-Err-TooLarge.field-0-is at c.in-Err-TooLarge.ensures in
    (Err whole.TooLarge, search failure.bytes, failure.failed, λ _. refl)

pub returns-in-Err-NoMemory-clause-list : goal.returns-in-Err-NoMemory-clause-list
returns-in-Err-NoMemory-clause-list g c =
    let failure = rw c.in-Err-NoMemory.field-0-is at c.in-Err-NoMemory.ensures in
    (Err whole.NoMemory, search failure.bytes, failure.failed, λ _. refl)

pub returns-clause-failed : goal.returns-clause-failed
returns-clause-failed g c =
    let works = c.in-Ok.ensures.failed in (
      λ failed. let never : false ≡ true = rw works at failed in cc,
      λ failure. let read = rw failure at c.read_bytes.ensures in absurd (never_failed expr_in c.as_slice.result.now (read (λ e. cc))),
    )

pub returns-clause-list : goal.returns-clause-list
returns-clause-list g c = (Ok c.in-Ok.bytes.items, search c.in-Ok.ensures.bytes, c.in-Ok.ensures.failed, rw c.as_slice.ensures.value at c.read_bytes.ensures)
