-- A lemma on what `cron` prints.
use Rattle.std.proofs.Common.{◌≡◌, ◌∙◌, ℕ, List, ap}
use Rattle.cal_answers.specs.rules.Printed.{Printed, status_by, with_errors}

-- what is printed, with equal texts in place of those that were returned
pub cron_printed : (lines : List ℕ) (printed : Printed) (out out' err err' : List ℕ) (status : ℕ)
    → printed ≡ with_errors lines (record { out = out; err = err; status = status })
    → out ≡ out' → err ≡ err' → status ≡ status_by err
    → printed ≡ with_errors lines (record { out = out'; err = err'; status = status_by err' })
cron_printed lines printed out out' err err' status is same_out same_err same_status =
    is
    ∙ ap (λ text. with_errors lines (record { out = text; err = err; status = status })) same_out
    ∙ ap (λ number. with_errors lines (record { out = out'; err = err; status = number })) same_status
    ∙ ap (λ text. with_errors lines (record { out = out'; err = text; status = status_by text })) same_err
