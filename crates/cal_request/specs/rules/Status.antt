-- How a run ends: with a status if its output could be written in full, and otherwise with an error. Two definitions
-- say which of the run's two writers failed, if one of them did.
use Rattle.std.specs.Prelude.{Bool, true, false, Result, Ok, Err}
use Rattle.cal_request.specs.declared.request.Status.{Status}
use Rattle.cal_request.specs.declared.request.Status.TheVariants.{Fine, Refused}
use Rattle.cal_request.specs.declared.request.RunFault.{RunFault}
use Rattle.cal_request.specs.declared.request.RunFault.TheVariants.{OutFailed, ErrFailed, NoMemory}

abbrev pub is_fine : Status → Bool
is_fine Fine = true
is_fine Refused = false

-- the status of two parts of a run together: `Fine` if both are `Fine`, and otherwise `Refused`
abbrev pub status_and : Status → Status → Status
status_and Fine later = later
status_and Refused later = Refused

-- whether a run ended because writing a report failed
abbrev pub is_out_failed : {T : Type 0} → Result T RunFault → Bool
is_out_failed (Ok ended) = false
is_out_failed (Err OutFailed) = true
is_out_failed (Err ErrFailed) = false
is_out_failed (Err NoMemory) = false

-- whether a run ended because writing an error line failed
abbrev pub is_err_failed : {T : Type 0} → Result T RunFault → Bool
is_err_failed (Ok ended) = false
is_err_failed (Err OutFailed) = false
is_err_failed (Err ErrFailed) = true
is_err_failed (Err NoMemory) = false
