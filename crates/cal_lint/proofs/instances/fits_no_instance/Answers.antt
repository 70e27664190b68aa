use Rattle.std.proofs.Common.{ap, not}
use Rattle.cal_lint.proofs.instances.fits_no_instance.Goals as goal

pub returns-in_ok-fits_any-in-Some : goal.returns-in_ok-fits_any-in-Some
returns-in_ok-fits_any-in-Some c =
    rw (← c.around_instance.ensures, c.in-Some.is) (ap not c.in_ok-fits_any-in-Some.ensures)
