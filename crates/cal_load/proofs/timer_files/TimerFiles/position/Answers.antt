use Rattle.std.proofs.Common.{◌<◌, ◌^◌, arith}
use Rattle.cal_load.proofs.PositionLemmas.{found_line}
use Rattle.cal_load.proofs.timer_files.TimerFiles.position.Goals as goal

pub returns-clause-position : goal.returns-clause-position
returns-clause-position c = rw (← c.as_slice.ensures.value, ← c.as_slice-2.ensures.value) c.position_in.ensures

pub returns-clause-line : goal.returns-clause-line
returns-clause-line c =
    let fits : c.args.number < 2 ^ 32 = omega arith in
    rw (← c.as_slice.ensures.value, ← c.as_slice-2.ensures.value)
    (λ are has. found_line c.as_slice.result.now c.as_slice-2.result.now c.args.number c.position_in.result fits are has c.position_in.ensures)
