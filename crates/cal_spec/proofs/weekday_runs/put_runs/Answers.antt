use Rattle.std.proofs.Common.{◌+◌, ◌-◌, arith, refl}
use Rattle.std.proofs.lemmas.List.{take_rest}
use Rattle.cal_bytes.proofs.PutLemmas.{left_respelled, put_cut, put_next, put_none}
use Rattle.cal_spec.specs.rules.WeekdayRuns.{runs_from}
use Rattle.cal_spec.proofs.WeekdayLemmas.{led-front, led-skip, runs_text-led}
use Rattle.cal_spec.proofs.weekday_runs.put_runs.Goals as goal
use Rattle.cal_spec.proofs.weekday_runs.put_runs.Goals.{then-len-gt0+in_ok-put_run, else-len-gt0}

pub loop-first-init : goal.loop-first-init
loop-first-init g c = left_respelled (put_none c.requires.works) (runs_text-led (runs_from 0 c.args.days.now))

pub returns-in_err-put_run : goal.returns-in_err-put_run
returns-in_err-put_run g c =
    let len = c.leading_days-len in
    let first = c.loop-first.first in
    let run = led-front c.loop-first.lead.now first (first + len.result - 1) (first + (len.result + 1)) len.result c.args.days.now (rw take_rest at len.ensures.value) (omega arith) refl refl in
    put_cut _ run c.from_residual.ensures.0 c.loop-first.invariant c.in_err-put_run.ensures

pub loop-first-preserved : goal.loop-first-preserved
loop-first-preserved g c =
    let len = c.leading_days-len in
    let first = c.loop-first.first in
    elim c.if-len-gt0.branch [
      | then-len-gt0+in_ok-put_run w ↦
          (let run = led-front c.loop-first.lead.now first (first + len.result - 1) (first + (len.result + 1)) len.result c.args.days.now (rw take_rest at len.ensures.value) (omega arith) refl refl in
          rw (w.out-is, w.lead-is) (put_next run c.loop-first.invariant w.in_ok-put_run.ensures))
      | else-len-gt0 w ↦
          (let skip = led-skip c.loop-first.lead.now first (first + (len.result + 1)) len.result c.args.days.now (rw take_rest at len.ensures.value) (omega arith) refl in
          rw (w.out-is, w.lead-is) (left_respelled c.loop-first.invariant skip))
    ]
