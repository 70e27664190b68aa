use Rattle.std.proofs.Common.{◌≡◌, ◌<◌, ◌∙◌, arith, length}
use Rattle.cal_spec.specs.computed.Expr.{expr_in}
use Rattle.cal_read.proofs.TimerFaultsLemmas.{ended_files, files_counted, step_files}
use Rattle.cal_read.proofs.faults.find_faults.Goals as goal

pub loop-index-init : goal.loop-index-init
loop-index-init c = rw c.new-found.ensures.items (files_counted expr_in c.args.files.now)

pub loop-index-preserved : goal.loop-index-preserved
loop-index-preserved c =
    let here : c.loop-index.index < length c.args.files.now = omega arith in
    step_files expr_in c.loop-index.found.items c.take_faults.new.found.items c.loop-index.counts c.in_ok-counts.counts c.args.files.now c.loop-index.index _ here c.in_ok-counts.ensures.faults c.in_ok-counts.ensures.counts
    ∙ c.loop-index.invariant

pub returns : goal.returns
returns c =
    let all : c.loop-index.index ≡ length c.args.files.now = omega arith in
    ended_files expr_in c.loop-index.found.items c.loop-index.counts c.args.files.now c.loop-index.index all ∙ c.loop-index.invariant
