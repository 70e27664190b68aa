use Rattle.std.proofs.Common.{false}
use Rattle.cal_work.proofs.EndLemmas.{reaches_fault, reaches_flushed, reaches_unflushed}
use Rattle.cal_work.proofs.arguments_to_bytes.flush_output.Goals as goal

pub returns-then-flush-clause-bytes : goal.returns-then-flush-clause-bytes
returns-then-flush-clause-bytes g c =
    let flushed = rw c.if-flush.true at c.flush.ensures.bytes in
    λ before text w. reaches_flushed c.args.written before _ _ text w flushed

pub returns-in-Ok-clause-bytes : goal.returns-in-Ok-clause-bytes
returns-in-Ok-clause-bytes g c =
    let left = rw c.if-flush.false at c.flush.ensures.bytes in
    λ before text w. reaches_unflushed before _ _ text (rw c.in-Ok.is at w) left

pub returns-in-Err-clause-bytes : goal.returns-in-Err-clause-bytes
returns-in-Err-clause-bytes g c =
    let left = rw c.if-flush.false at c.flush.ensures.bytes in
    λ before text w. reaches_fault c.in-Err.fault before _ _ text false (rw c.in-Err.is at w) left
