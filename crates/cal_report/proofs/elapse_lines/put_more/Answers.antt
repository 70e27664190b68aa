use Rattle.std.proofs.Common.{◌≡◌, ◌∙◌, ◌+◌, ◌-◌, arith}
use Rattle.cal_bytes.proofs.PutLemmas.{put_cut, put_next}
use Rattle.cal_report.proofs.ElapseTexts.{texts_first}
use Rattle.cal_report.proofs.elapse_lines.put_more.Goals as goal

pub returns-in_err-put_elapse : goal.returns-in_err-put_elapse
returns-in_err-put_elapse g c =
    let given = rw c.in-Some.is at c.next.ensures.given in
    let split = texts_first c.args.formatter.now c.args.now.secs c.loop-number.number _ (c.args.iterations - c.loop-number.number) _ _ (omega arith) given in
    put_cut _ split c.from_residual.ensures.0 c.loop-number.invariant.puts (rw c.loop-number.invariant.local at c.in_err-put_elapse.ensures.text)

pub loop-number-preserved : goal.loop-number-preserved
loop-number-preserved g c =
    let given = rw c.in-Some.is at c.next.ensures.given in
    let split = texts_first c.args.formatter.now c.args.now.secs c.loop-number.number _ (c.args.iterations - c.loop-number.number) _ _ (omega arith) given in
    let count : c.args.iterations + 1 - (c.loop-number.number + 1) ≡ c.args.iterations - c.loop-number.number = omega arith in
    record {
      local = c.in_ok-put_elapse.ensures.local ∙ c.loop-number.invariant.local;
      puts = rw (count, c.next.ensures.left) (put_next split c.loop-number.invariant.puts (rw c.loop-number.invariant.local at c.in_ok-put_elapse.ensures.text));
    }
