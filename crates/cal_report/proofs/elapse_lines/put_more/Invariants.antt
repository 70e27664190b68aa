-- What remains to be written are the elapses that the source has yet to return. They are numbered from `number` to
-- `iterations`, or to a smaller number if the source ends before that. The writer hasn't failed, and the local zone is
-- the same as before the loop.
use Rattle.std.proofs.Common.{◌≡◌, ◌+◌, ◌-◌, take}
use Rattle.cal_bytes.proofs.PutLemmas.{PutsUpTo}
use Rattle.cal_report.specs.rules.ElapseLines.{elapse_texts}
use Rattle.cal_report.proofs.elapse_lines.put_more.Given as goal

abbrev pub invariant-loop-number : goal.invariant-loop-number
invariant-loop-number g l =
    record {
      local : l.formatter ≡ l.fn.formatter;
      puts : PutsUpTo g.W.Sink l.fn.out l.out
          (elapse_texts l.fn.formatter l.now.secs l.number (take (l.iterations + 1 - l.number) l.elapses))
          (elapse_texts l.fn.formatter l.now.secs 2 (take (l.iterations - 1) l.fn.elapses));
    }
