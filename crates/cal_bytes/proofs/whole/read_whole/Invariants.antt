-- No read has failed. `bytes` is what has been read so far, and has at most `limit` bytes.
use Rattle.std.proofs.Common.{◌≡◌, ◌-◌, ◌≤◌, false, length}
use Rattle.std.specs.Io.KnownBytes.{Consumes}
use Rattle.cal_bytes.proofs.whole.read_whole.Given as goal

abbrev pub invariant-loop-count : goal.invariant-loop-count
invariant-loop-count g l =
    record {
      works : g.R.Source.is_failed l.from ≡ false;
      stays : g.R.Source.may_fail l.from ≡ g.R.Source.may_fail l.fn.from;
      taken : Consumes (g.R.Source.remaining l.fn.from) (g.R.Source.remaining l.from) l.bytes.items;
      fits : length l.bytes.items ≤ l.limit;
    }

abbrev pub decreases-loop-count : goal.decreases-loop-count
decreases-loop-count g l = l.limit - length l.bytes.items
