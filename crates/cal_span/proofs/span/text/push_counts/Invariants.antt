-- Appending the counts of the remaining units to the text so far gives the same as appending the counts of all units to
-- the initial text. Each unit so far has added at most 26 bytes.
use Rattle.std.proofs.Common.{◌≡◌, ◌+◌, ◌*◌, ◌≤◌, ◌++◌, length, drop}
use Rattle.cal_span.specs.rules.SpanText.{counts_in_row, positive, counts_of}
use Rattle.cal_span.proofs.SpanCounts.{led}
use Rattle.cal_span.proofs.span.text.push_counts.Given as goal

abbrev pub invariant-loop-unit : goal.invariant-loop-unit
invariant-loop-unit l =
    record {
      lead : length l.lead ≤ 1;
      short : length l.text.items ≤ length l.fn.text.items + 26 * l.unit-index;
      whole : l.text.items ++ led l.lead (positive (counts_of (drop l.unit-index l.units) l.rest)) ≡ l.fn.text.items ++ counts_in_row (positive (counts_of l.fn.units l.fn.micros));
    }
