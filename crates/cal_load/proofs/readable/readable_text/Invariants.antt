-- Reading the text so far has the same result as reading the bytes before `rest`.
use Rattle.std.proofs.Common.{ℕ, ◌+◌, ◌≤◌, length, string_bytes}
use Rattle.cal_load.proofs.ReadableLemmas.{Reads}
use Rattle.cal_load.proofs.readable.readable_text.Given as goal

abbrev pub invariant-loop-rest : goal.invariant-loop-rest
invariant-loop-rest l = record {
  stands : (number : ℕ) → Reads number l.bytes (string_bytes l.text) l.rest;
  shorter : length (string_bytes l.text) + length l.rest ≤ length l.bytes;
}

abbrev pub decreases-loop-rest : goal.decreases-loop-rest
decreases-loop-rest l = length l.rest
