use Rattle.std.proofs.Common.{◌≡◌, ◌≤◌, ◌-◌, ◌++◌, length, take, drop}
use Rattle.cal_span.specs.rules.PairValue.{characters}
use Rattle.cal_span.specs.computed.SpanValue.{front_of, after_front}
use Rattle.cal_span.proofs.span.word.front_len.Given as goal

-- the longest prefix that has only characters of the kind `kind` consists of the bytes so far and the longest such
-- prefix of the remaining bytes
abbrev pub invariant-loop-found : goal.invariant-loop-found
invariant-loop-found l = record {
  in_range : l.len ≤ length l.bytes;
  front : front_of l.kind (characters l.bytes) ≡ take l.len l.bytes ++ front_of l.kind (characters (drop l.len l.bytes));
  rest : after_front l.kind (characters l.bytes) ≡ after_front l.kind (characters (drop l.len l.bytes));
}

abbrev pub decreases-loop-found : goal.decreases-loop-found
decreases-loop-found l = length l.bytes - l.len
