use Rattle.std.proofs.Common.{◌≡◌, ◌+◌, drop, false}
use Rattle.cal_cron.specs.rules.CrontabLines.{command_len}
use Rattle.cal_cron.proofs.line_texts.command_len.Given as goal

-- no byte so far ends the command
abbrev pub invariant-loop-byte : goal.invariant-loop-byte
invariant-loop-byte l = record {
  same : command_len false l.text ≡ l.byte-index + command_len l.is_escaped (drop l.byte-index l.text);
  count : l.len ≡ l.byte-index;
}
