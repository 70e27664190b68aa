-- How contracts see a line of a unit file: as its number and the list of its bytes.
use Rattle.std.specs.Prelude.{ℕ, List, string_bytes}
use Rattle.cal_timer.specs.rules.Lines.{Line}
use Rattle.cal_timer.specs.declared.lines.LogicalLine.{LogicalLine}
use Rattle.cal_timer.specs.declared.lines.PlainLine.{PlainLine}

abbrev pub line_at : ℕ → List ℕ → Line
line_at number text = record { number = number; text = text }

abbrev pub plain_line : PlainLine → Line
plain_line plain = line_at plain.number plain.line.now

abbrev pub logical_line : LogicalLine → Line
logical_line logical = line_at logical.number (string_bytes logical.text)
