-- How contracts see assignments and the entries of timers: by the contents of keys, values and texts, not by where
-- these are in memory.
use Rattle.std.specs.Prelude.{string_bytes}
use Rattle.cal_spec.specs.rules.Fields.{Fields}
use Rattle.cal_timer.specs.rules.Assignments.{Assignment}
use Rattle.cal_timer.specs.rules.TimerEntries.{TimerLine}
use Rattle.cal_timer.specs.declared.timer.TimerLine as declared_line
use Rattle.cal_timer.specs.declared.assignments.Assignment as declared_assignment

-- an entry of either list, converted from the struct `TimerLine` of the code to the record of the same name
abbrev pub shown : declared_line.TimerLine → TimerLine Fields
shown line = record { number = line.number; text = string_bytes line.text; expr = line.expr }

abbrev pub shown_assignment : declared_assignment.Assignment → Assignment
shown_assignment a = record { number = a.number; key = a.key.now; value = a.value.now }
