use Rattle.std.proofs.Common.{arith}
use Rattle.jiff.proofs.SpanFacts.{signed_arith}
use Rattle.cal_zone.proofs.rules.Rules.local_range_by_rule.Goals as goal

pub range_end_after_table-requires-clause-constant : goal.range_end_after_table-requires-clause-constant
range_end_after_table-requires-clause-constant c =
    grind (arith, signed_arith, c.self.view_is, c.in-File.is, c.in_ok-new.ensures.value, c.constant_offset_until-constant_until.ensures)

pub local_range_until-requires-in-File-clause-same_offsets : goal.local_range_until-requires-in-File-clause-same_offsets
local_range_until-requires-in-File-clause-same_offsets c = grind (arith, signed_arith, c.self.view_is, c.in-File.is, c.range_end_after_table.ensures)
