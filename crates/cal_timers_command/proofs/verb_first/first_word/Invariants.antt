use Rattle.std.proofs.Common.{◌≡◌, None, map}
use Rattle.cal_timers_command.specs.rules.VerbFirst.{first_failing, is_passed, is_value_at}
use Rattle.cal_timers_command.proofs.verb_first.first_word.Given as goal

-- all arguments before the current one are options or values, and `is_value` says whether the current one is a value
abbrev pub invariant-loop-index : goal.invariant-loop-index
invariant-loop-index g l = record {
  passed : first_failing (is_passed (map g.S.AsStr.text l.arguments)) l.index ≡ None;
  value : l.is_value ≡ is_value_at (map g.S.AsStr.text l.arguments) l.index;
}
