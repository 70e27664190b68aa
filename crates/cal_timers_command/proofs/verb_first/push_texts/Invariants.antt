use Rattle.std.proofs.Common.{◌≡◌, ◌++◌, map, take}
use Rattle.cal_timers_command.specs.rules.Texts.{texts_of}
use Rattle.cal_timers_command.proofs.verb_first.push_texts.Given as goal

-- the arguments before the current one have been appended
abbrev pub invariant-loop-argument : goal.invariant-loop-argument
invariant-loop-argument g l = texts_of l.texts.items ≡ texts_of l.fn.texts.items ++ map g.S.AsStr.text (take l.argument-index l.arguments)
