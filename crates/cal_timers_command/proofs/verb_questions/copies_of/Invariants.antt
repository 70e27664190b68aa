use Rattle.std.proofs.Common.{◌≡◌, map, string_bytes, take}
use Rattle.cal_timers_command.specs.rules.Texts.{texts_of}
use Rattle.cal_timers_command.proofs.verb_questions.copies_of.Given as goal

-- the texts before the current one have been copied
abbrev pub invariant-loop-text : goal.invariant-loop-text
invariant-loop-text l = map string_bytes l.copies.items ≡ texts_of (take l.text-index l.texts)
