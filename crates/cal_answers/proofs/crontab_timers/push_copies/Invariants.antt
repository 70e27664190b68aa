use Rattle.std.proofs.Common.{◌≡◌, ◌++◌, map, string_bytes, take}
use Rattle.cal_answers.proofs.crontab_timers.push_copies.Given as goal

abbrev pub invariant-loop-text : goal.invariant-loop-text
invariant-loop-text l = map string_bytes l.notes.items ≡ map string_bytes l.fn.notes.items ++ map string_bytes (take l.text-index l.texts)
