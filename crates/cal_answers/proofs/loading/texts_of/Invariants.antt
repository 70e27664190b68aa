use Rattle.std.proofs.Common.{◌≡◌, map, take, string_bytes}
use Rattle.cal_answers.proofs.loading.texts_of.Given as goal

abbrev pub invariant-loop-text : goal.invariant-loop-text
invariant-loop-text l = map (λ text. text.now) l.copies.items ≡ map string_bytes (take l.text-index l.texts)
