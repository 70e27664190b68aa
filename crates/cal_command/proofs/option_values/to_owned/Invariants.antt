use Rattle.std.proofs.Common.{◌≡◌, map, take, string_bytes}
use Rattle.cal_command.proofs.option_values.to_owned.Given as goal

-- all texts before the current one have been copied
abbrev pub invariant-loop-text : goal.invariant-loop-text
invariant-loop-text l = map string_bytes l.all.items ≡ map (λ text. text.now) (take l.text-index l.texts)
