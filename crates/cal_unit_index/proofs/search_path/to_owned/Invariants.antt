use Rattle.std.proofs.Common.{◌≡◌, map, take, string_bytes}
use Rattle.cal_unit_index.proofs.search_path.to_owned.Given as goal

abbrev pub invariant-loop-text : goal.invariant-loop-text
invariant-loop-text l = map string_bytes l.all.items ≡ map (λ text. text.now) (take l.text-index l.texts)
