use Rattle.std.proofs.Common.{◌≡◌, map, take, string_bytes}
use Rattle.cal_unit_index.proofs.paths.all_texts.Given as goal

abbrev pub invariant-loop-text : goal.invariant-loop-text
invariant-loop-text l = map (λ text. text.now) l.texts.items ≡ map string_bytes (take l.text-index l.search_path)
