use Rattle.std.proofs.Common.{◌≡◌, ◌++◌, map, take, string_bytes}
use Rattle.cal_unit_index.proofs.search_path.push_texts.Given as goal

abbrev pub invariant-loop-text : goal.invariant-loop-text
invariant-loop-text l =
    map (λ folder. folder.now) l.folders.items ≡ map (λ folder. folder.now) l.fn.folders.items ++ map string_bytes (take l.text-index l.texts)
