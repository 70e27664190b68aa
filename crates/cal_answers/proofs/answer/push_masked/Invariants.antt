use Rattle.std.proofs.Common.{◌≡◌, ◌++◌, codes, map, string_bytes, take}
use Rattle.std.specs.List.{flat_map}
use Rattle.cal_answers.proofs.answer.push_masked.Given as goal

abbrev pub invariant-loop-name : goal.invariant-loop-name
invariant-loop-name l =
    string_bytes l.text ≡ string_bytes l.fn.text ++ flat_map (λ part. part ++ codes ": masked\n") (map string_bytes (take l.name-index l.masked))
