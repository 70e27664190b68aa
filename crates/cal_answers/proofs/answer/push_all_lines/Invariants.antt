use Rattle.std.proofs.Common.{◌≡◌, ◌++◌, codes, map, string_bytes, take}
use Rattle.std.specs.List.{flat_map}
use Rattle.cal_answers.proofs.answer.push_all_lines.Given as goal

abbrev pub invariant-loop-line : goal.invariant-loop-line
invariant-loop-line l =
    string_bytes l.text ≡ string_bytes l.fn.text ++ flat_map (λ part. part ++ codes "\n") (map string_bytes (take l.line-index l.lines))
