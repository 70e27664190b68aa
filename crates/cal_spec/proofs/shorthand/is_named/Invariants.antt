use Rattle.std.proofs.Common.{◌≡◌, map, drop}
use Rattle.std.specs.List.{list_any}
use Rattle.std.specs.Str.{str_eq_ignore_ascii_case}
use Rattle.cal_spec.proofs.shorthand.is_named.Given as goal

-- the word is one of the names if and only if it is one of the remaining names, since it isn't any of the names before
-- them
abbrev pub invariant-loop-name : goal.invariant-loop-name
invariant-loop-name l =
    list_any (str_eq_ignore_ascii_case l.word) (map (λ name. name.now) (drop l.name-index l.names)) ≡ list_any (str_eq_ignore_ascii_case l.word) (map (λ name. name.now) l.names)
