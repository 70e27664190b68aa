-- Lemmas on the greatest width in a list after one more element is appended.
use Rattle.std.proofs.Common.{◌≡◌, ℕ, ◌+◌, ◌<◌, max, List, [], ◌∷◌, ◌++◌, length, map, take, get_or, ap, ◌∙◌, arith}
use Rattle.std.proofs.lemmas.List.{map_more}
use Rattle.cal_timers_report.specs.rules.Columns.{widest}

widest_append : {X : Type 0} (width : X → ℕ) (xs : List X) (last : X) → widest width (xs ++ last ∷ []) ≡ max (widest width xs) (width last)
widest_append width [] last = omega arith
widest_append width (x ∷ xs) last = omega (arith, widest_append width xs last)

pub widest_more : {X Y : Type 0} (width : X → ℕ) (view : Y → X) (ys : List Y) (i : ℕ) (d : Y) → i < length ys
    → widest width (map view (take (i + 1) ys)) ≡ max (widest width (map view (take i ys))) (width (view (get_or ys i d)))
widest_more width view ys i d h = ap (widest width) (map_more view ys i d h) ∙ widest_append width (map view (take i ys)) (view (get_or ys i d))
