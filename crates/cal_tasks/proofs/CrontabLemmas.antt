-- Lemmas on timers that were made of entries of crontabs.
use Rattle.std.proofs.Common.{◌≡◌, ◌++◌, Bor, List, [], ◌∷◌, ℕ, ap, codes, map, refl}
use Rattle.std.specs.List.{flat_map, join_by}
use Rattle.cal_tasks.specs.rules.FromCrontab.{listed}

rest_is : (texts : List (Bor (List ℕ))) → flat_map (λ text. codes ", " ++ text.now) texts ≡ flat_map (λ text. codes ", " ++ text) (map (λ text. text.now) texts)
rest_is [] = refl
rest_is (text ∷ texts) = ap (λ rest. (codes ", " ++ text.now) ++ rest) (rest_is texts)

-- joining borrowed texts joins the texts
pub listed_is : (texts : List (Bor (List ℕ))) → join_by (λ text. text.now) (codes ", ") texts ≡ listed (map (λ text. text.now) texts)
listed_is [] = refl
listed_is (text ∷ texts) = ap (λ rest. text.now ++ rest) (rest_is texts)
