-- What the laws say of the problems that `lint` lists: when they make it fail, and that none is listed twice.
use Rattle.std.specs.Prelude.{◌≡◌, ◌≢◌, ◌⊎◌, ⊤, Bool, true, not, List, [], ◌∷◌}
use Rattle.std.specs.List.{AllByRecursion}
use Rattle.cal_answers.specs.rules.LintRows.{Listed}

-- at least one of the problems is an error
abbrev pub HasError : List Listed → Type 0
HasError [] = ⊥
HasError (problem ∷ others) = (problem.row.is_error ≡ true) ⊎ HasError others

-- at least one of the problems is a warning
abbrev pub HasWarning : List Listed → Type 0
HasWarning [] = ⊥
HasWarning (problem ∷ others) = (not problem.row.is_error ≡ true) ⊎ HasWarning others

-- something couldn't be read, or there is an error or, with `--strict`, a warning
abbrev pub IsFailure : Bool → Bool → List Listed → Type 0
IsFailure is_strict is_incomplete listed =
    (is_incomplete ≡ true) ⊎ (HasError listed ⊎ ((is_strict ≡ true) × HasWarning listed))

-- no two of the problems have the same text
abbrev pub AreDistinct : List Listed → Type 0
AreDistinct [] = ⊤
AreDistinct (problem ∷ others) = AllByRecursion (λ other. problem.text ≢ other.text) others × AreDistinct others
