-- Expressions in templates: whether any instance makes them valid (systemd.unit(5), Specifiers; systemd.time(7),
-- Calendar Events).
use Rattle.std.specs.Prelude.{ℕ, ◌==◌, ◌||◌, ◌++◌, Bool, false, not, if◌then◌else◌, List, [], ◌∷◌, Option, None, Some, codes}
use Rattle.std.specs.List.{after_first, before_first, list_any}
use Rattle.std.specs.Option.{option_and_then, option_map_or}
use Rattle.std.specs.Result.{is_ok}
use Rattle.cal_unit_index.specs.rules.Settings.{has_percent}
use Rattle.cal_spec.specs.computed.Expr.{expr_in}

-- The instances that are tried: shorthands and their beginnings, weekdays, numbers of each component, dates, times, and
-- zones.
abbrev pub usual_instances : List (List ℕ)
usual_instances =
    codes "daily" ∷ codes "hour" ∷ codes "Mon" ∷ codes "*" ∷ codes "0" ∷ codes "1" ∷ codes "2" ∷ codes "12" ∷ codes "23"
    ∷ codes "28" ∷ codes "31" ∷ codes "59" ∷ codes "2199" ∷ codes "12-31" ∷ codes "2199-12-31" ∷ codes "1:00"
    ∷ codes "23:59:59" ∷ codes "UTC" ∷ []

abbrev pub is_percent : ℕ → Bool
is_percent byte = byte == 37

-- whether the letter after a `%` stands for the instance: `i` for the instance as it is written, `I` for the unescaped
-- instance
abbrev pub is_instance_letter : ℕ → Bool
is_instance_letter letter = letter == 105 || letter == 73

-- the text after its first letter, if this letter is `i` or `I`
abbrev pub after_letter : List ℕ → Option (List ℕ)
after_letter [] = None
after_letter (letter ∷ after) = if is_instance_letter letter then Some after else None

-- both texts, unless the second one is missing or has a specifier
abbrev pub both_if_plain : List ℕ → Option (List ℕ) → Option (List ℕ × List ℕ)
both_if_plain before None = None
both_if_plain before (Some after) = if has_percent after then None else Some (before, after)

-- what stands before and after the first `%`, if there is one
abbrev pub around_percent : List ℕ → Option (List ℕ × List ℕ)
around_percent value =
    if list_any is_percent value then Some (before_first is_percent value, after_first is_percent value) else None

-- what stands before and after the instance; None unless the instance is the only specifier of the value
abbrev pub around_instance : List ℕ → Option (List ℕ × List ℕ)
around_instance value = option_and_then (λ parts. both_if_plain parts.0 (after_letter parts.1)) (around_percent value)

-- whether the instance, between the two texts in `parts`, makes a valid expression
abbrev pub fits : List ℕ × List ℕ → List ℕ → Bool
fits parts instance = is_ok (expr_in (parts.0 ++ instance ++ parts.1))

-- whether the only specifier of a value is the instance, and none of these instances makes the value a valid expression
abbrev pub fits_none_of : List (List ℕ) → List ℕ → Bool
fits_none_of instances value = option_map_or (λ parts. not (list_any (fits parts) instances)) (around_instance value) false

abbrev pub fits_no_instance : List ℕ → Bool
fits_no_instance = fits_none_of usual_instances
