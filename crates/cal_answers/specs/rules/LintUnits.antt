-- Whether a timer's own file is in the search path (systemd.unit(5), Unit File Load Path). Only then does `lint` look
-- for the unit that the timer starts.
use Rattle.std.specs.Prelude.{ℕ, Bool, false, not, ◌&&◌, List, [], ◌∷◌, drop, length, nat_eq, string_bytes}
use Rattle.std.specs.List.{list_any, starts_with}
use Rattle.cal_machine.specs.rules.Places.{is_slash}
use Rattle.cal_unit_index.specs.declared.files.UnitText.{UnitText}

-- whether this is a slash and a text without slashes
abbrev pub is_name_below : List ℕ → Bool
is_name_below [] = false
is_name_below (first ∷ rest) = is_slash first && not (list_any is_slash rest)

-- whether the path is directly in the folder, and not in a subfolder
unfoldable pub is_directly_in : List ℕ → List ℕ → Bool
is_directly_in folder path = starts_with nat_eq path folder && is_name_below (drop (length folder) path)

-- whether a timer's own file, which is the first, is in one of these folders
abbrev pub is_in_folders : List (List ℕ) → List UnitText → Bool
is_in_folders folders [] = false
is_in_folders folders (own ∷ rest) = list_any (λ folder. is_directly_in folder (string_bytes own.path)) folders
