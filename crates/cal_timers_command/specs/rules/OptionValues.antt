-- How the values of options are parsed, and the messages about invalid values.
use Rattle.std.specs.Prelude.{ℕ, ◌||◌, ◌==◌, ◌++◌, Bool, false, List, [], ◌∷◌, length, Option, None, Some, codes, decimal, find, if◌then◌else◌, map, unsigned_abs}
use Rattle.std.specs.Option.{option_map_or}
use Rattle.std.specs.Str.{bytes_eq}
use Rattle.clap.specs.Words.{Row, Text}
use Rattle.cal_zone.specs.rules.Instant.{last_instant}

-- `--zone`, `--in` and `--root`: any text that isn't empty
abbrev pub text_in : Text → Option Text
text_in [] = None
text_in (byte ∷ bytes) = Some (byte ∷ bytes)

abbrev pub hint : Text
hint = codes "\n\nFor more information, try '--help'.\n"

-- The messages about an invalid value of the option `--name`, in the words of `clap`. The help calls the value
-- `value_name`.
abbrev pub no_value : Text → Text → Text
no_value name value_name =
    codes "error: a value is required for '--" ++ name ++ codes " <" ++ value_name ++ codes ">' but none was supplied" ++ hint

abbrev pub invalid_value : Text → Text → Text → Text → Text
invalid_value name value_name reason text =
    codes "error: invalid value '" ++ text ++ codes "' for '--" ++ name ++ codes " <" ++ value_name ++ codes ">': " ++ reason ++ hint

abbrev pub bad_value : Text → Text → Text → Text → Text
bad_value name value_name reason text =
    if length text == 0 then no_value name value_name else invalid_value name value_name reason text

-- which numbers are expected; the prefix stands in front of each
unfoldable pub expected : Text → ℕ → ℕ → Text
expected prefix least most = codes "expected " ++ prefix ++ decimal least ++ codes " to " ++ prefix ++ decimal most

-- the messages about a value that isn't a number from `least` to `most`, and about one that isn't an instant
abbrev pub bad_number : Text → Text → ℕ → ℕ → Text → Text
bad_number name value_name least most = bad_value name value_name (expected [] least most)

abbrev pub bad_instant : Text → Text → Text → Text
bad_instant name value_name = bad_value name value_name (expected (codes "@") 0 (unsigned_abs last_instant))

-- the message about `--zone` with `--utc`, in the words of `clap`, which begins with the option that is given first
abbrev pub zone_clash : Bool → Text
zone_clash is_zone_first =
    if is_zone_first then codes "error: the argument '--zone <ZONE>' cannot be used with '--utc'" ++ hint
    else codes "error: the argument '--utc' cannot be used with '--zone <ZONE>'" ++ hint

-- `zone` comes before `utc` among the names
abbrev pub zone_leads : List Text → Bool
zone_leads names =
    option_map_or (λ name. bytes_eq name (codes "zone")) (find (λ name. bytes_eq name (codes "zone") || bytes_eq name (codes "utc")) names) false

-- `--zone` is given before `--utc`, if both are given
abbrev pub is_zone_first : List Row → Bool
is_zone_first rows = zone_leads (map (λ row. row.id) rows)
