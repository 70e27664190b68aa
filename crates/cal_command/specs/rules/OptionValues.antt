-- How the values of options are parsed: `--iterations` of systemd-analyze(1), and this project's own `--zones`. The
-- value of `--local` is a `ZoneArgument` of `cal_zone`, and that of `--base-time` is a timestamp, which isn't parsed
-- here.
use Rattle.std.specs.Prelude.{ℕ, ◌&&◌, Bool, List, [], ◌∷◌, length, Option, None, Some, nat_lt, nat_le, if◌then◌else◌, option_and_then, option_map}
use Rattle.std.specs.List.{after_first, before_first, list_any, slice_split}
use Rattle.cal_civil.specs.rules.ZoneName.{is_zone_name}
use Rattle.cal_command.specs.rules.Ask.{ZoneItem}
use Rattle.cal_options.specs.rules.OptionNumbers.{number_between}
use Rattle.cal_request.specs.rules.Verb.{max_iterations}
use Rattle.cal_bytes.specs.rules.Separators.{is_equals, is_comma}

-- `--iterations`: a number of elapses, from 1 to `max_iterations`
unfoldable pub count_in : List ℕ → Option ℕ
count_in = number_between 1 max_iterations

-- the parts of a text before and after its first separator, or None if there is no separator
abbrev pub parts_at : (ℕ → Bool) → List ℕ → Option (List ℕ × List ℕ)
parts_at is_separator text =
    if list_any is_separator text then Some (before_first is_separator text, after_first is_separator text) else None

-- the item of `--zones` with this name and this path; None if the name doesn't have the form of a zone's name, or if
-- the path is empty
abbrev pub named_file : List ℕ × List ℕ → Option ZoneItem
named_file parts =
    if is_zone_name parts.0 && nat_lt 0 (length parts.1) then Some (record { name = parts.0; path = parts.1 }) else None

-- parses an item of `--zones`, `NAME=FILE`, which is split at its first `=`
unfoldable pub zone_item_in : List ℕ → Option ZoneItem
zone_item_in item = option_and_then named_file (parts_at is_equals item)

-- parses a list of items; None if one of them is invalid
unfoldable pub zone_items_in : List (List ℕ) → Option (List ZoneItem)
zone_items_in [] = Some []
zone_items_in (item ∷ items) =
    option_and_then (λ zone. option_map (λ zones. zone ∷ zones) (zone_items_in items)) (zone_item_in item)

-- the maximum number of items of `--zones`; more items are an error
abbrev pub max_zones : ℕ
max_zones = 64

-- `--zones`: items that are separated by commas, up to the maximum number
unfoldable pub zones_in : List ℕ → Option (List ZoneItem)
zones_in text =
    let items = slice_split is_comma text in if nat_le (length items) max_zones then zone_items_in items else None
