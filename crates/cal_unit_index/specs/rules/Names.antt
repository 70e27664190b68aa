-- The names of units: systemd.unit(5), Description. A stem is a unit's name without its suffix `.timer`. `lookup`
-- returns the destination of a stem, or None if the stem has none.
use Rattle.std.specs.Prelude.{ℕ, Bool, false, not, List, [], ◌∷◌, ◌++◌, Option, None, Some, filter, if◌then◌else◌, string_bytes}
use Rattle.std.specs.List.{filter_map, flat_map}
use Rattle.std.specs.Str.{bytes_eq}
use Rattle.cal_machine.specs.rules.Machine.{Machine}
use Rattle.cal_unit_index.specs.declared.aliases.Alias as aliases
use Rattle.cal_unit_index.specs.rules.Destinations.{Destination, destination_in, listed, sorted_once, stems_of}
use Rattle.cal_unit_index.specs.rules.Destinations.Destination.{FileAt, AliasOf}
use Rattle.cal_unit_index.specs.rules.UnitName.{instance_of, is_template}
use Rattle.cal_unit_index.specs.rules.Units.{End, Unit, following, unit_on}
use Rattle.cal_unit_index.specs.rules.Units.End.{Nowhere, AtFile, Endless}
use Rattle.cal_unit_index.specs.rules.Units.Unit.{Unfound, TemplateOnly, TooManyAliases, FoundAt}

-- ## Aliases

-- an alias, and the stem under which its unit's file is found, which can be a template's
pub record Alias : Type 0 where
  pub stem : List ℕ
  pub unit : List ℕ

abbrev pub alias_at_file : List ℕ → End → Option Alias
alias_at_file stem Nowhere = None
alias_at_file stem (AtFile path file) = Some (record { stem = stem; unit = file })
alias_at_file stem Endless = None

abbrev pub alias_if_linked : (List ℕ → Option Destination) → List ℕ → Option Destination → Option Alias
alias_if_linked lookup stem None = None
alias_if_linked lookup stem (Some (FileAt path)) = None
alias_if_linked lookup stem (Some (AliasOf other)) = alias_at_file stem (following lookup stem)

-- the alias with this stem; None if the stem isn't an alias, or if following it doesn't lead to a file
abbrev pub alias_with : (List ℕ → Option Destination) → List ℕ → Option Alias
alias_with lookup stem = alias_if_linked lookup stem (lookup stem)

abbrev pub aliases_named : (List ℕ → Option Destination) → List (List ℕ) → List Alias
aliases_named lookup names = filter_map (alias_with lookup) (stems_of names)

-- All aliases of a machine, in the order of the search path's folders, and sorted by name in each. An alias whose name
-- is in several folders is in the list several times. systemd leaves out an alias whose unit is masked; it isn't left
-- out here.
abbrev pub aliases_in : Machine → List (List ℕ) → List Alias
aliases_in machine search_path = flat_map (λ folder. aliases_named (destination_in machine search_path) (listed machine folder)) search_path

-- ## The names of a unit

-- whether following aliases ended at a file, but not at the one that was found under the stem `file`
abbrev pub is_elsewhere : List ℕ → End → Bool
is_elsewhere file Nowhere = false
is_elsewhere file (AtFile path other) = not (bytes_eq other file)
is_elsewhere file Endless = false

abbrev pub unless_elsewhere : (List ℕ → Option Destination) → List ℕ → List ℕ → Option (List ℕ)
unless_elsewhere lookup file name = if is_elsewhere file (following lookup name) then None else Some name

-- The name that an alias of the unit's file gives to the unit. An alias that is a template gives its name with the
-- unit's instance, unless that name leads to another file. An alias that is an instance gives its name only to a unit
-- with the same instance.
abbrev pub name_given : (List ℕ → Option Destination) → List ℕ → List ℕ → List ℕ → Option (List ℕ)
name_given lookup file own alias =
    if is_template alias
    then unless_elsewhere lookup file (alias ++ instance_of own)
    else if bytes_eq (instance_of alias) (instance_of own)
    then Some alias
    else None

-- the name that an alias gives to the unit with the stem `own`, whose file is found under the stem `file`
abbrev pub name_by : (List ℕ → Option Destination) → List ℕ → List ℕ → Alias → Option (List ℕ)
name_by lookup file own alias =
    if bytes_eq alias.unit file then name_given lookup file own alias.stem else None

-- the names besides the unit's own: those that aliases give, and the one that was asked for
abbrev pub more_names : (List ℕ → Option Destination) → List Alias → List ℕ → List ℕ → List ℕ → List (List ℕ)
more_names lookup aliases file own asked = sorted_once (filter_map (name_by lookup file own) aliases ++ asked ∷ [])

-- the stems of all names of a unit: its own, and then the others, sorted by their bytes, each once
abbrev pub names_with : (List ℕ → Option Destination) → List Alias → List ℕ → List ℕ → List ℕ → List (List ℕ)
names_with lookup aliases file own asked =
    own ∷ filter (λ name. not (bytes_eq name own)) (more_names lookup aliases file own asked)

-- the stems of all names of the unit that was asked for by the stem `asked`, if its own stem is `own`, and its file was
-- found under the stem `file`
abbrev pub names_on : Machine → List (List ℕ) → List ℕ → List ℕ → List ℕ → List (List ℕ)
names_on machine search_path file own asked = names_with (destination_in machine search_path) (aliases_in machine search_path) file own asked

abbrev pub names_of_unit : Machine → List (List ℕ) → List ℕ → Unit → List (List ℕ)
names_of_unit machine search_path asked Unfound = []
names_of_unit machine search_path asked TemplateOnly = []
names_of_unit machine search_path asked TooManyAliases = []
names_of_unit machine search_path asked (FoundAt file own_file own) = names_on machine search_path own_file own asked

-- the stems of all names of the unit that is found for a stem; none if no unit is found
abbrev pub names_for : Machine → List (List ℕ) → List ℕ → List (List ℕ)
names_for machine search_path asked = names_of_unit machine search_path asked (unit_on machine search_path asked)

-- ## What a call returned

abbrev pub shown_alias : aliases.Alias → Alias
shown_alias alias = record { stem = string_bytes alias.stem; unit = string_bytes alias.unit }
