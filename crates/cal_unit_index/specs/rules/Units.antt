-- What is found under the name of a unit: systemd.unit(5), Description and Unit File Load Path. A stem is a unit's name
-- without its suffix `.timer`. `lookup` returns the destination of a stem, or None if the stem has none.
use Rattle.std.specs.Prelude.{ℕ, zero, suc, List, Option, None, Some, if◌then◌else◌, ◌++◌, is_some, string_bytes}
use Rattle.std.specs.Option.{unwrap_or}
use Rattle.cal_machine.specs.rules.Machine.{Machine}
use Rattle.cal_unit_index.specs.declared.follow.End as ends
use Rattle.cal_unit_index.specs.declared.unit.Unit as units
use Rattle.cal_unit_index.specs.rules.Destinations.{Destination, destination_in}
use Rattle.cal_unit_index.specs.rules.Destinations.Destination.{FileAt, AliasOf}
use Rattle.cal_unit_index.specs.rules.UnitName.{instance_of, is_template, template_of}

-- ## Following aliases

-- where following aliases from a stem ends: nowhere, at the file of a stem, or not at all
pub data End : Type 0 where
  Nowhere : End
  AtFile : (path : List ℕ) → (stem : List ℕ) → End
  Endless : End

-- where following aliases ends, starting at a stem with this destination; `more` goes on from the stem to which an
-- alias leads
abbrev pub from_destination : (List ℕ → End) → List ℕ → Option Destination → End
from_destination more stem None = Nowhere
from_destination more stem (Some (FileAt path)) = AtFile path stem
from_destination more stem (Some (AliasOf other)) = more other

-- The stem by which the target of an alias is looked up: its own, or its template's if it is the stem of an instance
-- and has no destination.
abbrev pub looked_up : (List ℕ → Option Destination) → List ℕ → List ℕ
looked_up lookup stem = if is_some (lookup stem) then stem else unwrap_or (template_of stem) stem

-- where following aliases ends, starting at a stem to which an alias leads, if at most `count` stems are looked up
abbrev pub follow : (List ℕ → Option Destination) → ℕ → List ℕ → End
follow lookup zero stem = Endless
follow lookup (suc count) stem = from_destination (follow lookup count) (looked_up lookup stem) (lookup (looked_up lookup stem))

-- the maximum number of aliases that are followed; together with the first stem, systemd 252 looks up 8
abbrev pub max_aliases : ℕ
max_aliases = 7

abbrev pub following : (List ℕ → Option Destination) → List ℕ → End
following lookup stem = from_destination (follow lookup max_aliases) stem (lookup stem)

-- ## Units

-- What is found for a stem: nothing, a template, more aliases than are followed, or a unit. A unit has the file at
-- `path`. `file` is the stem under which this file was found, which can be a template's, and `own` is the unit's own
-- stem.
pub data Unit : Type 0 where
  Unfound : Unit
  TemplateOnly : Unit
  TooManyAliases : Unit
  FoundAt : (path : List ℕ) → (file : List ℕ) → (own : List ℕ) → Unit

-- the unit's own stem, if the unit was asked for by `stem`, and its file was found under the stem `file`
abbrev pub own_stem : List ℕ → List ℕ → List ℕ
own_stem file stem = if is_template file then file ++ instance_of stem else file

abbrev pub unit_from : List ℕ → End → Unit
unit_from stem Nowhere = Unfound
unit_from stem (AtFile path file) = FoundAt path file (own_stem file stem)
unit_from stem Endless = TooManyAliases

abbrev pub or_template : (List ℕ → End) → Option (List ℕ) → End → End
or_template follow_from (Some template) Nowhere = follow_from template
or_template follow_from None Nowhere = Nowhere
or_template follow_from template (AtFile path file) = AtFile path file
or_template follow_from template Endless = Endless

-- where following aliases from a stem ends; if that is nowhere, and the stem is an instance, where following aliases
-- from its template ends
abbrev pub following_unit : (List ℕ → Option Destination) → List ℕ → End
following_unit lookup stem = or_template (following lookup) (template_of stem) (following lookup stem)

abbrev pub unit_by : (List ℕ → Option Destination) → List ℕ → Unit
unit_by lookup stem = if is_template stem then TemplateOnly else unit_from stem (following_unit lookup stem)

-- what is found for a stem on a machine with this search path
abbrev pub unit_on : Machine → List (List ℕ) → List ℕ → Unit
unit_on machine search_path stem = unit_by (destination_in machine search_path) stem

-- ## What a call returned

abbrev pub shown_end : ends.End → End
shown_end ends.TheVariants.Nowhere = Nowhere
shown_end (ends.TheVariants.AtFile path stem) = AtFile path.now stem.now
shown_end ends.TheVariants.Endless = Endless

abbrev pub shown_unit : units.Unit → Unit
shown_unit units.TheVariants.NotFound = Unfound
shown_unit units.TheVariants.Template = TemplateOnly
shown_unit units.TheVariants.Endless = TooManyAliases
shown_unit (units.TheVariants.Found file) = FoundAt (string_bytes file.path) (string_bytes file.file) (string_bytes file.stem)
