-- The unit that a timer starts, and whether a search path has no file for it (systemd.timer(5), Unit=; systemd.unit(5),
-- Description and Unit File Load Path).
use Rattle.std.specs.Prelude.{ℕ, ◌+◌, ◌==◌, nat_eq, Bool, false, not, ◌||◌, if◌then◌else◌, List, [], ◌∷◌, ◌++◌, Option, Some, None, codes, drop, find, length, map}
use Rattle.std.specs.List.{ends_with, list_any}
use Rattle.std.specs.Str.{bytes_eq}
use Rattle.cal_machine.specs.rules.Machine.{Machine}
use Rattle.cal_timer.specs.rules.Assignments.{Assignment}
use Rattle.cal_unit_index.specs.declared.unit_name.UnitKind.{UnitKind}
use Rattle.cal_unit_index.specs.declared.unit_name.UnitKind.TheVariants.{Plain, Template, Instance}
use Rattle.cal_unit_index.specs.rules.Destinations.{is_among, last_part}
use Rattle.cal_unit_index.specs.rules.Files.{UnitText}
use Rattle.cal_unit_index.specs.rules.Index.{Searched, searched}
use Rattle.cal_unit_index.specs.rules.UnitName.{stem_base, unit_kind_of, without_suffix}
use Rattle.cal_unit_index.specs.rules.Settings.{has_percent}
use Rattle.cal_load.specs.rules.Loaded.{timer_assignments}
use Rattle.cal_load.specs.rules.Notes.{kept_in, names_unit, service_of}
use Rattle.cal_load.specs.rules.Specifiers.{instance_in, prefix_in}

-- ## Names

-- the suffixes of the units that can be missing: these units need a file, and can be instances of a template
abbrev pub file_suffixes : List (List ℕ)
file_suffixes = codes ".service" ∷ codes ".socket" ∷ codes ".target" ∷ codes ".path" ∷ codes ".timer" ∷ []

-- the part of a unit's name after its first `@`, which is empty if it has no `@`
abbrev pub after_at : List ℕ → List ℕ
after_at unit = drop (length (stem_base unit) + 1) unit

-- whether this is the name of a template: nothing is between its first `@` and its suffix
unfoldable pub is_template_name : List ℕ → Bool
is_template_name unit = list_any (bytes_eq (after_at unit)) file_suffixes

abbrev pub argument_by : UnitKind → List ℕ → List ℕ
argument_by Plain own = prefix_in own
argument_by Template own = instance_in own
argument_by Instance own = instance_in own

-- the instance of a template that the timer `own` starts if its `Unit=` names the template: the timer's own instance,
-- or its name without the suffix if it isn't an instance
abbrev pub argument_of : List ℕ → List ℕ
argument_of own = argument_by (unit_kind_of (without_suffix own)) own

-- the unit that the timer `own` starts if its `Unit=` is `unit`
abbrev pub completed : List ℕ → List ℕ → List ℕ
completed own unit =
    if is_template_name unit then stem_base unit ++ codes "@" ++ argument_of own ++ after_at unit else unit

-- ## The started unit

-- the unit that the timer `own` starts because of its `Unit=`, or None if that depends on the running system
abbrev pub unit_named : List ℕ → List ℕ → Option (List ℕ)
unit_named own unit = if has_percent unit then None else Some (completed own unit)

-- the unit that the timer `own` starts; the assignment is the `Unit=` that counts, if there is one
abbrev pub started_by : List ℕ → Option Assignment → Option (List ℕ)
started_by own None = Some (service_of own)
started_by own (Some a) = unit_named own a.value

-- the unit that the timer `name` with these files starts, or None if that depends on the running system
abbrev pub started_unit_of : List ℕ → List UnitText → Option (List ℕ)
started_unit_of name files =
    started_by (last_part name) (find (names_unit (last_part name)) (kept_in (timer_assignments name files)))

-- ## Units without a file

-- whether one of these folders has something with this name
abbrev pub has_entry : List Searched → List ℕ → Bool
has_entry folders name = list_any (λ folder. is_among folder.names name) folders

-- whether one of these folders has the template of a unit with this suffix, if the unit is an instance
abbrev pub has_template : List Searched → List ℕ → List ℕ → Bool
has_template folders unit suffix =
    if length (stem_base unit) == length unit then false else has_entry folders (stem_base unit ++ codes "@" ++ suffix)

-- whether these folders have neither a unit with this suffix nor its template; None stands for the suffix of a unit
-- that needs no file, so such a unit isn't missing
abbrev pub is_missing_with : List Searched → List ℕ → Option (List ℕ) → Bool
is_missing_with folders unit None = false
is_missing_with folders unit (Some suffix) = not (has_entry folders unit || has_template folders unit suffix)

abbrev pub is_missing_in : List Searched → List ℕ → Bool
is_missing_in folders unit = is_missing_with folders unit (find (ends_with nat_eq unit) file_suffixes)

-- whether the folders of the search path have no file of this unit
abbrev pub is_missing_on : Machine → List (List ℕ) → List ℕ → Bool
is_missing_on machine search_path unit = is_missing_in (map (searched machine) search_path) unit
