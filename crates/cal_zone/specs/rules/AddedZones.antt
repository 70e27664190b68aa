-- How contracts see the `BTreeMap` in a zone table, when a zone can be added to the table, and with which errors adding
-- it fails.
use Rattle.std.specs.Prelude.{◌≡◌, ℕ, Bool, true, false, List, is_some, String, map}
use Rattle.cal_zone.specs.rules.ZoneTable.{ZoneMap, zone_named}
use Rattle.cal_civil.specs.rules.ZoneName.{is_zone_name}
use Rattle.cal_zone.specs.declared.zone_fault.ZoneFault.{ZoneFault}
use Rattle.cal_zone.specs.declared.zone_fault.ZoneFault.TheVariants.{BadName, BadRule, BadFile, TooLarge, NoMemory, NameTaken}
use Rattle.std.specs.BTreeMap.{BTreeMap}
use Rattle.std.specs.FinMap.{from_entries}
use Rattle.std.specs.String.{string_bytes}
use Rattle.std.specs.declared.alloc.Global.{Global}
use Rattle.jiff.specs.Types.{TimeZone}

-- whether the table has a zone named `name`
abbrev pub is_taken : ZoneMap → List ℕ → Bool
is_taken table name = is_some (zone_named table name)

-- `name` is a valid name for a zone, and is not taken
pub record IsAddable (table : ZoneMap) (name : List ℕ) : Type 0 where
  pub named : is_zone_name name ≡ true
  pub free : is_taken table name ≡ false

-- whether adding a zone under `name` may fail with this error: the form of the name is checked first, and then whether
-- the name is taken
abbrev pub IsAddFault : ZoneMap → List ℕ → ZoneFault → Type 0
IsAddFault table name BadName = is_zone_name name ≡ false
IsAddFault table name BadRule = ⊥
IsAddFault table name BadFile = ⊥
IsAddFault table name TooLarge = ⊥
IsAddFault table name NoMemory = IsAddable table name
IsAddFault table name NameTaken = (is_zone_name name ≡ true) × (is_taken table name ≡ true)

-- the finite map with the entries of the `BTreeMap`; its keys are the names, as lists of bytes
abbrev pub zone_map_in : BTreeMap (String Global) TimeZone → ZoneMap
zone_map_in zones = from_entries (map (λ entry. (string_bytes entry.0, entry.1)) zones.entries)
