-- The conditions under which loading a zone file (RFC 8536) succeeds, what it then adds to the zone table, and why it
-- can fail. Zone files are given with `--zones`, an option that is this project's own. In these definitions, `old` and
-- `new` are the bytes that are left to read before and after loading, if they are known.
use Rattle.std.specs.Prelude.{◌≡◌, ℕ, Bool, true, false, List, Option, Result, Ok, Err}
use Rattle.std.specs.FinMap.{insert}
use Rattle.jiff.specs.Types.{TimeZone}
use Rattle.cal_bytes.specs.rules.Whole.{CameBeyond, CameWithin, GivesAll}
use Rattle.cal_zone.specs.rules.ZoneFile.{file_limit, IsFileFault, IsFileZone}
use Rattle.cal_zone.specs.rules.ZoneTable.{ZoneMap}
use Rattle.cal_civil.specs.rules.ZoneName.{is_zone_name}
use Rattle.cal_zone.specs.rules.AddedZones.{IsAddable, IsAddFault}
use Rattle.cal_zone.specs.declared.zone_fault.ZoneFault.{ZoneFault}
use Rattle.cal_zone.specs.declared.zone_fault.ZoneFault.TheVariants.{BadName, BadRule, BadFile, TooLarge, NoMemory, NameTaken}
use Rattle.cal_zone.specs.declared.zone_files.LoadFault.{LoadFault}
use Rattle.cal_zone.specs.declared.zone_files.LoadFault.TheVariants.{ReadFailed, Zone}

-- The file was loaded: the bytes read are a valid zone file, the name was free, and the table has gained this zone.
pub record IsLoaded (old new : Option (List ℕ)) (before after : ZoneMap) (name : List ℕ) : Type 0 where
  pub bytes : List ℕ
  pub given : GivesAll old new file_limit bytes
  pub zone : TimeZone
  pub is_zone : IsFileZone name bytes zone
  pub addable : IsAddable before name
  pub added : after ≡ insert before name zone

-- the bytes read are not a valid zone file
pub record HasBadFile (old new : Option (List ℕ)) (name : List ℕ) : Type 0 where
  pub bytes : List ℕ
  pub given : GivesAll old new file_limit bytes
  pub is_bad : IsFileFault name bytes BadFile

-- the bytes read are a valid zone file, but the name is taken
pub record HasTakenName (old new : Option (List ℕ)) (table : ZoneMap) (name : List ℕ) : Type 0 where
  pub bytes : List ℕ
  pub given : GivesAll old new file_limit bytes
  pub zone : TimeZone
  pub is_zone : IsFileZone name bytes zone
  pub is_taken : IsAddFault table name NameTaken

-- Whether loading can fail with this error. Loading first checks that the name is valid. Then it reads the file to its
-- end and checks the bytes. Last, it checks that the name is free.
abbrev pub IsZoneLoadFault : Option (List ℕ) → Option (List ℕ) → ZoneMap → List ℕ → ZoneFault → Type 0
IsZoneLoadFault old new table name BadName = (is_zone_name name ≡ false) × (new ≡ old)
IsZoneLoadFault old new table name BadRule = ⊥
IsZoneLoadFault old new table name BadFile = HasBadFile old new name
IsZoneLoadFault old new table name TooLarge = (is_zone_name name ≡ true) × CameBeyond old new file_limit
IsZoneLoadFault old new table name NoMemory = (is_zone_name name ≡ true) × CameWithin old new file_limit
IsZoneLoadFault old new table name NameTaken = HasTakenName old new table name

abbrev pub IsLoadFault : Option (List ℕ) → Option (List ℕ) → ZoneMap → List ℕ → LoadFault → Type 0
IsLoadFault old new table name ReadFailed = (is_zone_name name ≡ true) × CameWithin old new file_limit
IsLoadFault old new table name (Zone fault) = IsZoneLoadFault old new table name fault

-- whether reading the file failed
abbrev pub is_reader_fault : LoadFault → Bool
is_reader_fault ReadFailed = true
is_reader_fault (Zone fault) = false

abbrev pub is_load_read_failed : {T : Type 0} → Result T LoadFault → Bool
is_load_read_failed (Ok x) = false
is_load_read_failed (Err fault) = is_reader_fault fault
