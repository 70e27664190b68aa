-- The zone files of a machine, in /usr/share/zoneinfo (tzset(3), localtime(5)).
use Rattle.std.specs.Prelude.{◌≡◌, ◌≢◌, ⊤, ℕ, true, false, List, [], ◌∷◌, ◌++◌, IfSome, MatchResult, Option, None, Some, Result, Ok, Err, codes, drop, string_bytes, take, String, Vec}
use Rattle.std.specs.List.{list_any}
use Rattle.std.specs.Str.{bytes_eq}
use Rattle.std.specs.declared.alloc.Global.{Global}
use Rattle.std.specs.FinMap.{insert}
use Rattle.jiff.specs.Types.{TimeZone}
use Rattle.cal_civil.specs.rules.ZoneName.{is_utc_name}
use Rattle.cal_machine.specs.declared.tree.Unreadable.{Unreadable}
use Rattle.cal_machine.specs.rules.Machine.{Machine}
use Rattle.cal_machine.specs.rules.Places.{Content, content_at}
use Rattle.cal_machine.specs.rules.Places.Content.{Nothing, InFolder, Blank, Text}
use Rattle.cal_zone.specs.rules.ZoneFile.{IsFileFault, IsFileZone}
use Rattle.cal_zone.specs.rules.ZoneTable.{ZoneMap, zone_named}
use Rattle.cal_zone.specs.declared.zone_fault.ZoneFault.{ZoneFault}
use Rattle.cal_zone.specs.declared.zone_fault.ZoneFault.TheVariants as zones
use Rattle.cal_zone.specs.declared.zone_files.LoadFault.TheVariants as loads
use Rattle.cal_zone_files.specs.rules.LocalZone.{localtime, zone_folder}
use Rattle.cal_zone_files.specs.declared.fault.FileReason.{FileReason}
use Rattle.cal_zone_files.specs.declared.fault.FileReason.TheVariants as reasons
use Rattle.cal_zone_files.specs.declared.fault.ZonesFault.{ZonesFault}
use Rattle.cal_zone_files.specs.declared.fault.ZonesFault.TheVariants as faults

abbrev pub zone_path : List ℕ → List ℕ
zone_path name = zone_folder ++ name

-- The bytes of a zone file, or why it can't be read. An empty file and a device have no bytes.
abbrev pub bytes_in : Result Content Unreadable → Result (List ℕ) FileReason
bytes_in (Ok Nothing) = Err reasons.NotFound
bytes_in (Ok InFolder) = Err (reasons.Load loads.ReadFailed)
bytes_in (Ok Blank) = Ok []
bytes_in (Ok (Text bytes)) = Ok bytes
bytes_in (Err why) = Err (reasons.Load loads.ReadFailed)

-- the bytes of the machine's zone file for this name
abbrev pub zone_file : Machine → List ℕ → Result (List ℕ) FileReason
zone_file machine name = bytes_in (content_at machine (zone_path name))

abbrev pub shown_file : Result (Vec ℕ Global) FileReason → Result (List ℕ) FileReason
shown_file (Ok bytes) = Ok bytes.items
shown_file (Err reason) = Err reason

-- whether the zone is the one in the machine's zone file for this name
abbrev pub IsZoneOn : Machine → List ℕ → TimeZone → Type 0
IsZoneOn machine name zone = MatchResult (zone_file machine name) (λ bytes. IsFileZone name bytes zone) (λ reason. ⊥)

-- whether the machine's zone file for this name is a valid zone file
abbrev pub HasZone : Machine → List ℕ → Type 0
HasZone machine name = (zone : TimeZone) × IsZoneOn machine name zone

-- whether each zone of the table, except UTC, is the one in the machine's zone file for its name
abbrev pub HasZonesOf : Machine → ZoneMap → Type 0
HasZonesOf machine table =
    (name : List ℕ) → is_utc_name name ≡ false → IfSome (zone_named table name) (IsZoneOn machine name)

-- whether the only change from `old` to `new` is that a zone for which `IsZone` holds is inserted under `name`, which
-- isn't UTC
pub record IsZoneAdded (old new : ZoneMap) (name : List ℕ) (IsZone : TimeZone → Type 0) : Type 0 where
  pub zone : TimeZone
  pub is_zone : IsZone zone
  pub other : is_utc_name name ≡ false
  pub added : new ≡ insert old name zone

-- whether a zone file with these bytes is rejected for this reason; running out of memory isn't a reason
abbrev pub IsRejected : List ℕ → List ℕ → FileReason → Type 0
IsRejected name bytes reasons.NotFound = ⊥
IsRejected name bytes (reasons.Load loads.ReadFailed) = ⊥
IsRejected name bytes (reasons.Load (loads.Zone fault)) = (fault ≢ zones.NoMemory) × IsFileFault name bytes fault

-- whether the machine's zone file for this name can't be used for this reason: it can't be read, or it is rejected
abbrev pub IsReasonOn : Machine → List ℕ → FileReason → Type 0
IsReasonOn machine name reason = MatchResult (zone_file machine name) (λ bytes. IsRejected name bytes reason) (λ why. reason ≡ why)

-- whether these bytes are a zone file with this zone or, if the zone is None, aren't a valid zone file
abbrev pub IsZoneIn : List ℕ → Option TimeZone → Type 0
IsZoneIn bytes (Some zone) = IsFileZone (codes "localtime") bytes zone
IsZoneIn bytes None = (fault : ZoneFault) × (fault ≢ zones.NoMemory) × IsFileFault (codes "localtime") bytes fault

-- Whether this is the machine's own zone: the one in the zone file to which /etc/localtime leads (localtime(5)). None
-- if it leads to no file that can be read, or to one that isn't a zone file.
abbrev pub IsMachineZone : Machine → Option TimeZone → Type 0
IsMachineZone machine zone =
    MatchResult (bytes_in (content_at machine localtime)) (λ bytes. IsZoneIn bytes zone) (λ reason. zone ≡ None)

-- whether loading the zone of this name can fail with this error; memory can always run out
abbrev pub IsLoadError : Machine → List ℕ → ZonesFault → Type 0
IsLoadError machine name (faults.Unclear origin) = ⊥
IsLoadError machine name (faults.Unread origin) = ⊥
IsLoadError machine name (faults.OfZone zone reason) = (string_bytes zone ≡ name) × IsReasonOn machine name reason
IsLoadError machine name faults.NoMemory = ⊤

-- whether the error is about the name at this index, and the files for all names before it, except UTC, are valid zone
-- files
pub record IsFirstError (machine : Machine) (names : List (List ℕ)) (fault : ZonesFault) : Type 0 where
  pub index : ℕ
  pub name : List ℕ
  pub after : List (List ℕ)
  pub is_at : drop index names ≡ name ∷ after
  pub is_error : IsLoadError machine name fault
  pub earlier : (other : List ℕ) → list_any (bytes_eq other) (take index names) ≡ true → is_utc_name other ≡ false → HasZone machine other

-- the error for the zone with this name, whose file was rejected with `fault`
abbrev pub rejection : String Global → ZoneFault → ZonesFault
rejection name zones.NoMemory = faults.NoMemory
rejection name zones.BadName = faults.OfZone name (reasons.Load (loads.Zone zones.BadName))
rejection name zones.BadRule = faults.OfZone name (reasons.Load (loads.Zone zones.BadRule))
rejection name zones.BadFile = faults.OfZone name (reasons.Load (loads.Zone zones.BadFile))
rejection name zones.TooLarge = faults.OfZone name (reasons.Load (loads.Zone zones.TooLarge))
rejection name zones.NameTaken = faults.OfZone name (reasons.Load (loads.Zone zones.NameTaken))
