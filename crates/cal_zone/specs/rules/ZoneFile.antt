-- Which zone files (RFC 8536) are accepted, which zone each of them stands for, and with which errors the others are
-- rejected.
use Rattle.std.specs.Prelude.{◌≡◌, ◌⊎◌, ◌<◌, ◌≤◌, ℕ, true, false, List, length, Ok, IsOk, IsErr}
use Rattle.jiff.specs.Types.{TimeZone, UTC, Unknown, Fixed, Posix, Tzif}
use Rattle.jiff_tz.specs.Tzif.{tzif_view, HasBadRule, RuleAgrees}
use Rattle.jiff_tz.specs.TzifReader.{read_tzif}
use Rattle.cal_civil.specs.rules.ZoneName.{is_zone_name}
use Rattle.cal_zone.specs.declared.zone_fault.ZoneFault.{ZoneFault}
use Rattle.cal_zone.specs.declared.zone_fault.ZoneFault.TheVariants.{BadName, BadRule, BadFile, TooLarge, NoMemory, NameTaken}

-- the maximum size of a zone file, in bytes
abbrev pub file_limit : ℕ
file_limit = 1_048_576

-- the zone is what `jiff` parses from `bytes`, the content of a zone file, and so it is always a table
abbrev pub IsReadFrom : List ℕ → TimeZone → Type 0
IsReadFrom bytes UTC = ⊥
IsReadFrom bytes Unknown = ⊥
IsReadFrom bytes (Fixed offset) = ⊥
IsReadFrom bytes (Posix rule) = ⊥
IsReadFrom bytes (Tzif table) = (read_tzif bytes ≡ Ok (tzif_view table.now)) × RuleAgrees table.now

-- the file passes the checks that come before parsing: the name of the zone is valid, and the file isn't too large
pub record IsReadable (name bytes : List ℕ) : Type 0 where
  pub named : is_zone_name name ≡ true
  pub fits : length bytes ≤ file_limit

-- a file with the content `bytes` is accepted for the name `name`, and parsed as `zone`
abbrev pub IsFileZone : List ℕ → List ℕ → TimeZone → Type 0
IsFileZone name bytes zone = IsReadable name bytes × IsReadFrom bytes zone

-- Whether a zone file can be rejected with this error. The name is checked first, then the size, then the bytes: they
-- are invalid if they are not a zone file, or if the POSIX rule in them contradicts their table. Memory can run out
-- only if the bytes are a zone file.
abbrev pub IsFileFault : List ℕ → List ℕ → ZoneFault → Type 0
IsFileFault name bytes BadName = is_zone_name name ≡ false
IsFileFault name bytes BadRule = ⊥
IsFileFault name bytes BadFile = IsReadable name bytes × (IsErr (read_tzif bytes) ⊎ HasBadRule (read_tzif bytes))
IsFileFault name bytes TooLarge = (is_zone_name name ≡ true) × (file_limit < length bytes)
IsFileFault name bytes NoMemory = IsReadable name bytes × IsOk (read_tzif bytes)
IsFileFault name bytes NameTaken = ⊥
