-- Lemmas on the zones that a range names.
use Rattle.std.proofs.Common.{◌≡◌, ◌∙◌, ◌∷◌, ℕ, false, true, List, [], Result, Ok, Err, IfOk, map, string_bytes, subst, sym}
use Rattle.std.specs.Prelude.{◌||◌, IfErr, is_some, String}
use Rattle.std.specs.List.{list_any}
use Rattle.std.specs.Str.{bytes_eq}
use Rattle.std.specs.declared.alloc.Global.{Global}
use Rattle.std.proofs.lemmas.Bool.{false≢true}
use Rattle.cal_civil.specs.rules.ZoneName.{is_utc_name}
use Rattle.cal_machine.specs.rules.Machine.{Machine}
use Rattle.cal_zone.specs.rules.ZoneTable.{ZoneMap, zone_named}
use Rattle.cal_zone_files.specs.declared.fault.FileReason.{FileReason}
use Rattle.cal_zone_files.specs.declared.fault.ZonesFault.{ZonesFault}
use Rattle.cal_zone_files.proofs.ZoneLemmas.{empty_has_none}
use Rattle.cal_zone_files.specs.rules.ZoneFiles.{HasZonesOf, IsFirstError, IsReasonOn}
use Rattle.cal_answers.proofs.LocalClockLemmas.{has_single, unusable_name}
use Rattle.cal_answers.specs.rules.RangeZones.{IsTableOf}

-- all zones of a table are zones of the machine if the table was loaded from the machine, or has only UTC because
-- loading failed
pub zones_of_table : (machine : Machine) (Shows : Machine → Type 0) (loaded : Result ZoneMap ZonesFault) (table : ZoneMap) → IsTableOf loaded table
    → IfOk loaded (λ found. (machine : Machine) → Shows machine → HasZonesOf machine found) → Shows machine → HasZonesOf machine table
zones_of_table machine Shows (Ok found) table same zones shows = subst (HasZonesOf machine) (sym same) (zones machine shows)
zones_of_table machine Shows (Err fault) table (other, same) zones shows = subst (HasZonesOf machine) (sym same) (empty_has_none machine)

-- a table that was loaded for a single name lacks this name only if the zone's file can't be used
pub reason_of_lack : (machine : Machine) (Shows : Machine → Type 0) (loaded : Result ZoneMap ZonesFault) (table : ZoneMap) (name : List ℕ) (names : List (String Global))
    → map string_bytes names ≡ name ∷ [] → IsTableOf loaded table
    → IfOk loaded (λ found. (other : List ℕ) → is_some (zone_named found other) ≡ (is_utc_name other || list_any (bytes_eq other) (map string_bytes names)))
    → IfErr loaded (λ fault. (machine : Machine) → Shows machine → IsFirstError machine (map string_bytes names) fault)
    → Shows machine → is_some (zone_named table name) ≡ false → (reason : FileReason) × IsReasonOn machine name reason
reason_of_lack machine Shows (Ok found) table name names single same has first shows lacks =
    absurd (false≢true (sym lacks ∙ subst (λ table. is_some (zone_named table name) ≡ true) (sym same) (has_single found name names single (has name))))
reason_of_lack machine Shows (Err fault) table name names single (other, same) has first shows lacks =
    unusable_name machine name names fault single other (first machine shows)
