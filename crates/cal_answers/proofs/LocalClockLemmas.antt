-- Lemmas on the local zone of a machine.
use Rattle.std.proofs.Common.{◌≡◌, ℕ, List, [], ◌∷◌, map, string_bytes, Bool, true, false, Option, Some, None, Result, Ok, Err, IfOk, refl, subst, sym, arith, ◌∙◌}
use Rattle.std.specs.Prelude.{◌≢◌, ◌||◌, IfErr, IfSome, is_some, String}
use Rattle.std.specs.List.{Contains, list_any}
use Rattle.std.specs.Str.{bytes_eq}
use Rattle.std.specs.declared.alloc.Global.{Global}
use Rattle.std.proofs.lemmas.Bool.{false≢true}
use Rattle.std.proofs.lemmas.Grind.{get_or_head}
use Rattle.std.proofs.lemmas.Slice.Eq.{bytes_eq-Decides}
use Rattle.jiff.specs.Types.{TimeZone, UTC}
use Rattle.cal_civil.specs.rules.ZoneName.{is_utc_name}
use Rattle.cal_machine.specs.rules.Machine.{Machine}
use Rattle.cal_zone_files.specs.declared.fault.ZonesFault.{ZonesFault}
use Rattle.cal_zone_files.specs.declared.fault.ZonesFault.TheVariants as faults
use Rattle.cal_zone.specs.rules.ZoneArgument.{by_rule, of_name}
use Rattle.cal_zone_files.specs.rules.LocalZone.{IsResultOf, LocalZone}
use Rattle.cal_zone_files.specs.rules.ZoneFiles.{HasZonesOf, IsFirstError, IsReasonOn, IsZoneOn}
use Rattle.cal_zone.specs.rules.Zone.{utc, zone_of}
use Rattle.cal_zone.specs.rules.ZoneTable.{ZoneMap, zone_named}
use Rattle.cal_load.specs.rules.TextFaults.{IsZonesError}
use Rattle.cal_load.proofs.TextFaultLemmas.{first_named}
use Rattle.cal_answers.specs.declared.local_clock.LocalClock.{LocalClock}
use Rattle.cal_answers.specs.rules.LocalClock.{IsLocalZone, IsUnusable, IsZoneNamed, clock_zone}

pub utc_zone : zone_of utc ≡ UTC
unfolding zone_of
utc_zone = refl

-- if the local zone is given by a rule, then a zone that was found for the rule is the local zone
pub ruled_as : (found : Result LocalClock ZonesFault) (rule : List ℕ) (Shows : Machine → Type 0) (local : Machine → LocalZone)
    → ((machine : Machine) → Shows machine → Ok (Some (by_rule rule)) ≡ local machine)
    → IfOk found (λ clock. (machine : Machine) → IsLocalZone machine (Ok (Some (by_rule rule))) (clock_zone clock))
    → IfOk found (λ clock. (machine : Machine) → Shows machine → IsLocalZone machine (local machine) (clock_zone clock))
ruled_as (Ok clock) rule Shows local same is =
    λ machine shows. subst (λ local. IsLocalZone machine local (clock_zone clock)) (same machine shows) (is machine)
ruled_as (Err fault) rule Shows local same is = tt

-- if the local zone is given by a rule that can't be used, the local zone can't be used
pub ruled_unusable : (found : Result LocalClock ZonesFault) (rule : List ℕ) (Shows : Machine → Type 0) (local : Machine → LocalZone)
    → ((machine : Machine) → Shows machine → Ok (Some (by_rule rule)) ≡ local machine)
    → IfErr found (λ fault. fault ≢ faults.NoMemory → (machine : Machine) → IsUnusable machine (Ok (Some (by_rule rule))))
    → IfErr found (λ fault. fault ≢ faults.NoMemory → (machine : Machine) → Shows machine → IsUnusable machine (local machine))
ruled_unusable (Ok clock) rule Shows local same is = tt
ruled_unusable (Err fault) rule Shows local same is =
    λ other machine shows. subst (IsUnusable machine) (same machine shows) (is other machine)

-- a table that was loaded for a single name has a zone with this name
pub has_single : (table : ZoneMap) (name : List ℕ) (names : List (String Global)) → map string_bytes names ≡ name ∷ []
    → is_some (zone_named table name) ≡ (is_utc_name name || list_any (bytes_eq name) (map string_bytes names))
    → is_some (zone_named table name) ≡ true
has_single table name names single has =
    has ∙ rw (single, (bytes_eq-Decides name name).1 refl) (grind arith)

some_on : (machine : Machine) (name : List ℕ) → is_utc_name name ≡ false → (zone : Option TimeZone) → is_some zone ≡ true
    → IfSome zone (IsZoneOn machine name) → IsLocalZone machine (Ok (Some (of_name name))) zone
some_on machine name other None has on = absurd (false≢true has)
some_on machine name other (Some zone) has on = rw other on

utc_on : (machine : Machine) (name : List ℕ) → is_utc_name name ≡ true → IsLocalZone machine (Ok (Some (of_name name))) (Some UTC)
utc_on machine name is = subst (λ t. IsZoneNamed machine name t UTC) (sym is) refl

named_if : (machine : Machine) (table : ZoneMap) (name : List ℕ) → is_some (zone_named table name) ≡ true → HasZonesOf machine table
    → (t : Bool) → is_utc_name name ≡ t → IsLocalZone machine (Ok (Some (of_name name))) (zone_named table name)
unfolding zone_named
named_if machine table name has zones true is = rw is (utc_on machine name is)
named_if machine table name has zones false is = some_on machine name is (zone_named table name) has (zones name is)

-- if a table of the machine's zones has a zone with the name that the local zone has, this zone is the local zone
pub named_zone : (machine : Machine) (table : ZoneMap) (name : List ℕ) → is_some (zone_named table name) ≡ true → HasZonesOf machine table
    → IsLocalZone machine (Ok (Some (of_name name))) (zone_named table name)
named_zone machine table name has zones = named_if machine table name has zones (is_utc_name name) refl

-- ## Local zones that can't be used

-- a list of one name contains no other name
only_name : (name other : List ℕ) → Contains (name ∷ []) other → other ≡ name
only_name name other (k, below, at) = sym at ∙ get_or_head name [] k other (omega (arith, below))

unusable_by : (machine : Machine) (name : List ℕ) (fault : ZonesFault) → fault ≢ faults.NoMemory → IsZonesError machine (name ∷ []) fault
    → IsUnusable machine (Ok (Some (of_name name)))
unusable_by machine name (faults.Unclear origin) other is = absurd is
unusable_by machine name (faults.Unread origin) other is = absurd is
unusable_by machine name (faults.OfZone zone reason) other (has, is) =
    (reason, subst (λ name. IsReasonOn machine name reason) (only_name name (string_bytes zone) has) is)
unusable_by machine name faults.NoMemory other is = absurd (other refl)

-- if loading a table for the name of a zone fails, and not because memory ran out, the zone can't be used
pub unusable_name : (machine : Machine) (name : List ℕ) (names : List (String Global)) (fault : ZonesFault) → map string_bytes names ≡ name ∷ []
    → fault ≢ faults.NoMemory → IsFirstError machine (map string_bytes names) fault → IsUnusable machine (Ok (Some (of_name name)))
unusable_name machine name names fault single other is =
    unusable_by machine name fault other (subst (λ names. IsZonesError machine names fault) single (first_named machine (map string_bytes names) fault is))

-- if finding the local zone fails, and not because memory ran out, the local zone can't be used
pub unusable_unfound : (machine : Machine) (local : LocalZone) (fault : ZonesFault) → fault ≢ faults.NoMemory → IsResultOf local (Err fault)
    → IsUnusable machine local
unusable_unfound machine local (faults.Unclear origin) other is = subst (IsUnusable machine) (sym is) tt
unusable_unfound machine local (faults.Unread origin) other is = subst (IsUnusable machine) (sym is) tt
unusable_unfound machine local (faults.OfZone name reason) other is = absurd is
unusable_unfound machine local faults.NoMemory other is = absurd (other refl)
