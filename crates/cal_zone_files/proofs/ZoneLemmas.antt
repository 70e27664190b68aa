-- Lemmas on loading the zones of a machine into a table.
use Rattle.std.proofs.Common.{◌≡◌, ℕ, List, ◌∷◌, map, take, drop, string_bytes, Bool, true, false, Option, Some, None, Result, Ok, Err, refl, subst, sym, ap, ◌∙◌, arith}
use Rattle.std.specs.Prelude.{◌≢◌, ◌||◌, IfSome, is_some, String}
use Rattle.std.specs.FinMap.{empty, get-empty, insert}
use Rattle.std.specs.Str.{bytes_eq}
use Rattle.std.proofs.lemmas.Bool.{both_ways, false≢true}
use Rattle.std.proofs.lemmas.List.{drop-map}
use Rattle.std.specs.List.{list_any, take-map}
use Rattle.std.specs.declared.alloc.Global.{Global}
use Rattle.std.specs.Cmp.Lexicographic.{slice_cmp}
use Rattle.std.specs.Ordering.{nat_cmp}
use Rattle.std.proofs.lemmas.Slice.Eq.{bytes_eq-Decides}
use Rattle.jiff.specs.Types.{TimeZone}
use Rattle.cal_civil.specs.rules.ZoneName.{is_utc_name}
use Rattle.cal_machine.specs.declared.tree.TreeFault as trees
use Rattle.cal_machine.specs.declared.tree.Unreadable.{Unreadable}
use Rattle.cal_machine.specs.rules.Machine.{Machine, Tells}
use Rattle.cal_machine.specs.rules.Places.{content_at}
use Rattle.cal_zone.specs.rules.ZoneFile.{IsFileFault, IsFileZone}
use Rattle.cal_zone.specs.declared.zone_fault.ZoneFault.{ZoneFault}
use Rattle.cal_zone.specs.declared.zone_fault.ZoneFault.TheVariants as zones
use Rattle.cal_zone.specs.declared.zone_files.LoadFault.TheVariants as loads
use Rattle.cal_zone_files.specs.declared.fault.FileReason.TheVariants as reasons
use Rattle.cal_zone.specs.rules.AddedZones.{is_taken}
use Rattle.cal_zone.specs.rules.ZoneTable.{ZoneMap, zone_named}
use Rattle.cal_zone.proofs.ZoneMapLemmas.{zone_named-here, zone_named-elsewhere}
use Rattle.cal_zone_files.specs.rules.ZoneFiles.{HasZone, HasZonesOf, IsFirstError, IsLoadError, IsMachineZone, IsReasonOn, IsZoneAdded, IsZoneIn, IsZoneOn, bytes_in, rejection, zone_file}
use Rattle.cal_zone_files.specs.rules.LocalZone.{IsResultOf, LocalZone, localtime, unread_fault}
use Rattle.cal_zone_files.specs.declared.fault.FileReason.{FileReason}
use Rattle.cal_zone_files.specs.declared.fault.Origin.{Origin}
use Rattle.cal_zone_files.specs.declared.fault.ZonesFault.{ZonesFault}
use Rattle.cal_zone_files.specs.declared.fault.ZonesFault.TheVariants as faults

-- every table has the name UTC, so a name that a table doesn't have isn't UTC
pub free_is_other : (table : ZoneMap) (name : List ℕ) → is_taken table name ≡ false → is_utc_name name ≡ false
unfolding zone_named
free_is_other table name free = grind (arith, free)

-- the empty table has only UTC
pub empty_has : (name : List ℕ) → is_some (zone_named empty name) ≡ is_utc_name name
unfolding zone_named
empty_has name = grind (arith, get-empty {X = TimeZone} (slice_cmp nat_cmp) name)

-- all zones of the empty table are zones of the machine
pub empty_has_none : (machine : Machine) → HasZonesOf machine empty
unfolding zone_named
empty_has_none machine name other = rw (other, get-empty {X = TimeZone} (slice_cmp nat_cmp) name) tt

-- if the zone that was parsed from `bytes` was inserted into a table under a free name, and nothing else was changed,
-- then `IsZoneAdded` is true of the two tables
pub zone_added : (old new : ZoneMap) (text name bytes : List ℕ) (zone : TimeZone) → text ≡ name → is_taken old name ≡ false → new ≡ insert old text zone
    → IsFileZone text bytes zone → IsZoneAdded old new name (IsFileZone name bytes)
zone_added old new text name bytes zone same free inserted parsed =
    record {
      zone = zone;
      is_zone = subst (λ name. IsFileZone name bytes zone) same parsed;
      other = free_is_other old name free;
      added = inserted ∙ ap (λ name. insert old name zone) same;
    }

-- if `zone` was parsed from `bytes`, the content of the machine's zone file for `name`, then it is the zone in that
-- file (`IsZoneOn`)
pub parsed_on : (machine : Machine) (name bytes : List ℕ) (zone : TimeZone) → zone_file machine name ≡ Ok bytes
    → IsFileZone name bytes zone → IsZoneOn machine name zone
parsed_on machine name bytes zone read parsed = rw read parsed

-- if the machine's zone file for `name` can't be read, the error in reading it is the reason why it can't be used
-- (`IsReasonOn`)
pub unreadable_on : (machine : Machine) (name : List ℕ) (reason : FileReason) → zone_file machine name ≡ Err reason → IsReasonOn machine name reason
unreadable_on machine name reason read = rw read refl

-- if the content of the machine's zone file for `name` is rejected, the error is the reason why the file can't be used
-- (`IsReasonOn`), unless memory ran out
rejected_on : (machine : Machine) (name bytes : List ℕ) (fault : ZoneFault) → zone_file machine name ≡ Ok bytes
    → fault ≢ zones.NoMemory → IsFileFault name bytes fault → IsReasonOn machine name (reasons.Load (loads.Zone fault))
rejected_on machine name bytes fault read other rejected = rw read (other, rejected)

pub rejection_on : (machine : Machine) (name bytes : List ℕ) (text : String Global) (fault : ZoneFault) → string_bytes text ≡ name
    → zone_file machine name ≡ Ok bytes → IsFileFault name bytes fault → IsLoadError machine name (rejection text fault)
rejection_on machine name bytes text zones.NoMemory same read rejected = tt
rejection_on machine name bytes text zones.BadName same read rejected = (same, rejected_on machine name bytes zones.BadName read (λ e. cc) rejected)
rejection_on machine name bytes text zones.BadRule same read rejected = absurd rejected
rejection_on machine name bytes text zones.BadFile same read rejected = (same, rejected_on machine name bytes zones.BadFile read (λ e. cc) rejected)
rejection_on machine name bytes text zones.TooLarge same read rejected = (same, rejected_on machine name bytes zones.TooLarge read (λ e. cc) rejected)
rejection_on machine name bytes text zones.NameTaken same read rejected = absurd rejected

-- if an origin can't be read, so that `zone_of` is the error `Unread` for this origin, then the error that is returned,
-- `unread_fault`, agrees with this (`IsResultOf`)
pub unread_is : {X Y : Type 0} (view : X → Y) (zone_of : Result Y Unreadable → LocalZone) (origin : Origin)
    → ((why : Unreadable) → zone_of (Err why) ≡ Err (faults.Unread origin)) → (fault : trees.TreeFault) (answer : Result Y Unreadable)
    → Tells view (Err fault) answer → IsResultOf (zone_of answer) (Err (unread_fault origin fault))
unread_is view zone_of origin unread (trees.TheVariants.Unreadable why) answer known = ap zone_of known ∙ unread why
unread_is view zone_of origin unread trees.TheVariants.NoMemory answer known = tt

-- the machine's own zone is the one in the file to which /etc/localtime leads, or `None` if that isn't a valid zone
-- file
pub machine_zone_in : (machine : Machine) (bytes : List ℕ) (found : Option TimeZone) → bytes_in (content_at machine localtime) ≡ Ok bytes
    → IsZoneIn bytes found → IsMachineZone machine found
machine_zone_in machine bytes found read is = rw read is

-- if the file to which /etc/localtime leads can't be read, the machine has no zone of its own
pub no_machine_zone : (machine : Machine) (reason : FileReason) → bytes_in (content_at machine localtime) ≡ Err reason → IsMachineZone machine None
no_machine_zone machine reason read = rw read refl

or_true : (b : Bool) → (b || true) ≡ true
or_true true = refl
or_true false = refl

or_false : (b : Bool) → (b || false) ≡ b
or_false true = refl
or_false false = refl

-- after a zone is added, the table has the names that it had before, and the name of this zone
named_if : (old : ZoneMap) (name : List ℕ) (zone : TimeZone) (other : List ℕ) → is_utc_name name ≡ false → (t : Bool) → bytes_eq other name ≡ t
    → is_some (zone_named (insert old name zone) other) ≡ (is_some (zone_named old other) || t)
named_if old name zone other utc true is =
    let same : other ≡ name = (bytes_eq-Decides other name).0 is in
    rw same (ap is_some (zone_named-here old name zone utc) ∙ sym (or_true _))
named_if old name zone other utc false is =
    ap is_some (zone_named-elsewhere old name other zone (λ e. both_ways _ is ((bytes_eq-Decides other name).1 e))) ∙ sym (or_false _)

held_if : (machine : Machine) (old : ZoneMap) (name : List ℕ) (zone : TimeZone) (other : List ℕ) → is_utc_name name ≡ false
    → IsZoneOn machine name zone → IfSome (zone_named old other) (IsZoneOn machine other) → (t : Bool) → bytes_eq other name ≡ t
    → IfSome (zone_named (insert old name zone) other) (IsZoneOn machine other)
held_if machine old name zone other utc on held true is =
    let same : other ≡ name = (bytes_eq-Decides other name).0 is in
    rw (same, zone_named-here old name zone utc) on
held_if machine old name zone other utc on held false is =
    rw (zone_named-elsewhere old name other zone (λ e. both_ways _ is ((bytes_eq-Decides other name).1 e))) held

pub added_names : (old new : ZoneMap) (name : List ℕ) (IsZone : TimeZone → Type 0) (other : List ℕ) → IsZoneAdded old new name IsZone
    → is_some (zone_named new other) ≡ (is_some (zone_named old other) || bytes_eq other name)
added_names old new name IsZone other a = rw (a.added) (named_if old name a.zone other a.other (bytes_eq other name) refl)

pub added_zones : (machine : Machine) (old new : ZoneMap) (name : List ℕ) (IsZone : TimeZone → Type 0) (a : IsZoneAdded old new name IsZone)
    → IsZoneOn machine name a.zone → HasZonesOf machine old → HasZonesOf machine new
added_zones machine old new name IsZone a on held other utc =
    rw (a.added) (held_if machine old name a.zone other a.other on (held other utc) (bytes_eq other name) refl)

either_of : (a b : Bool) → a ≡ false → b ≡ true → (a || b) ≡ true
either_of a b off on = rw (off, on) refl

-- if a table has a zone for a name, and this zone is the one in the machine's zone file for the name, then the machine
-- has a valid zone file for it (`HasZone`)
pub usable_of : (machine : Machine) (other : List ℕ) (o : Option TimeZone) → is_some o ≡ true → IfSome o (IsZoneOn machine other) → HasZone machine other
usable_of machine other None there on = absurd (false≢true there)
usable_of machine other (Some zone) there on = (zone, on)

-- if the table has the zones of all names before this index, an error in loading the zone of the name at the index is
-- the first error (`IsFirstError`)
pub error_at : (machine : Machine) (names : List (String Global)) (index : ℕ) (name : List ℕ) (after : List (List ℕ)) (table : ZoneMap) (fault : ZonesFault)
    → map string_bytes (drop index names) ≡ name ∷ after → IsLoadError machine name fault
    → ((other : List ℕ) → is_some (zone_named table other) ≡ (is_utc_name other || list_any (bytes_eq other) (map string_bytes (take index names))))
    → HasZonesOf machine table → IsFirstError machine (map string_bytes names) fault
error_at machine names index name after table fault at error known zones =
    record {
      index = index;
      name = name;
      after = after;
      is_at = drop-map string_bytes index names ∙ at;
      is_error = error;
      earlier = λ other any utc.
          usable_of machine other (zone_named table other)
          (known other ∙ either_of _ _ utc (ap (list_any (bytes_eq other)) (sym (take-map string_bytes index names)) ∙ any)) (zones other utc);
    }
