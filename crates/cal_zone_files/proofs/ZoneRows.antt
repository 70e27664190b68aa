-- Examples that check the definition of which zone to use, after tzset(3).
use Rattle.std.proofs.Common.{◌≡◌, [], ◌∷◌, None, Some, Ok, Err, codes, map, refl}
use Rattle.cal_civil.specs.rules.ZoneName.{is_utc_name, is_zone_name}
use Rattle.cal_machine.specs.rules.Prefix.{after_prefix}
use Rattle.cal_zone.specs.rules.ZoneArgument.{in_utc, of_name}
use Rattle.cal_zone_files.specs.rules.LocalZone.{variable_zone}
use Rattle.cal_zone_files.specs.declared.fault.Origin.TheVariants as origins
use Rattle.cal_zone_files.specs.declared.fault.ZonesFault.TheVariants as faults

-- Values of the variable `TZ`. After a colon comes the path of a file, absolute or relative to the folder of zone
-- files; an empty path stands for UTC, and `/etc/localtime` for the machine's own zone. The file `/a` isn't in the
-- folder of zone files.
files : map variable_zone (codes ":" ∷ codes ":Asia/Tokyo" ∷ codes ":/usr/share/zoneinfo/Asia/Tokyo" ∷ codes ":UTC" ∷ codes ":/etc/localtime" ∷ codes ":/a" ∷ [])
    ≡ Ok (Some in_utc) ∷ Ok (Some (of_name (codes "Asia/Tokyo"))) ∷ Ok (Some (of_name (codes "Asia/Tokyo"))) ∷ Ok (Some in_utc)
    ∷ Ok None ∷ Err (faults.Unclear origins.Variable) ∷ []
unfolding is_utc_name after_prefix is_zone_name
files = refl
