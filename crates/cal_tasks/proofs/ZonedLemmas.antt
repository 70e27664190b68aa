-- A loaded timer has the zones that its expressions and exceptions name.
use Rattle.std.proofs.Common.{◌≡◌, ◌∙◌, false, true, List, [], ◌∷◌, Option, None, Some, ap, refl}
use Rattle.std.proofs.lemmas.Bool.{false≢true}
use Rattle.std.proofs.lemmas.List.Elements.{All-head, All-tail}
use Rattle.std.specs.List.{find}
use Rattle.std.specs.Option.{option_map}
use Rattle.std.specs.Prelude.{is_none, is_some}
use Rattle.jiff.specs.Types.{TimeZone}
use Rattle.cal_load.specs.declared.loaded.LoadedTimer.{LoadedTimer}
use Rattle.cal_load.specs.rules.CalendarZones.{HasZonesNamedIn, exceptions_in, expressions_in}
use Rattle.cal_load.specs.rules.UnusableZones.{has_zone, is_zone_in}
use Rattle.cal_plan.specs.declared.plan_fault.PlanFault.{PlanFault}
use Rattle.cal_plan.specs.rules.ZoneFor.{IsUnzoned, first_unzoned, lacks_zone, unzoned, zone_for}
use Rattle.cal_spec.specs.rules.Fields.{Fields}
use Rattle.cal_spec.specs.rules.ZoneSuffix.{ZoneSuffix, at_offset, name_in, of_name}
use Rattle.cal_timer.specs.rules.TimerEntries.{TimerLine}
use Rattle.cal_zone.specs.rules.Setting.{Setting}
use Rattle.cal_zone.specs.rules.ZoneTable.{ZoneMap, zone_named}
use Rattle.cal_tasks.specs.declared.present.Present.{Present}
use Rattle.cal_tasks.specs.rules.LoadedElapses.{setting_for}

some_not_none : (found : Option TimeZone) → is_some found ≡ true → is_none found ≡ false
some_not_none None h = absurd (false≢true h)
some_not_none (Some zone) h = refl

zone_known : (local : TimeZone) (table : ZoneMap) (zone : Option ZoneSuffix) → is_zone_in table (name_in zone) ≡ true
    → is_none (zone_for (record { local = local; find = zone_named table }) zone) ≡ false
unfolding zone_for
zone_known local table None h = refl
zone_known local table (Some (of_name name)) h = some_not_none (zone_named table name) h
zone_known local table (Some (at_offset seconds)) h = refl

none_lacks_zone : (local : TimeZone) (table : ZoneMap) (entries : List (TimerLine Fields)) → HasZonesNamedIn table entries
    → find (lacks_zone (record { local = local; find = zone_named table })) entries ≡ None
none_lacks_zone local table [] h = refl
none_lacks_zone local table (entry ∷ entries) h =
    rw (zone_known local table entry.expr.zone (All-head (λ entry. has_zone table entry ≡ true) entry entries h))
    (none_lacks_zone local table entries (All-tail (λ entry. has_zone table entry ≡ true) entry entries h))

all_known : (at : Present) (timer : LoadedTimer) (entries : List (TimerLine Fields)) → HasZonesNamedIn timer.zones entries
    → first_unzoned (setting_for at timer) entries ≡ None
all_known at timer entries h =
    let here = setting_for at timer in
    ap (option_map (λ (entry : TimerLine Fields). entry.number)) (none_lacks_zone here.local timer.zones entries h)

-- all zones that a timer's expressions name are known
pub lines_zoned : (at : Present) (timer : LoadedTimer) (here : Setting) (lines : List (TimerLine Fields)) → here ≡ setting_for at timer
    → lines ≡ expressions_in timer.calendar → first_unzoned here lines ≡ None
lines_zoned at timer here lines same is =
    (λ j. first_unzoned (same j) (is j)) ∙ all_known at timer (expressions_in timer.calendar) timer.zoned.0

-- all zones that a timer's exceptions name are known
pub exceptions_zoned : (at : Present) (timer : LoadedTimer) (here : Setting) (lines : List (TimerLine Fields)) → here ≡ setting_for at timer
    → lines ≡ exceptions_in timer.calendar → first_unzoned here lines ≡ None
exceptions_zoned at timer here lines same is =
    (λ j. first_unzoned (same j) (is j)) ∙ all_known at timer (exceptions_in timer.calendar) timer.zoned.1

-- if all zones are known, there is no error about a zone
pub no_zone_missing : (here : Setting) (expressions exceptions : List (TimerLine Fields)) (fault : PlanFault) → first_unzoned here expressions ≡ None
    → first_unzoned here exceptions ≡ None → IsUnzoned (unzoned here (record { expressions = expressions; exceptions = exceptions })) fault → ⊥
unfolding unzoned
no_zone_missing here expressions exceptions fault all none h = rw (all, none) at h
