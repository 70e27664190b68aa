use Rattle.std.proofs.Common.{map, subst}
use Rattle.std.proofs.lemmas.Result.{IfOk-weaker}
use Rattle.cal_timer.specs.rules.TimerView.{shown}
use Rattle.cal_load.proofs.ExpressionLemmas.{zone_only}
use Rattle.cal_load.specs.rules.Loaded.{zone_names_in}
use Rattle.cal_load.specs.rules.TextFaults.{IsZonesError}
use Rattle.cal_zone_files.specs.declared.fault.ZonesFault.TheVariants.{OfZone}
use Rattle.cal_load.proofs.expressions.with_zones.Goals as goal

pub returns-in-Err-OfZone-clause-outcome : goal.returns-in-Err-OfZone-clause-outcome
returns-in-Err-OfZone-clause-outcome g c =
    let names = zone_names_in (map shown c.as_slice.result.now) in
    IfOk-weaker c.only_zone_fault.result _ _ (λ loaded single.
    zone_only _ (map (λ text. text.now) c.args.expressions.now) (map shown c.args.lines.items) c.in-Err-OfZone.zone c.in-Err-OfZone.reason loaded c.requires
    (λ machine shows.
    subst (λ lines. IsZonesError machine (zone_names_in (map shown lines)) (OfZone c.in-Err-OfZone.zone c.in-Err-OfZone.reason)) c.as_slice.ensures.value
    (subst (IsZonesError machine names) c.in-Err-OfZone.field-0-is (c.in-Err-OfZone.ensures.fault machine shows)))
    single)
    c.only_zone_fault.ensures
