use Rattle.std.proofs.Common.{◌≡◌, ◌∙◌, ◌++◌, ap, map, string_bytes, subst}
use Rattle.std.proofs.lemmas.Result.{IfErr-weaker}
use Rattle.cal_timer.specs.rules.TimerView.{shown}
use Rattle.cal_load.specs.rules.Loaded.{zone_names_in}
use Rattle.cal_load.specs.rules.TextFaults.{IsZonesError}
use Rattle.cal_load.proofs.TextFaultLemmas.{first_named}
use Rattle.cal_load.proofs.zones.load_named_zones.Goals as goal

pub returns-clause-fault : goal.returns-clause-fault
returns-clause-fault g c =
    let lines = zone_names_in (map shown c.args.lines.now) in
    let names : map string_bytes c.as_slice.result.now ≡ lines =
    ap (map string_bytes) c.as_slice.ensures.value ∙ c.in_ok-push_zone_names.ensures ∙ ap (λ all. map string_bytes all ++ lines) c.new-names.ensures.items in
    IfErr-weaker c.load_zones.result _ _ (λ found first machine shows.
    subst (λ all. IsZonesError machine all found) names (first_named machine (map string_bytes c.as_slice.result.now) found (first machine shows)))
    c.load_zones.ensures.fault
