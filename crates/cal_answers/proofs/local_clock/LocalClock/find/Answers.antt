use Rattle.std.proofs.Common.{Ok, Option, Some, ap, subst, sym, option_map, ◌∙◌}
use Rattle.std.proofs.lemmas.Result.{IfOk-weaker}
use Rattle.cal_zone.specs.declared.zone_argument.ZoneArgument.{ZoneArgument}
use Rattle.cal_zone.specs.rules.Zone.{zone_of}
use Rattle.cal_zone.specs.rules.ZoneArgument.{by_rule, shown_zone_argument}
use Rattle.cal_zone_files.specs.rules.LocalZone.{LocalZone, machine_local_zone}
use Rattle.cal_answers.specs.rules.LocalClock.{IsLocalZone, IsThisZone, clock_zone}
use Rattle.cal_answers.proofs.LocalClockLemmas.{ruled_as, ruled_unusable, utc_zone}
use Rattle.cal_answers.proofs.local_clock.LocalClock.find.Goals as goal

abbrev shown : Option ZoneArgument → LocalZone
shown found = Ok (option_map shown_zone_argument found)

pub returns-in-Ok-Some-Utc-clause-zone : goal.returns-in-Ok-Some-Utc-clause-zone
returns-in-Ok-Some-Utc-clause-zone g c =
    λ machine shows.
    let is = c.in-Ok-Some-Utc.field-0-is ∙ ap Some c.in-Ok-Some-Utc.field-0-0-is in
    subst (λ local. IsThisZone machine local (zone_of c.utc.result)) (sym (ap shown is) ∙ c.in-Ok-Some-Utc.ensures.zone machine shows)
    (ap zone_of c.utc.ensures ∙ utc_zone)

pub returns-in-Ok-Some-Posix-clause-zone : goal.returns-in-Ok-Some-Posix-clause-zone
returns-in-Ok-Some-Posix-clause-zone g c =
    let is = c.in-Ok-Some-Posix.field-0-is ∙ ap Some c.in-Ok-Some-Posix.field-0-0-is in
    ruled_as c.ruled.result c.as_str.result.now (g.T.Tree.shows c.find_local_zone.new.tree)
    (λ machine. machine_local_zone machine (option_map (λ text. text.now) c.args.option) c.args.by_variable)
    (λ machine shows. ap (λ rule. Ok (Some (by_rule rule))) c.as_str.ensures.value ∙ sym (ap shown is) ∙ c.in-Ok-Some-Posix.ensures.zone machine shows)
    c.ruled.ensures.zone

pub returns-in-Ok-Some-Posix-clause-fault : goal.returns-in-Ok-Some-Posix-clause-fault
returns-in-Ok-Some-Posix-clause-fault g c =
    let is = c.in-Ok-Some-Posix.field-0-is ∙ ap Some c.in-Ok-Some-Posix.field-0-0-is in
    ruled_unusable c.ruled.result c.as_str.result.now (g.T.Tree.shows c.find_local_zone.new.tree)
    (λ machine. machine_local_zone machine (option_map (λ text. text.now) c.args.option) c.args.by_variable)
    (λ machine shows. ap (λ rule. Ok (Some (by_rule rule))) c.as_str.ensures.value ∙ sym (ap shown is) ∙ c.in-Ok-Some-Posix.ensures.zone machine shows)
    c.ruled.ensures.fault

pub returns-in-Ok-None-clause-zone : goal.returns-in-Ok-None-clause-zone
returns-in-Ok-None-clause-zone g c =
    IfOk-weaker c.of_machine.result _ _ (λ clock is machine shows.
    subst (λ local. IsLocalZone machine local (clock_zone clock))
    (sym (ap shown c.in-Ok-None.field-0-is) ∙ c.in-Ok-None.ensures.zone machine (c.of_machine.ensures.grows machine shows)) (is machine shows))
    c.of_machine.ensures.zone
