use Rattle.std.proofs.Common.{◌∙◌, ap, subst}
use Rattle.std.proofs.lemmas.Result.{IfOk-weaker}
use Rattle.cal_zone_files.specs.rules.ZoneFiles.{IsZoneIn, shown_file}
use Rattle.cal_zone_files.proofs.ZoneLemmas.{machine_zone_in, no_machine_zone}
use Rattle.cal_zone_files.proofs.load.load_machine_zone.Goals as goal

pub returns-in-Ok-clause-zone : goal.returns-in-Ok-clause-zone
returns-in-Ok-clause-zone g c = IfOk-weaker c.zone_in.result _ _ (λ zone is machine shows.
    machine_zone_in machine c.in-Ok.bytes.items zone (c.in_ok-bytes.ensures.known machine shows ∙ ap shown_file c.in-Ok.is)
    (subst (λ bytes. IsZoneIn bytes zone) c.as_slice.ensures.value is)) c.zone_in.ensures

pub returns-in-Err-clause-zone : goal.returns-in-Err-clause-zone
returns-in-Err-clause-zone g c = λ machine shows.
    no_machine_zone machine c.in-Err.field-0 (c.in_ok-bytes.ensures.known machine shows ∙ ap shown_file c.in-Err.is)
