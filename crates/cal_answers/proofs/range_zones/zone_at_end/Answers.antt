use Rattle.std.proofs.Common.{◌≡◌, ◌∙◌, false, subst, sym}
use Rattle.std.specs.Prelude.{is_some}
use Rattle.std.proofs.lemmas.Bool.{false≢true}
use Rattle.cal_zone.specs.rules.ZoneTable.{zone_named}
use Rattle.cal_zone_files.specs.declared.fault.FileReason.{FileReason}
use Rattle.cal_zone_files.specs.rules.ZoneFiles.{HasZonesOf, IsReasonOn}
use Rattle.cal_zone_files.proofs.ZoneLemmas.{empty_has_none}
use Rattle.cal_answers.proofs.range_zones.zone_at_end.Goals as goal

pub returns-in_default-clause-zone : goal.returns-in_default-clause-zone
returns-in_default-clause-zone g c = λ machine shows. record {
  of_machine = subst (HasZonesOf machine) (sym c.new.ensures) (empty_has_none machine);
  lacks = λ named. absurd (false≢true (sym c.in_default.ensures ∙ named));
}

pub returns-clause-zone : goal.returns-clause-zone
returns-clause-zone g c = λ machine shows. record {
  of_machine = c.in_ok-table.ensures.known machine shows;
  lacks = λ named.
      subst (λ name. is_some (zone_named c.in_ok-table.table name) ≡ false → (reason : FileReason) × IsReasonOn machine name reason)
      (c.as_str.ensures.value ∙ c.in-Some.ensures) (c.in_ok-table.ensures.zone machine shows);
}
