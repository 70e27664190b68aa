use Rattle.std.proofs.Common.{◌≡◌, ◌∙◌, Ok, ap, subst, sym}
use Rattle.cal_machine.specs.rules.Places.{content_at}
use Rattle.cal_zone.specs.rules.ZoneFile.{IsFileFault, IsFileZone}
use Rattle.cal_zone_files.specs.rules.ZoneFiles.{IsLoadError, bytes_in, shown_file, zone_file}
use Rattle.cal_zone_files.proofs.ZoneLemmas.{parsed_on, rejection_on}
use Rattle.cal_zone_files.proofs.load.add_zone.Goals as goal

pub returns-in-Ok-add_file-clause-added : goal.returns-in-Ok-add_file-clause-added
returns-in-Ok-add_file-clause-added g c =
    let a = c.in-Ok-add_file.ensures.added in
    record {
      zone = a.zone;
      is_zone = λ machine shows.
          let read : zone_file machine c.args.name.now ≡ Ok c.in-Ok.bytes.items =
          ap (λ path. bytes_in (content_at machine path)) (sym (c.as_str.ensures.value ∙ c.in_ok-path.ensures))
          ∙ c.in_ok-bytes.ensures.known machine shows ∙ ap shown_file c.in-Ok.is in
          parsed_on machine c.args.name.now c.in-Ok.bytes.items a.zone read
          (subst (λ bytes. IsFileZone c.args.name.now bytes a.zone) c.as_slice.ensures.value a.is_zone);
      other = a.other;
      added = a.added;
    }

pub returns-clause-fault : goal.returns-clause-fault
returns-clause-fault g c =
    λ machine shows.
    let read : zone_file machine c.args.name.now ≡ Ok c.in-Ok.bytes.items =
    ap (λ path. bytes_in (content_at machine path)) (sym (c.as_str.ensures.value ∙ c.in_ok-path.ensures))
    ∙ c.in_ok-bytes.ensures.known machine shows ∙ ap shown_file c.in-Ok.is in
    subst (IsLoadError machine c.args.name.now) (sym c.rejection.ensures)
    (rejection_on machine c.args.name.now c.in-Ok.bytes.items c.in_ok-from_str-in-Err-add_file.field-0 c.in-Err-add_file.fault c.in_ok-from_str-in-Err-add_file.ensures.ok read
    (subst (λ bytes. IsFileFault c.args.name.now bytes c.in-Err-add_file.fault) c.as_slice.ensures.value c.in-Err-add_file.ensures.fault))
