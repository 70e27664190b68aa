use Rattle.std.proofs.lemmas.Result.{on_ok_weaker}
use Rattle.cal_zone_files.proofs.ZoneLemmas.{added_names, added_zones}
use Rattle.cal_zone_files.proofs.load.load_zone.Goals as goal

pub returns-clause-names : goal.returns-clause-names
returns-clause-names g c = on_ok_weaker c.add_zone.result (λ added other. added_names _ _ _ _ other added) c.add_zone.ensures.added

pub returns-clause-zones : goal.returns-clause-zones
returns-clause-zones g c =
    on_ok_weaker c.add_zone.result (λ added machine shows held. added_zones machine _ _ _ _ added (added.is_zone machine shows) held) c.add_zone.ensures.added
