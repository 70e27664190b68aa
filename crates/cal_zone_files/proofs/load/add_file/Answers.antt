use Rattle.cal_zone_files.proofs.ZoneLemmas.{zone_added}
use Rattle.cal_zone_files.proofs.load.add_file.Goals as goal
use Rattle.cal_zone_files.proofs.load.add_file.Goals.{in-Ok, in-Err}

pub returns-clause-added : goal.returns-clause-added
returns-clause-added c =
    elim c.match-add_named.branch [
      | in-Ok w ↦ rw w.result-is (zone_added _ _ _ c.args.name.now c.args.bytes.now _ c.in-Some.ensures.0 c.requires w.in-Ok.ensures.added.1 c.in_ok-rules.ensures)
      | in-Err w ↦ rw w.result-is tt
    ]
