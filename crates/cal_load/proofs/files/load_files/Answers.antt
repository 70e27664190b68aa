use Rattle.std.proofs.Common.{[], ap, arith, get_or, map, refl}
use Rattle.std.proofs.lemmas.List.{take_all}
use Rattle.std.specs.List.{flat_map}
use Rattle.cal_load.specs.rules.AllFiles.{paths_by}
use Rattle.cal_load.specs.rules.FileFaults.{lost_by}
use Rattle.cal_load.proofs.FileFaultLemmas.{lost_none}
use Rattle.cal_load.proofs.FileLemmas.{all_read, read_target, tried_stored}
use Rattle.cal_load.proofs.files.load_files.Goals as goal

pub loop-target-init : goal.loop-target-init
loop-target-init g c = (
  λ machine shows. ([], c.new-reading.ensures.tried machine),
  λ machine shows. shows,
  λ machine search_path shows is paths tried. (tried, lost_none c.new-reading.result.loaded.faults.items),
)

pub loop-target-preserved : goal.loop-target-preserved
loop-target-preserved g c = (
  λ machine shows. c.in_ok-take_target.ensures.tried machine shows (c.loop-target.invariant.0 machine (c.take_target.ensures.grows machine shows)),
  λ machine shows. c.loop-target.invariant.1 machine (c.take_target.ensures.grows machine shows),
  λ machine search_path shows is. read_target machine (paths_by machine search_path) (lost_by machine search_path) c.args.targets.now c.loop-target.target-index
      (get_or c.args.targets.now c.loop-target.target-index (record { ref_ptr = (0, 0); now = [] })) (record { ref_ptr = (0, 0); now = [] })
      c.new-reading.result c.loop-target.reading c.take_target.new.self (omega arith) refl
      (c.loop-target.invariant.2 machine search_path (c.take_target.ensures.grows machine shows) is) (c.in_ok-take_target.ensures.read machine search_path shows is),
)

pub returns-clause-targets : goal.returns-clause-targets
returns-clause-targets g c some machine search_path shows is =
    let all = take_all c.loop-target.target-index c.args.targets.now (omega arith) in
    all_read machine _ _ _ _ c.new-reading.result c.loop-target.reading
    (ap (λ targets. flat_map (paths_by machine search_path) (map (λ target. target.now) targets)) all)
    (ap (λ targets. flat_map (lost_by machine search_path) (map (λ target. target.now) targets)) all)
    (c.new-reading.ensures.tried machine) c.new-reading.ensures.no_faults (c.loop-target.invariant.2 machine search_path shows is)

pub returns-clause-known : goal.returns-clause-known
returns-clause-known g c machine shows = tried_stored machine c.loop-target.reading (c.loop-target.invariant.0 machine shows)
