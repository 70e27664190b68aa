use Rattle.std.proofs.Common.{◌≡◌, ◌∙◌, ap, map, string_bytes, sym}
use Rattle.std.proofs.lemmas.Iterator.Consumers.{YieldsList-end, YieldsList-from_rest}
use Rattle.std.proofs.lemmas.List.{map-id}
use Rattle.std.specs.List.{flat_map}
use Rattle.cal_load.specs.rules.AllFiles.{unit_paths}
use Rattle.cal_load.specs.rules.FileFaults.{lost_listed}
use Rattle.cal_load.proofs.FileFaultLemmas.{lost_none}
use Rattle.cal_load.proofs.FileLemmas.{read_as, read_unit}
use Rattle.cal_load.proofs.files.Reading.take_units.Goals as goal

pub loop-stem-init : goal.loop-stem-init
loop-stem-init g c = (
  λ machine shows tried. tried,
  λ machine shows. shows,
  λ machine search_path shows is paths tried. (tried, lost_none c.args.self.now.loaded.faults.items),
)

pub loop-stem-preserved : goal.loop-stem-preserved
loop-stem-preserved g c = (
  λ machine shows tried. c.in_ok-take_listed.ensures.tried machine shows (c.loop-stem.invariant.0 machine (c.take_listed.ensures.grows machine shows) tried),
  λ machine shows. c.loop-stem.invariant.1 machine (c.take_listed.ensures.grows machine shows),
  λ machine search_path shows is. read_unit machine (unit_paths machine search_path) (lost_listed machine search_path) c.loop-stem.yielded c.in-Some.stem _ c.args.self.now c.loop-stem.self c.take_listed.new.self
      c.as_str.ensures.value (c.loop-stem.invariant.2 machine search_path (c.take_listed.ensures.grows machine shows) is) (c.in_ok-take_listed.ensures.read machine search_path shows is),
)

pub returns-clause-read : goal.returns-clause-read
returns-clause-read g c machine search_path shows is =
    let keys = c.args.stems.keys in
    let done = YieldsList-end (YieldsList-from_rest keys c.into_iter-stem-iterator.ensures.into_iter_gives.0) c.loop-stem.yielded _ c.loop-stem.yielded_by _ _ c.in-None.is c.next.ensures.steps in
    let all : map string_bytes c.loop-stem.yielded ≡ map string_bytes keys = ap (map string_bytes) (sym (map-id c.loop-stem.yielded) ∙ done.0) in
    read_as machine _ _ _ _ c.args.self.now c.loop-stem.self (ap (flat_map (unit_paths machine search_path)) all) (ap (flat_map (lost_listed machine search_path)) all)
    (c.loop-stem.invariant.2 machine search_path shows is)
