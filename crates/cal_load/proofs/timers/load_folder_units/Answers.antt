use Rattle.std.proofs.Common.{◌≡◌, ◌∙◌, ap, map, string_bytes, sym}
use Rattle.std.proofs.lemmas.Iterator.Consumers.{YieldsList-end, YieldsList-from_rest}
use Rattle.std.proofs.lemmas.List.{map-id}
use Rattle.cal_load.specs.rules.AllTargets.Sought.{FolderUnit}
use Rattle.cal_load.proofs.UnitLemmas.{more_as, none_more, one_more}
use Rattle.cal_load.proofs.timers.load_folder_units.Goals as goal

pub loop-stem-init : goal.loop-stem-init
loop-stem-init g c = (
  λ machine search_path shows is held. held,
  λ machine shows. shows,
  none_more _ c.args.loaded.now,
)

pub loop-stem-preserved : goal.loop-stem-preserved
loop-stem-preserved g c = (
  λ machine search_path shows is held. c.in_ok-load_folder_unit.ensures.known machine search_path shows is
      (c.loop-stem.invariant.0 machine search_path (c.load_folder_unit.ensures.grows machine shows) is held),
  λ machine shows. c.loop-stem.invariant.1 machine (c.load_folder_unit.ensures.grows machine shows),
  one_more _ _ (FolderUnit c.args.folder.now) string_bytes c.loop-stem.yielded c.in-Some.stem _ c.args.loaded.now c.loop-stem.loaded c.load_folder_unit.new.loaded
      (λ machine search_path now. (c.load_folder_unit.ensures.grows machine now.0, now.1)) c.as_str.ensures.value c.loop-stem.invariant.2 c.in_ok-load_folder_unit.ensures.more,
)

pub returns-clause-more : goal.returns-clause-more
returns-clause-more g c =
    let keys = c.args.stems.keys in
    let done = YieldsList-end (YieldsList-from_rest keys c.into_iter-stem-iterator.ensures.into_iter_gives.0) c.loop-stem.yielded _ c.loop-stem.yielded_by _ _ c.in-None.is c.next.ensures.steps in
    let all : map string_bytes c.loop-stem.yielded ≡ map string_bytes keys = ap (map string_bytes) (sym (map-id c.loop-stem.yielded) ∙ done.0) in
    more_as _ _ _ _ c.args.loaded.now c.loop-stem.loaded (λ machine search_path now. now)
    (λ machine search_path now. ap (map (FolderUnit c.args.folder.now)) all) c.loop-stem.invariant.2
