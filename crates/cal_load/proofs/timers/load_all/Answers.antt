use Rattle.std.proofs.Common.{◌≡◌, ◌∙◌, All, ap, map, refl, string_bytes, subst, sym}
use Rattle.std.proofs.lemmas.Iterator.Consumers.{YieldsList-end, YieldsList-from_rest}
use Rattle.std.proofs.lemmas.List.{map-id}
use Rattle.std.proofs.lemmas.List.Elements.{All-nil}
use Rattle.cal_load.specs.rules.AllTargets.Sought.{ListedUnit}
use Rattle.cal_load.specs.rules.AllUnits.{shown_stems}
use Rattle.cal_load.specs.rules.FileFaults.{IsLostIn, lost_path}
use Rattle.cal_load.specs.rules.Loaded.{IsTimerOn}
use Rattle.cal_load.proofs.UnitLemmas.{all_loaded, more_as, more_kept, none_more, one_more}
use Rattle.cal_load.proofs.timers.load_all.Goals as goal

pub loop-stem-init : goal.loop-stem-init
loop-stem-init g c = (
  λ machine search_path shows is. rw c.new-loaded.ensures.timers (All-nil (IsTimerOn machine search_path)),
  λ machine shows. c.in_ok-stems.ensures.grows machine shows,
  λ machine shows. shows,
  none_more _ c.new-loaded.result,
  refl,
)

pub loop-stem-preserved : goal.loop-stem-preserved
loop-stem-preserved g c = (
  λ machine search_path shows is. c.in_ok-load_listed.ensures.known machine search_path shows is (c.loop-stem.invariant.0 machine search_path (c.load_listed.ensures.grows machine shows) is),
  λ machine shows. c.loop-stem.invariant.1 machine (c.load_listed.ensures.grows machine shows),
  λ machine shows. c.loop-stem.invariant.2 machine (c.load_listed.ensures.grows machine shows),
  one_more _ _ ListedUnit string_bytes c.loop-stem.yielded c.in-Some.stem _ c.new-loaded.result c.loop-stem.loaded c.load_listed.new.loaded
      (λ machine search_path now. (c.load_listed.ensures.grows machine now.0, now.1)) c.as_str.ensures.value c.loop-stem.invariant.3 c.in_ok-load_listed.ensures.more,
  c.loop-stem.invariant.4,
)

pub returns-clause-whole : goal.returns-clause-whole
returns-clause-whole g c =
    let keys = c.in_ok-stems.field-0.stems.keys in
    let done = YieldsList-end (YieldsList-from_rest keys c.into_iter-stem-iterator.ensures.into_iter_gives.0) c.loop-stem.yielded _ c.loop-stem.yielded_by _ _ c.in-None.is c.next.ensures.steps in
    let all : map string_bytes c.loop-stem.yielded ≡ map string_bytes keys = ap (map string_bytes) (sym (map-id c.loop-stem.yielded) ∙ done.0) in
    let before = c.loop-stem.loaded in
    all_loaded _ _ c.new-loaded.result _ c.new-loaded.ensures.timers c.new-loaded.ensures.masked
    (more_kept _ _ c.new-loaded.result before _ refl refl c.in_ok-push_lost.ensures.kept
    (more_as _ _ _ _ c.new-loaded.result before (λ machine search_path now. now)
    (λ machine search_path now. ap (map ListedUnit) (all ∙ c.in_ok-stems.ensures.stems machine search_path (c.loop-stem.invariant.2 machine now.0) now.1)) c.loop-stem.invariant.3))

pub returns-clause-started : goal.returns-clause-started
returns-clause-started g c machine search_path shows is = ap shown_stems c.loop-stem.invariant.4 ∙ c.in_ok-stems.ensures.started machine search_path (c.loop-stem.invariant.2 machine shows) is

pub returns-clause-unreadable : goal.returns-clause-unreadable
returns-clause-unreadable g c machine search_path shows is =
    subst (λ faults. All (IsLostIn c.push_lost.new.faults.items) (map lost_path faults))
    (c.in_ok-stems.ensures.unreadable machine search_path (c.loop-stem.invariant.2 machine shows) is) c.in_ok-push_lost.ensures.lost.whole
