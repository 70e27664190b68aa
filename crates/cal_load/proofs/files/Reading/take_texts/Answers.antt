use Rattle.std.proofs.Common.{◌≡◌, ◌∙◌, ap, map, refl, string_bytes, subst, sym}
use Rattle.std.proofs.lemmas.Iterator.Consumers.{YieldsList-end, YieldsList-from_rest}
use Rattle.std.proofs.lemmas.List.{map-id}
use Rattle.std.proofs.lemmas.Result.{on_ok_weaker}
use Rattle.std.specs.List.{flat_map}
use Rattle.cal_machine.specs.rules.Places.{names_at}
use Rattle.cal_load.specs.rules.AllTargets.{IsUnreadFault, path_in}
use Rattle.cal_load.specs.rules.FileFaults.{lost_file}
use Rattle.cal_load.proofs.FileLemmas.{read_as, read_string, texts_read, unread_read}
use Rattle.cal_load.proofs.files.Reading.take_texts.Goals as goal

pub returns-in-Err-Target-clause-read : goal.returns-in-Err-Target-clause-read
returns-in-Err-Target-clause-read g c =
    on_ok_weaker c.push_named.result (λ pushed machine shows.
    unread_read machine c.args.folder.now (names_at machine c.args.folder.now) c.in-Err-Target.reason c.args.self.now _ refl refl
    (subst (IsUnreadFault c.args.folder.now (names_at machine c.args.folder.now)) c.in-Err-Target.field-0-is (c.in-Err-Target.ensures.fault machine shows)) pushed) c.push_named.ensures

pub loop-name-preserved : goal.loop-name-preserved
loop-name-preserved g c = (
  λ machine shows. c.loop-name.invariant.0 machine (c.take_path.ensures.grows machine shows),
  λ machine shows. c.loop-name.invariant.1 machine (c.take_path.ensures.grows machine shows),
  λ machine shows. read_string machine (path_in c.args.folder.now) (lost_file machine) c.loop-name.yielded c.in-Some.name _ c.args.self.now c.loop-name.self c.take_path.new.self
      (c.as_str-in-loop-name.ensures.value ∙ c.in_ok-path.ensures ∙ ap (path_in c.args.folder.now) c.as_str.ensures.value)
      (c.loop-name.invariant.2 machine (c.take_path.ensures.grows machine shows)) (c.in_ok-take_path.ensures.read machine shows),
)

pub returns-clause-read : goal.returns-clause-read
returns-clause-read g c machine shows =
    let keys = c.in-Ok.names.keys in
    let done = YieldsList-end (YieldsList-from_rest keys c.into_iter-name-iterator.ensures.into_iter_gives.0) c.loop-name.yielded _ c.loop-name.yielded_by _ _ c.in-None.is c.next.ensures.steps in
    let all : map string_bytes c.loop-name.yielded ≡ map string_bytes keys = ap (map string_bytes) (sym (map-id c.loop-name.yielded) ∙ done.0) in
    texts_read machine c.args.folder.now (map string_bytes keys) c.args.self.now c.loop-name.self
    (c.in-Ok.ensures.known machine (c.loop-name.invariant.1 machine shows))
    (read_as machine _ _ _ _ c.args.self.now c.loop-name.self (ap (map (path_in c.args.folder.now)) all)
    (ap (λ names. flat_map (lost_file machine) (map (path_in c.args.folder.now) names)) all) (c.loop-name.invariant.2 machine shows))
