use Rattle.std.proofs.Common.{◌≡◌, ◌∙◌, ap, map, refl, string_bytes, subst, sym}
use Rattle.std.proofs.lemmas.Iterator.Adapters.{YieldsList-from_vec}
use Rattle.std.proofs.lemmas.Iterator.Consumers.{YieldsList-end}
use Rattle.std.proofs.lemmas.List.{map-id}
use Rattle.std.specs.List.{flat_map, fold}
use Rattle.cal_unit_index.specs.declared.unit_type.UnitType.TheVariants.{Timer}
use Rattle.cal_unit_index.specs.rules.DropIns.{drop_ins, unread_folders}
use Rattle.cal_unit_index.specs.rules.Names.{names_on}
use Rattle.cal_load.specs.declared.files.Reading.{Reading}
use Rattle.cal_load.specs.rules.AllFiles.{with_path}
use Rattle.cal_load.specs.rules.FileFaults.{AreReadAlso, lost_drop_in}
use Rattle.cal_load.proofs.FileLemmas.{drop_ins_read, read_drop_in}
use Rattle.cal_load.proofs.files.Reading.take_drop_ins.Goals as goal

pub loop-path-preserved : goal.loop-path-preserved
loop-path-preserved g c = (
  λ machine shows. c.loop-path.invariant.0 machine (c.take_drop_in.ensures.grows machine shows),
  λ machine shows. c.loop-path.invariant.1 machine (c.take_drop_in.ensures.grows machine shows),
  λ machine shows. read_drop_in machine (lost_drop_in machine) c.loop-path.yielded c.in-Some.path _ c.loop-path.self c.take_drop_in.new.self
      (c.loop-path.invariant.2 machine (c.take_drop_in.ensures.grows machine shows)) (c.in_ok-take_drop_in.ensures.read machine shows),
)

pub returns-clause-tried : goal.returns-clause-tried
returns-clause-tried g c machine shows held =
    let after = c.loop-path.invariant.2 machine shows held.0 (record { files = held.1.files; seen = held.1.seen }) in
    (fold with_path held.0 (map string_bytes c.loop-path.yielded), after.0)

pub returns-clause-read : goal.returns-clause-read
returns-clause-read g c machine search_path shows is =
    let names = names_on machine search_path (string_bytes c.args.file.now.file) (string_bytes c.args.file.now.stem) c.args.asked.now in
    let found : map string_bytes c.as_slice.result.now ≡ names = ap (map string_bytes) c.as_slice.ensures.value ∙ c.in_ok-names.ensures.known machine search_path is in
    let paths = c.in_ok-paths.field-0.paths in
    let gives = c.into_iter-path-iterator.ensures.into_iter_gives in
    let done = YieldsList-end (YieldsList-from_vec paths.items gives.0 (gives.1 ∙ paths.ok.0)) c.loop-path.yielded c.loop-path.path-iterator c.loop-path.yielded_by _ c.next.new.self c.in-None.is c.next.ensures.steps in
    let all : c.loop-path.yielded ≡ paths.items = sym (map-id c.loop-path.yielded) ∙ done.0 in
    let before = c.loop-path.invariant.1 machine shows in
    let reported : Reading = record { seen = c.args.self.now.seen; loaded = record { files = c.args.self.now.loaded.files; faults = c.push_lost.new.faults } } in
    drop_ins_read machine search_path names paths.items c.in_ok-paths.field-0.unread.items c.args.self.now reported c.loop-path.self
    (c.in_ok-paths.ensures.known machine search_path before is ∙ ap (drop_ins machine search_path Timer) found)
    (c.in_ok-paths.ensures.unread machine search_path before is ∙ ap (unread_folders machine search_path Timer) found)
    refl refl c.in_ok-push_lost.ensures.lost
    (subst (λ paths. AreReadAlso machine (map string_bytes paths) (flat_map (lost_drop_in machine) (map string_bytes paths)) reported c.loop-path.self) all
    (c.loop-path.invariant.2 machine shows))
