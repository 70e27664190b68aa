use Rattle.std.proofs.lemmas.Result.{IfOk-weaker, on_ok_weaker}
use Rattle.cal_load.proofs.TimerLemmas.{timers_more}
use Rattle.cal_unit_index.specs.rules.Index.{IsIndexOf}
use Rattle.std.proofs.Common.{◌∙◌, refl, sym}
use Rattle.cal_load.specs.rules.AllTargets.Sought.{NamedUnit}
use Rattle.cal_load.proofs.UnitLemmas.{more_as, name_sought, path_sought, pushed_more}
use Rattle.cal_load.proofs.timers.load_target.Goals as goal

pub returns-clause-known : goal.returns-clause-known
returns-clause-known g c =
    on_ok_weaker c.push_found.result (λ pushed machine search_path shows is held.
    timers_more machine search_path c.read_named-found.result c.args.loaded.now.timers.items c.push_found.new.loaded.timers.items
    (IfOk-weaker c.read_named-found.result _ _ (λ found known. known machine search_path shows is) c.read_named-found.ensures.known) pushed.timers held) c.push_found.ensures

pub returns-then-is_path-clause-known : goal.returns-then-is_path-clause-known
returns-then-is_path-clause-known g c =
    on_ok_weaker c.load_path.result (λ known machine search_path shows is held. known machine search_path shows held) c.load_path.ensures.known

pub returns-then-is_path-clause-more : goal.returns-then-is_path-clause-more
returns-then-is_path-clause-more g c =
    on_ok_weaker c.load_path.result (λ more.
    more_as _ _ _ _ c.args.loaded.now c.load_path.new.loaded (λ machine search_path knows. knows.0)
    (λ machine search_path knows. path_sought machine c.args.target.now _ (sym c.is_path.ensures ∙ c.if-is_path.true) c.without_slashes.ensures) more) c.load_path.ensures.more

pub returns-clause-more : goal.returns-clause-more
returns-clause-more g c =
    on_ok_weaker c.push_found.result (λ pushed.
    more_as _ _ _ _ c.args.loaded.now c.push_found.new.loaded (λ machine search_path knows. knows)
    (λ machine search_path knows. name_sought machine c.args.target.now (sym c.is_path.ensures ∙ c.if-is_path.false))
    (pushed_more (λ machine search_path. g.T.Tree.shows c.read_named-found.new.tree machine × IsIndexOf machine search_path c.args.index.now) (NamedUnit c.args.target.now) c.args.target.now c.args.loaded.now c.push_found.new.loaded c.read_named-found.result refl pushed
    (λ machine search_path knows. c.read_named-found.ensures.found machine search_path knows.0 knows.1))) c.push_found.ensures
