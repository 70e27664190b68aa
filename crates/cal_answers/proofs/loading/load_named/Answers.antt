use Rattle.std.proofs.Common.{ap, map, subst, ◌∙◌}
use Rattle.cal_unit_index.specs.rules.Index.{IsIndexOf}
use Rattle.cal_answers.specs.rules.Found.{HasAllFor}
use Rattle.cal_answers.proofs.FoundLemmas.{all_for}
use Rattle.cal_answers.proofs.loading.load_named.Goals as goal

pub returns-clause-known : goal.returns-clause-known
returns-clause-known g c = c.in_ok-loaded.ensures.known

pub returns-clause-whole : goal.returns-clause-whole
returns-clause-whole g c =
    let found = c.in_ok-loaded.ensures in
    subst (λ texts. HasAllFor (λ machine search_path. g.T.Tree.shows c.load_timers.new.tree machine × IsIndexOf machine search_path c.args.index.now) c.args.is_all texts c.in_ok-loaded.loaded)
    (ap (map (λ text. text.now)) c.as_slice.ensures.value ∙ c.in_ok-texts.ensures)
    (all_for _ _ c.args.is_all c.as_slice.result.now _ found.whole found.started found.targets)
