use Rattle.std.proofs.Common.{ap, map, subst, ◌∙◌}
use Rattle.cal_unit_index.specs.rules.Index.{IsIndexOf}
use Rattle.cal_answers.specs.rules.Found.{AreFilesOn, AreLintedOn, HasAllLinted}
use Rattle.cal_answers.proofs.loading.load_linted.Goals as goal

pub returns-clause-known : goal.returns-clause-known
returns-clause-known g c machine search_path shows is =
    let all = c.in_ok-linted.linted in
    subst (λ texts. AreLintedOn machine search_path texts all.0 all.1 all.2)
    (ap (map (λ text. text.now)) c.as_slice.ensures.value ∙ c.in_ok-texts.ensures)
    (c.in_ok-linted.ensures.known machine search_path shows is)

pub returns-clause-whole : goal.returns-clause-whole
returns-clause-whole g c =
    subst (λ texts. HasAllLinted (λ machine search_path. g.T.Tree.shows c.load_lint_targets.new.tree machine × IsIndexOf machine search_path c.args.index.now) c.args.is_all texts c.in_ok-linted.linted.1)
    (ap (map (λ text. text.now)) c.as_slice.ensures.value ∙ c.in_ok-texts.ensures)
    c.in_ok-linted.ensures.whole

pub returns-clause-files : goal.returns-clause-files
returns-clause-files g c machine search_path shows is =
    subst (λ texts. AreFilesOn machine search_path c.args.is_all texts c.in_ok-linted.linted.0)
    (ap (map (λ text. text.now)) c.as_slice.ensures.value ∙ c.in_ok-texts.ensures)
    (c.in_ok-linted.ensures.files machine search_path shows is)
