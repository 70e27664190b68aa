use Rattle.std.proofs.Common.{◌∙◌, sym}
use Rattle.std.proofs.lemmas.Result.{on_ok_weaker}
use Rattle.cal_load.proofs.UnitLemmas.{file_sought, folder_sought, more_as}
use Rattle.cal_load.proofs.timers.load_path.Goals as goal

pub returns-then-branch-clause-more : goal.returns-then-branch-clause-more
returns-then-branch-clause-more g c =
    on_ok_weaker c.load_folder.result (λ more.
    more_as _ _ _ _ c.args.loaded.now c.load_folder.new.loaded (λ machine search_path shows. shows)
    (λ machine search_path shows. folder_sought machine c.args.target.now (sym (c.in_ok-is_folder.ensures.known machine (c.load_folder.ensures.grows machine shows)) ∙ c.if-branch.true)) more) c.load_folder.ensures.more

pub returns-clause-more : goal.returns-clause-more
returns-clause-more g c =
    on_ok_weaker c.load_file.result (λ more.
    more_as _ _ _ _ c.args.loaded.now c.load_file.new.loaded (λ machine search_path shows. shows)
    (λ machine search_path shows. file_sought machine c.args.target.now (sym (c.in_ok-is_folder.ensures.known machine (c.load_file.ensures.grows machine shows)) ∙ c.if-branch.false)) more) c.load_file.ensures.more
