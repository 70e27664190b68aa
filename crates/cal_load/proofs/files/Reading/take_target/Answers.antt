use Rattle.std.proofs.Common.{◌∙◌, sym}
use Rattle.std.proofs.lemmas.Result.{on_ok_weaker}
use Rattle.cal_load.proofs.FileLemmas.{folder_by, named_by}
use Rattle.cal_load.proofs.files.Reading.take_target.Goals as goal

pub returns-then-not-is_path-clause-read : goal.returns-then-not-is_path-clause-read
returns-then-not-is_path-clause-read g c =
    on_ok_weaker c.take_named.result (λ read machine search_path shows is.
    named_by machine search_path c.args.target.now c.args.self.now c.take_named.new.self (sym c.is_path.ensures ∙ c.if-not-is_path.true) (read machine search_path shows is)) c.take_named.ensures.read

pub returns-then-branch-clause-read : goal.returns-then-branch-clause-read
returns-then-branch-clause-read g c =
    on_ok_weaker c.take_folder.result (λ read machine search_path shows is.
    folder_by machine search_path c.args.target.now c.without_slashes-path.result.now c.args.self.now c.take_folder.new.self
    (sym c.is_path.ensures ∙ c.if-not-is_path.false) c.without_slashes-path.ensures
    (sym (c.in_ok-is_folder.ensures.known machine (c.take_folder.ensures.grows machine shows)) ∙ c.if-branch.true) (read machine shows)) c.take_folder.ensures.read
