use Rattle.std.proofs.Common.{◌∙◌, ◌++◌, ap, append_assoc, sym}
use Rattle.std.specs.Prelude.{codes}
use Rattle.std.proofs.lemmas.Result.{IfOk-weaker}
use Rattle.cal_load.specs.rules.AllTargets.{before_slash}
use Rattle.cal_load.proofs.paths.path_in.Goals as goal

pub returns : goal.returns
returns c =
    IfOk-weaker c.format.result _ _ (λ path is.
    is
    ∙ ap (λ folder. folder ++ (codes "/" ++ c.args.name.now)) c.before_slash-folder.ensures
    ∙ sym (append_assoc (before_slash c.args.folder.now) (codes "/") c.args.name.now)) c.format.ensures.ok
