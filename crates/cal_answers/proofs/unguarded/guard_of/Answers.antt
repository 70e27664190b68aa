use Rattle.std.proofs.Common.{◌∙◌, ◌∷◌, [], ap, string_bytes}
use Rattle.std.proofs.lemmas.Result.{IfOk-weaker}
use Rattle.cal_load.specs.rules.Service.{guard_on}
use Rattle.cal_answers.specs.rules.Unguarded.{folders_by, own_elsewhere}
use Rattle.cal_answers.proofs.unguarded.guard_of.Goals as goal

pub returns-in-Some-clause-known : goal.returns-in-Some-clause-known
returns-in-Some-clause-known g c = IfOk-weaker c.guard_in_folder.result _ _ (λ guard known machine search_path shows is.
    known machine shows
    ∙ ap (λ name. guard_on machine (c.folder_of.result.now ∷ []) c.args.is_user name c.args.stem.now) c.as_str-name.ensures.value
    ∙ ap (λ folders. guard_on machine folders c.args.is_user (string_bytes c.args.timer.now.name) c.args.stem.now)
    (ap (λ folder. folder ∷ []) c.folder_of.ensures ∙ ap (folders_by search_path) (c.in-Some.ensures machine search_path is ∙ ap (own_elsewhere search_path) c.as_slice.ensures.value))) c.guard_in_folder.ensures.known

pub returns-in-None-clause-known : goal.returns-in-None-clause-known
returns-in-None-clause-known g c = IfOk-weaker c.service_guard.result _ _ (λ guard known machine search_path shows is.
    known machine search_path shows is
    ∙ ap (λ name. guard_on machine search_path c.args.is_user name c.args.stem.now) c.as_str-name.ensures.value
    ∙ ap (λ folders. guard_on machine folders c.args.is_user (string_bytes c.args.timer.now.name) c.args.stem.now) (ap (folders_by search_path) (c.in-None.ensures machine search_path is ∙ ap (own_elsewhere search_path) c.as_slice.ensures.value))) c.service_guard.ensures.known
