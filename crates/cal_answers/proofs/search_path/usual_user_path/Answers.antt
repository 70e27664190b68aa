use Rattle.std.proofs.Common.{◌∙◌, ap, sym}
use Rattle.std.proofs.lemmas.Result.{IfOk-weaker}
use Rattle.cal_unit_index.specs.rules.SearchPath.{user_path}
use Rattle.cal_answers.proofs.MachinePathLemmas.{variables_are}
use Rattle.cal_answers.proofs.search_path.usual_user_path.Goals as goal

pub returns-clause-known : goal.returns-clause-known
returns-clause-known g c = IfOk-weaker c.user_path.result _ _ (λ search_path is machine shows.
    let fifth = c.in_ok-runtime_dir.ensures.grows machine shows in
    let fourth = c.in_ok-data_dirs.ensures.grows machine fifth in
    let third = c.in_ok-data_home.ensures.grows machine fourth in
    let second = c.in_ok-config_dirs.ensures.grows machine third in
    let first = c.in_ok-config_home.ensures.grows machine second in
    ap user_path (variables_are machine _
    (c.in_ok-home.ensures.known machine first ∙ sym c.as_deref.ensures.value)
    (c.in_ok-config_home.ensures.known machine second ∙ sym c.as_deref-2.ensures.value)
    (c.in_ok-config_dirs.ensures.known machine third ∙ sym c.as_deref-3.ensures.value)
    (c.in_ok-data_home.ensures.known machine fourth ∙ sym c.as_deref-4.ensures.value)
    (c.in_ok-data_dirs.ensures.known machine fifth ∙ sym c.as_deref-5.ensures.value)
    (c.in_ok-runtime_dir.ensures.known machine shows ∙ sym c.as_deref-6.ensures.value))
    ∙ sym is) c.user_path.ensures
