use Rattle.std.proofs.Common.{◌∙◌, ap, map, string_bytes}
use Rattle.std.proofs.lemmas.Result.{IfOk-weaker}
use Rattle.cal_unit_index.specs.rules.SearchPath.{each_once, paths_in, texts}
use Rattle.cal_unit_index.proofs.SearchPathLemmas.{directories_are, now_or}
use Rattle.cal_unit_index.proofs.search_path.path_in.Goals as goal

pub returns : goal.returns
returns c =
    let folders =
    directories_are c.args.variables.now c.args.config_home.now c.args.data_home.now (texts c.as_slice.result.now) (texts c.as_slice-2.result.now) (texts c.as_slice-3.result.now)
    (ap texts c.as_slice.ensures.value ∙ c.in_ok-runtime_dirs.ensures)
    (ap texts c.as_slice-2.ensures.value ∙ c.in_ok-config_dirs.ensures ∙ ap paths_in (ap (λ text. text.now) c.unwrap_or.ensures ∙ now_or c.args.variables.now.config_dirs _))
    (ap texts c.as_slice-3.ensures.value ∙ c.in_ok-data_dirs.ensures ∙ ap paths_in (ap (λ text. text.now) c.unwrap_or-2.ensures ∙ now_or c.args.variables.now.data_dirs _)) in
    let all = ap texts c.as_slice-5.ensures.value ∙ c.in_ok-folders-2.ensures ∙ ap (map string_bytes) c.as_slice-4.ensures.value ∙ c.in_ok-folders.ensures in
    IfOk-weaker c.each_once.result _ _ (λ search_path h. h ∙ ap each_once (all ∙ folders)) c.each_once.ensures
