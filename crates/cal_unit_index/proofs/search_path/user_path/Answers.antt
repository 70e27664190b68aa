use Rattle.std.proofs.Common.{◌∙◌, ap, ap₂, map, string_bytes, sym, option_map}
use Rattle.cal_unit_index.specs.rules.SearchPath.{directories_of, each_once, shown_variables, user_folders}
use Rattle.cal_unit_index.proofs.SearchPathLemmas.{user_path_is}
use Rattle.cal_unit_index.proofs.search_path.user_path.Goals as goal

pub returns : goal.returns
returns c =
    user_path_is (shown_variables c.args.variables.now) (string_bytes c.in-Some.config_home) (string_bytes c.in-Some-2.data_home) (map string_bytes c.in_ok-search_path.search_path.items)
    (sym (ap (option_map string_bytes) c.in-Some.is) ∙ c.in_ok-config_home.ensures)
    (sym (ap (option_map string_bytes) c.in-Some-2.is) ∙ c.in_ok-data_home.ensures)
    (c.in_ok-search_path.ensures ∙ ap₂ (λ config share. each_once (user_folders (directories_of config share (shown_variables c.args.variables.now)))) c.as_str.ensures.value c.as_str-2.ensures.value)
