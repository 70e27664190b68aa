-- Lemmas on the folders of a search path: whether a folder is one of them, and which variables they follow from.
use Rattle.std.proofs.Common.{◌≡◌, ℕ, Bool, List, [], ◌∷◌, Option, Some, None, codes, map, refl, ap, string_bytes}
use Rattle.std.specs.Prelude.{◌||◌, String}
use Rattle.std.specs.Borrow.{Bor}
use Rattle.std.specs.List.{list_any}
use Rattle.std.specs.Option.{option_copied, option_to_list, unwrap_or}
use Rattle.std.specs.declared.alloc.Global.{Global}
use Rattle.cal_unit_index.specs.rules.SearchPath.{Variables, directories_of, each_once, own_directory, paths_in, shown_variables, user_folders, user_path}
use Rattle.cal_unit_index.specs.declared.search_path.UserVariables.{UserVariables}

pub any_of_texts : (p : List ℕ → Bool) (texts : List (String Global)) → list_any (λ text. p (string_bytes text)) texts ≡ list_any p (map string_bytes texts)
any_of_texts p [] = refl
any_of_texts p (text ∷ texts) = ap (λ rest. p (string_bytes text) || rest) (any_of_texts p texts)

-- the bytes of a text from the environment, or of a default if there is no such text
pub now_or : (text : Option (Bor (List ℕ))) (default : Bor (List ℕ)) → (unwrap_or text default).now ≡ unwrap_or (option_copied text) default.now
now_or (Some text) default = refl
now_or None default = refl

-- if the code finds the same directories as the definition, both derive the same folders from them
pub directories_are : (variables : UserVariables) (config share : List ℕ) (runtime_dirs config_dirs data_dirs : List (List ℕ))
    → runtime_dirs ≡ option_to_list (option_copied variables.runtime_dir)
    → config_dirs ≡ paths_in (unwrap_or (option_copied variables.config_dirs) (codes "/etc/xdg"))
    → data_dirs ≡ paths_in (unwrap_or (option_copied variables.data_dirs) (codes "/usr/local/share:/usr/share"))
    → user_folders (record { config_home = config; data_home = share; runtime_dirs = runtime_dirs; config_dirs = config_dirs; data_dirs = data_dirs })
    ≡ user_folders (directories_of config share (shown_variables variables))
directories_are variables config share runtime_dirs config_dirs data_dirs e f h = rw (e, f, h) refl

pub user_path_is : (variables : Variables) (config share : List ℕ) (search_path : List (List ℕ))
    → Some config ≡ own_directory variables.config_home variables.home (codes "/.config")
    → Some share ≡ own_directory variables.data_home variables.home (codes "/.local/share")
    → search_path ≡ each_once (user_folders (directories_of config share variables)) → Some search_path ≡ user_path variables
unfolding user_path
user_path_is variables config share search_path e f h = rw (← e, ← f, h) refl

pub user_path_none : (variables : Variables) (config : List ℕ)
    → Some config ≡ own_directory variables.config_home variables.home (codes "/.config")
    → None ≡ own_directory variables.data_home variables.home (codes "/.local/share") → None ≡ user_path variables
unfolding user_path
user_path_none variables config e f = rw (← e, ← f) refl
