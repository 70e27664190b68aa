-- Examples that check the definitions of the search path. The lists in `usual` and `unusual` are those that
-- `systemd-analyze unit-paths` of systemd 252 prints if it is run in the root folder.
use Rattle.std.proofs.Common.{◌≡◌, [], ◌∷◌, Some, None, codes, map, refl}
use Rattle.cal_unit_index.specs.rules.SearchPath.{Variables, each_once, given_path, own_directory, paths_in, plain_path, system_folders, user_path}

abbrev unset : Variables
unset = record { home = None; config_home = None; config_dirs = None; data_home = None; data_dirs = None; runtime_dir = None }

-- the search path for the variables `HOME=/h XDG_RUNTIME_DIR=/r`
usual : user_path (record unset { home = Some (codes "/h"); runtime_dir = Some (codes "/r") })
    ≡ Some
    (
    codes "/h/.config/systemd/user.control" ∷ codes "/r/systemd/user.control" ∷ codes "/r/systemd/transient" ∷ codes "/r/systemd/generator.early"
    ∷ codes "/h/.config/systemd/user" ∷ codes "/etc/xdg/systemd/user" ∷ codes "/etc/systemd/user" ∷ codes "/r/systemd/user"
    ∷ codes "/run/systemd/user" ∷ codes "/r/systemd/generator" ∷ codes "/h/.local/share/systemd/user"
    ∷ codes "/usr/local/share/systemd/user" ∷ codes "/usr/share/systemd/user" ∷ codes "/usr/local/lib/systemd/user"
    ∷ codes "/usr/lib/systemd/user" ∷ codes "/r/systemd/generator.late" ∷ []
    )
unfolding user_path own_directory each_once plain_path paths_in
usual = refl

-- the search path for the variables `XDG_CONFIG_HOME= XDG_DATA_HOME=//d/./e/ XDG_CONFIG_DIRS=/a/:b::/etc
-- XDG_DATA_DIRS=`
unusual : user_path (record unset { config_home = Some []; data_home = Some (codes "//d/./e/"); config_dirs = Some (codes "/a/:b::/etc"); data_dirs = Some [] })
    ≡ Some
    (
    codes "/systemd/user.control" ∷ codes "/systemd/user" ∷ codes "/a/systemd/user" ∷ codes "/b/systemd/user" ∷ codes "/etc/systemd/user"
    ∷ codes "/run/systemd/user" ∷ codes "/d/e/systemd/user" ∷ codes "/usr/local/lib/systemd/user" ∷ codes "/usr/local/share/systemd/user"
    ∷ codes "/usr/lib/systemd/user" ∷ codes "/usr/share/systemd/user" ∷ []
    )
unfolding user_path own_directory each_once plain_path paths_in
unusual = refl

-- there is no search path if `HOME`, which is needed for the default of `XDG_DATA_HOME`, isn't an absolute path
homeless : user_path (record unset { home = Some (codes "h"); config_home = Some (codes "/c") }) ≡ None
unfolding user_path own_directory
homeless = refl

-- the search paths for five values of `SYSTEMD_UNIT_PATH`, if `/u` and `/v` are the usual folders
given : map (λ value. given_path value (codes "/u" ∷ codes "/v" ∷ []))
    (codes "" ∷ codes ":" ∷ codes ":/a" ∷ codes "/a//b/:/:/a/b:../c" ∷ codes "/v/:" ∷ [])
    ≡ [] ∷ (codes "/u" ∷ codes "/v" ∷ []) ∷ (codes "/a" ∷ []) ∷ (codes "/a/b" ∷ codes "/" ∷ codes "/../c" ∷ [])
    ∷ (codes "/v" ∷ codes "/u" ∷ []) ∷ []
unfolding given_path each_once plain_path paths_in
given = refl

-- the system's folders are plain paths, and each is there once
system : each_once system_folders ≡ system_folders
unfolding each_once plain_path
system = refl
