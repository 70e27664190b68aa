-- Names of units in the section `Install` of a timer, and those for which `systemctl enable` fails: systemd.unit(5),
-- [Install] Section Options.
use Rattle.std.specs.Prelude.{ℕ, ◌==◌, nat_eq, Bool, not, ◌&&◌, ◌||◌, List, [], ◌∷◌, codes}
use Rattle.std.specs.List.{ends_with, list_all, list_any}
use Rattle.std.specs.Str.{bytes_eq}
use Rattle.cal_bytes.specs.rules.Separators.{words}
use Rattle.cal_unit_index.specs.rules.UnitName.{is_unit_name}
use Rattle.cal_timer.specs.rules.Assignments.{Assignment}

-- whether the values of a key are names of units
abbrev pub has_names : List ℕ → Bool
has_names key =
    list_any (bytes_eq key) (codes "WantedBy" ∷ codes "RequiredBy" ∷ codes "Alias" ∷ codes "Also" ∷ [])

-- whether systemd changes a value with this byte before it reads the names in it: a quote, or the percent sign that
-- begins a specifier
abbrev pub is_replaced : ℕ → Bool
is_replaced b = (b == 34) || (b == 39) || (b == 37)

-- whether the name can stand in the value of this key: it is the name of a unit, and for an alias, of a timer
abbrev pub is_allowed : List ℕ → List ℕ → Bool
is_allowed key name =
    is_unit_name name && (not (bytes_eq key (codes "Alias")) || ends_with nat_eq name (codes ".timer"))

-- whether the assignment has a name for which `systemctl enable` fails; a value with quotes or specifiers isn't checked
abbrev pub has_bad_name : Assignment → Bool
has_bad_name a = has_names a.key && (not (list_any is_replaced a.value) && not (list_all (is_allowed a.key) (words a.value)))
