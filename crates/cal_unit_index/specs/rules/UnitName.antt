-- Names of units: systemd.unit(5), Description. The stem of a timer's name is the name without its suffix `.timer`.
use Rattle.std.specs.Prelude.{ℕ, ◌+◌, ◌-◌, ◌==◌, nat_eq, nat_lt, nat_le, Bool, true, false, not, ◌&&◌, ◌||◌, if◌then◌else◌, List, [], ◌∷◌, Option, None, Some, codes, drop, length, take}
use Rattle.std.specs.List.{before_first, ends_with, list_all, list_any, starts_with}
use Rattle.std.specs.Str.{bytes_eq}
use Rattle.cal_unit_index.specs.declared.unit_name.UnitKind.{UnitKind}
use Rattle.cal_unit_index.specs.declared.unit_name.UnitKind.TheVariants.{Plain, Template, Instance}

abbrev pub suffix : List ℕ
suffix = codes ".timer"

-- the name without its suffix, or the name itself if it has no suffix; systemctl(1) accepts names without a suffix,
-- too, and adds one
unfoldable pub without_suffix : List ℕ → List ℕ
without_suffix name = if ends_with nat_eq name suffix then take (length name - length suffix) name else name

abbrev pub is_at_sign : ℕ → Bool
is_at_sign b = b == 64

-- the part of a stem before its first `@`, or the whole stem if it has no `@`
abbrev pub stem_base : List ℕ → List ℕ
stem_base stem = before_first is_at_sign stem

-- if `stem` is the stem of an instance, the stem of its template, which ends with the first `@`; otherwise None
unfoldable pub template_of : List ℕ → Option (List ℕ)
template_of stem =
    if nat_lt (length (stem_base stem) + 1) (length stem) then Some (take (length (stem_base stem) + 1) stem) else None

unfoldable pub unit_kind_of : List ℕ → UnitKind
unit_kind_of stem =
    if length (stem_base stem) == length stem then Plain
    else (if length (stem_base stem) + 1 == length stem then Template else Instance)

abbrev pub is_letter_or_digit : ℕ → Bool
is_letter_or_digit b =
    (nat_le 48 b && nat_le b 57) || ((nat_le 65 b && nat_le b 90) || (nat_le 97 b && nat_le b 122))

-- a letter, a digit, or one of `:-_.\@`
abbrev pub is_name_byte : ℕ → Bool
is_name_byte b = is_letter_or_digit b || list_any (nat_eq b) (codes ":-_.\\@")

-- the maximum length of a unit's name, with its suffix
abbrev pub max_name : ℕ
max_name = 255

unfoldable pub is_stem : List ℕ → Bool
is_stem stem =
    nat_le (length stem + length suffix) max_name && (nat_lt 0 (length (stem_base stem)) && list_all is_name_byte stem)

-- the stem of the unit that a name stands for, or None if the name isn't valid
unfoldable pub unit_stem : List ℕ → Option (List ℕ)
unit_stem name = if is_stem (without_suffix name) then Some (without_suffix name) else None

-- the stem of a timer from the name of its file, or None if this isn't a valid name of a timer's file
unfoldable pub file_stem : List ℕ → Option (List ℕ)
file_stem name = if ends_with nat_eq name suffix then unit_stem name else None

-- the stem of the timer to which a file with this name in a folder of the search path can belong; hidden files are left
-- out
unfoldable pub listed_stem : List ℕ → Option (List ℕ)
listed_stem name = if starts_with nat_eq name (codes ".") then None else file_stem name

-- ## Units of any type

-- the suffixes of the names of units
abbrev pub unit_suffixes : List (List ℕ)
unit_suffixes =
    codes ".service" ∷ codes ".socket" ∷ codes ".device" ∷ codes ".mount" ∷ codes ".automount" ∷ codes ".swap"
    ∷ codes ".target" ∷ codes ".path" ∷ codes ".timer" ∷ codes ".slice" ∷ codes ".scope" ∷ []

abbrev pub is_before_suffix : List ℕ → List ℕ → Bool
is_before_suffix name suffix = nat_lt (length suffix) (length name) && ends_with nat_eq name suffix

unfoldable pub has_unit_suffix : List ℕ → Bool
has_unit_suffix name = list_any (is_before_suffix name) unit_suffixes

-- whether this is the name of a unit or of a template
unfoldable pub is_unit_name : List ℕ → Bool
is_unit_name name =
    nat_le (length name) max_name
    && (nat_lt 0 (length (stem_base name)) && (list_all is_name_byte name && has_unit_suffix name))

-- ## Templates and instances

abbrev pub is_template_kind : UnitKind → Bool
is_template_kind Plain = false
is_template_kind Template = true
is_template_kind Instance = false

abbrev pub is_template : List ℕ → Bool
is_template stem = is_template_kind (unit_kind_of stem)

-- The instance in a stem: the part after its first `@`. It is empty unless the stem is that of an instance. A
-- template's stem with an instance after it is the stem of this instance of the template.
unfoldable pub instance_of : List ℕ → List ℕ
instance_of stem = drop (length (stem_base stem) + 1) stem

-- ## Aliases

-- whether a link whose name is of the first kind can be an alias of a name of the second kind; `is_same` says whether
-- both have the same instance
abbrev pub may_be_linked : UnitKind → UnitKind → Bool → Bool
may_be_linked Plain Plain is_same = true
may_be_linked Plain Template is_same = false
may_be_linked Plain Instance is_same = false
may_be_linked Template Plain is_same = false
may_be_linked Template Template is_same = true
may_be_linked Template Instance is_same = false
may_be_linked Instance Plain is_same = false
may_be_linked Instance Template is_same = true
may_be_linked Instance Instance is_same = is_same

-- whether a link with the stem `stem` can be an alias of another timer, with the stem `other`: a plain name only of a
-- plain name, a template only of a template, and an instance only of a template or of a name with the same instance
abbrev pub may_lead : List ℕ → List ℕ → Bool
may_lead stem other =
    not (bytes_eq other stem)
    && may_be_linked (unit_kind_of stem) (unit_kind_of other) (bytes_eq (instance_of stem) (instance_of other))
