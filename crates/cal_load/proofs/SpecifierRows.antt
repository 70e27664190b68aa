-- Examples of values with specifiers, and of what systemd 252 fills in (systemd.unit(5), Specifiers).
use Rattle.std.proofs.Common.{◌≡◌, ℕ, List, [], ◌∷◌, codes, map, refl}
use Rattle.std.specs.Str.{chars, is_utf8}
use lib.Utf8.{encode}
use Rattle.cal_unit_index.specs.rules.UnitName.{instance_of, unit_kind_of, without_suffix}
use Rattle.cal_load.specs.rules.Specifiers.{Filling, filled_of, is_of_instance, is_of_system, unescaped}
use Rattle.cal_load.specs.rules.Specifiers.Filling.{Text, Unclear, Invalid}

-- what these values stand for in the files of the timer with this name
filled_in : List ℕ → List (List ℕ) → List Filling
filled_in name values = map (filled_of name) values

-- the parts of the name of an instance
instance : filled_in (codes "backup@weekly.timer") (codes "%i" ∷ codes "%p" ∷ codes "%N" ∷ codes "%n" ∷ [])
    ≡ Text (codes "weekly") ∷ Text (codes "backup") ∷ Text (codes "backup@weekly") ∷ Text (codes "backup@weekly.timer") ∷ []
unfolding filled_in without_suffix instance_of unit_kind_of unescaped is_of_system is_of_instance is_utf8 chars encode
instance = refl

-- the parts of a plain name, which has no instance
plain : filled_in (codes "x.timer") (codes "%n" ∷ codes "%N" ∷ codes "%p" ∷ codes "%i" ∷ codes "%I" ∷ [])
    ≡ Text (codes "x.timer") ∷ Text (codes "x") ∷ Text (codes "x") ∷ Text [] ∷ Text [] ∷ []
unfolding filled_in without_suffix instance_of unit_kind_of unescaped is_of_system is_of_instance is_utf8 chars encode
plain = refl

-- `\x3a` in a name stands for a colon
escape : filled_in (codes "t@10\\x3a00.timer") (codes "Mon %I" ∷ codes "Mon %i" ∷ [])
    ≡ Text (codes "Mon 10:00") ∷ Text (codes "Mon 10\\x3a00") ∷ []
unfolding filled_in without_suffix instance_of unit_kind_of unescaped is_of_system is_of_instance is_utf8 chars encode
escape = refl

-- a dash in a name stands for a slash
dash : filled_in (codes "a-b.timer") (codes "%P" ∷ codes "%p" ∷ [])
    ≡ Text (codes "a/b") ∷ Text (codes "a-b") ∷ []
unfolding filled_in without_suffix instance_of unit_kind_of unescaped is_of_system is_of_instance is_utf8 chars encode
dash = refl

-- `%j` and `%J` stand for the part of the prefix after the last dash
last_component : filled_in (codes "foo-bar.timer") (codes "%j" ∷ codes "%J" ∷ [])
    ≡ Text (codes "bar") ∷ Text (codes "bar") ∷ []
unfolding filled_in without_suffix instance_of unit_kind_of unescaped is_of_system is_of_instance is_utf8 chars encode
last_component = refl

-- dashes in the instance are not part of the prefix
last_component_of_instance : filled_in (codes "a-b-c\\x2dd@e-f.timer") (codes "%j" ∷ codes "%J" ∷ codes "%i" ∷ codes "%I" ∷ [])
    ≡ Text (codes "c\\x2dd") ∷ Text (codes "c-d") ∷ Text (codes "e-f") ∷ Text (codes "e/f") ∷ []
unfolding filled_in without_suffix instance_of unit_kind_of unescaped is_of_system is_of_instance is_utf8 chars encode
last_component_of_instance = refl

-- the instance begins after the first `@`
at_signs : filled_in (codes "a@b@c.timer") (codes "%p" ∷ codes "%i" ∷ [])
    ≡ Text (codes "a") ∷ Text (codes "b@c") ∷ []
unfolding filled_in without_suffix instance_of unit_kind_of unescaped is_of_system is_of_instance is_utf8 chars encode
at_signs = refl

-- `%%` stands for `%`, and bytes that aren't part of a specifier stand for themselves
percent : filled_in (codes "x.timer") ([] ∷ codes "daily" ∷ codes "%%" ∷ codes "%" ∷ codes "5%" ∷ codes "%%n" ∷ codes "%%%n" ∷ codes "10:%-" ∷ codes "% n" ∷ [])
    ≡ Text [] ∷ Text (codes "daily") ∷ Text (codes "%") ∷ Text (codes "%") ∷ Text (codes "5%") ∷ Text (codes "%n") ∷ Text (codes "%x.timer") ∷ Text (codes "10:%-") ∷ Text (codes "% n") ∷ []
unfolding filled_in without_suffix instance_of unit_kind_of unescaped is_of_system is_of_instance is_utf8 chars encode
percent = refl

-- a specifier that doesn't exist makes a value invalid, even if other specifiers in it are unclear
unknown : filled_in (codes "x.timer") (codes "%Z" ∷ codes "%9" ∷ codes "%H%Z" ∷ codes "%Z%H" ∷ [])
    ≡ Invalid ∷ Invalid ∷ Invalid ∷ Invalid ∷ []
unfolding filled_in without_suffix instance_of unit_kind_of unescaped is_of_system is_of_instance is_utf8 chars encode
unknown = refl

-- specifiers that depend on more than the timer's name are unclear
unclear : filled_in (codes "x.timer") (codes "%H" ∷ codes "Mon %f %n" ∷ [])
    ≡ Unclear ∷ Unclear ∷ []
unfolding filled_in without_suffix instance_of unit_kind_of unescaped is_of_system is_of_instance is_utf8 chars encode
unclear = refl

-- the instances of a template aren't known, but its prefix is
template : filled_in (codes "x@.timer") (codes "%i" ∷ codes "%I" ∷ codes "%n" ∷ codes "%N" ∷ codes "%p" ∷ codes "%j" ∷ codes "%Z" ∷ [])
    ≡ Unclear ∷ Unclear ∷ Unclear ∷ Unclear ∷ Text (codes "x") ∷ Text (codes "x") ∷ Invalid ∷ []
unfolding filled_in without_suffix instance_of unit_kind_of unescaped is_of_system is_of_instance is_utf8 chars encode
template = refl

-- a part of the name that can't be unescaped makes `%I` invalid, but not `%i`
bad_escapes : filled_in (codes "t@a\\b.timer") (codes "%I" ∷ codes "%i" ∷ [])
    ≡ Invalid ∷ Text (codes "a\\b") ∷ []
unfolding filled_in without_suffix instance_of unit_kind_of unescaped is_of_system is_of_instance is_utf8 chars encode
bad_escapes = refl

-- an escape is `\x` and two hexadecimal digits in either case, which aren't both 0
escapes : map (λ name. filled_of name (codes "%I")) (codes "t@a\\x4a\\x4A.timer" ∷ codes "t@\\x4.timer" ∷ codes "t@\\x4g.timer" ∷ codes "t@\\X41.timer" ∷ codes "t@\\x00.timer" ∷ codes "t@\\.timer" ∷ [])
    ≡ Text (codes "aJJ") ∷ Invalid ∷ Invalid ∷ Invalid ∷ Invalid ∷ Invalid ∷ []
unfolding filled_in without_suffix instance_of unit_kind_of unescaped is_of_system is_of_instance is_utf8 chars encode
escapes = refl

-- a byte that isn't UTF-8 by itself is invalid, but two bytes can be UTF-8 together
not_utf8 : map (λ name. filled_of name (codes "%I")) (codes "t@\\xc3.timer" ∷ codes "t@\\xc3\\xa9.timer" ∷ [])
    ≡ Invalid ∷ Text (195 ∷ 169 ∷ []) ∷ []
unfolding filled_in without_suffix instance_of unit_kind_of unescaped is_of_system is_of_instance is_utf8 chars encode
not_utf8 = refl
