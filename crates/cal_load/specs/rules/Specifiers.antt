-- Specifiers in the values of a timer's files, and what systemd 252 fills in for them: systemd.unit(5), Specifiers.
-- Only the timer's own name is known here.
use Rattle.std.specs.Prelude.{ℕ, ◌+◌, ◌*◌, ◌==◌, nat_lt, Bool, false, ◌&&◌, ◌||◌, if◌then◌else◌, List, [], ◌∷◌, ◌++◌, codes, map, string_bytes}
use Rattle.std.specs.Char.{digit_value}
use Rattle.std.specs.List.{after_last, list_any, slice_split}
use Rattle.std.specs.Map.{lookup}
use Rattle.std.specs.Option.{unwrap_or}
use Rattle.std.specs.Str.{bytes_eq, is_utf8}
use Rattle.cal_unit_index.specs.rules.UnitName.{instance_of, is_letter_or_digit, is_template, stem_base, without_suffix}
use Rattle.cal_load.specs.declared.specifiers.Draft.{Draft}
use Rattle.cal_load.specs.declared.specifiers.Filled.{Filled}
use Rattle.cal_load.specs.declared.specifiers.Filled.TheVariants as filled
use Rattle.cal_load.specs.declared.specifiers.Part.{Part}
use Rattle.cal_load.specs.declared.specifiers.Part.TheVariants.{Byte, Specifier}
use Rattle.cal_load.specs.declared.specifiers.State.{State}
use Rattle.cal_load.specs.declared.specifiers.State.TheVariants as states

-- What a value, or a part of it, stands for: this text; a text that depends on more than the timer's name, such as the
-- machine's host name; or nothing, because systemd ignores an assignment with this value.
pub data Filling : Type 0 where
  Text : (bytes : List ℕ) → Filling
  Unclear : Filling
  Invalid : Filling

-- what two parts stand for together
abbrev pub joined : Filling → Filling → Filling
joined (Text first) (Text second) = Text (first ++ second)
joined (Text first) Unclear = Unclear
joined (Text first) Invalid = Invalid
joined Unclear (Text second) = Unclear
joined Unclear Unclear = Unclear
joined Unclear Invalid = Invalid
joined Invalid second = Invalid

-- what several parts stand for together
abbrev pub all_joined : List Filling → Filling
all_joined [] = Text []
all_joined (first ∷ others) = joined first (all_joined others)

-- ## Unescaping (systemd.unit(5), String Escaping for Inclusion in Unit Names)

abbrev pub is_dash : ℕ → Bool
is_dash b = b == 45

abbrev pub is_backslash : ℕ → Bool
is_backslash b = b == 92

abbrev pub slash_for_dash : ℕ → ℕ
slash_for_dash b = if is_dash b then 47 else b

-- a text without backslashes, unescaped: each dash stands for a slash
abbrev pub slashed : List ℕ → List ℕ
slashed text = map slash_for_dash text

abbrev pub is_hex : ℕ → Bool
is_hex b = nat_lt (digit_value b) 16

-- the value of two hexadecimal digits
abbrev pub hex_value : ℕ → ℕ → ℕ
hex_value high low = digit_value high * 16 + digit_value low

-- whether these three bytes are an `x` and two hexadecimal digits that aren't both 0; systemd 252 accepts `\x00`, too,
-- but drops the rest of the escaped text
abbrev pub is_escape : ℕ → ℕ → ℕ → Bool
is_escape x high low = (x == 120) && ((is_hex high && is_hex low) && nat_lt 0 (hex_value high low))

-- what a backslash and the text after it, up to the next backslash, stand for: `\x` and two hexadecimal digits stand
-- for a byte, and no other escapes are valid; the argument is the text without the backslash
abbrev pub after_backslash : List ℕ → Filling
after_backslash [] = Invalid
after_backslash (x ∷ []) = Invalid
after_backslash (x ∷ high ∷ []) = Invalid
after_backslash (x ∷ high ∷ low ∷ text) =
    if is_escape x high low then Text (hex_value high low ∷ slashed text) else Invalid

-- what an escaped text stands for, given the pieces between its backslashes
abbrev pub unescaped_pieces : List (List ℕ) → Filling
unescaped_pieces [] = Text []
unescaped_pieces (first ∷ others) = joined (Text (slashed first)) (all_joined (map after_backslash others))

-- what an escaped text stands for
unfoldable pub unescaped : List ℕ → Filling
unescaped text = unescaped_pieces (slice_split is_backslash text)

-- ## Specifiers

-- the prefix of a name: the part before its first `@`, or, if it has no `@`, all of it but its suffix
abbrev pub prefix_in : List ℕ → List ℕ
prefix_in name = stem_base (without_suffix name)

-- the part of a name between its first `@` and its suffix, which is empty if it has no `@`
abbrev pub instance_in : List ℕ → List ℕ
instance_in name = instance_of (without_suffix name)

-- the final component of a name's prefix: the part after its last dash, or all of the prefix if it has no dash
abbrev pub last_component_in : List ℕ → List ℕ
last_component_in name = after_last is_dash (prefix_in name)

-- whether the specifier with this letter depends on the running system, on the user, or on where the timer's files are
unfoldable pub is_of_system : ℕ → Bool
is_of_system letter = list_any (λ other. other == letter) (codes "aAbBcCdEfgGhHlLmMoqrRsStTuUvVwWyY")

-- whether the specifier with this letter depends on the instance, and not only on the prefix of the name
unfoldable pub is_of_instance : ℕ → Bool
is_of_instance letter = list_any (λ other. other == letter) (codes "iInN")

-- whether the specifier with this letter depends on more than the timer's name; if this is the name of a template, its
-- instances aren't known
abbrev pub is_unclear : List ℕ → ℕ → Bool
is_unclear name letter = is_of_system letter || (is_template (without_suffix name) && is_of_instance letter)

-- `%%`, and the specifiers that stand for the timer's name or a part of it, by their letters, with what they stand for
abbrev pub known_specifiers : List ℕ → List (List ℕ × Filling)
known_specifiers name =
    (codes "n", Text name)
    ∷ (codes "N", Text (without_suffix name))
    ∷ (codes "p", Text (prefix_in name))
    ∷ (codes "P", unescaped (prefix_in name))
    ∷ (codes "i", Text (instance_in name))
    ∷ (codes "I", unescaped (instance_in name))
    ∷ (codes "j", Text (last_component_in name))
    ∷ (codes "J", unescaped (last_component_in name))
    ∷ (codes "%", Text (codes "%"))
    ∷ []

-- what the specifier with this letter stands for if it is in `known_specifiers`; any other specifier is invalid
abbrev pub known_in : List ℕ → ℕ → Filling
known_in name letter = unwrap_or (lookup (bytes_eq (letter ∷ [])) (known_specifiers name)) Invalid

-- what the specifier with this letter stands for in the files of a timer with this name; a specifier that doesn't exist
-- is invalid
abbrev pub specified : List ℕ → ℕ → Filling
specified name letter = if is_unclear name letter then Unclear else known_in name letter

-- ## Values

abbrev pub is_percent : ℕ → Bool
is_percent b = b == 37

-- whether this byte forms a specifier with a `%` before it: a letter, a digit or another `%`
abbrev pub ends_specifier : ℕ → Bool
ends_specifier b = is_letter_or_digit b || is_percent b

-- the parts of a value: its specifiers, and each of its other bytes
abbrev pub parts_of : List ℕ → List Part
parts_of [] = []
parts_of (b ∷ []) = Byte b ∷ []
parts_of (b ∷ letter ∷ bytes) =
    if is_percent b && ends_specifier letter then Specifier letter ∷ parts_of bytes else Byte b ∷ parts_of (letter ∷ bytes)

-- what a part of a value stands for in the files of a timer with this name
abbrev pub filling_of : List ℕ → Part → Filling
filling_of name (Byte b) = Text (b ∷ [])
filling_of name (Specifier letter) = specified name letter

-- what a value stands for, or `Invalid` if it would stand for a text that isn't UTF-8
abbrev pub checked : Filling → Filling
checked (Text bytes) = if is_utf8 bytes then Text bytes else Invalid
checked Unclear = Unclear
checked Invalid = Invalid

-- what a value in the files of the timer with this name stands for
abbrev pub filled_of : List ℕ → List ℕ → Filling
filled_of name value = checked (all_joined (map (filling_of name) (parts_of value)))

-- ## Values of `Unit=`

-- whether the specifier with this letter is one that systemd 252 knows elsewhere, but not in `Unit=`
unfoldable pub is_unknown_in_unit : ℕ → Bool
is_unknown_in_unit letter = list_any (λ other. other == letter) (codes "cCdEfhIJLPrRsStTVyY")

-- whether a part of a value is a specifier that systemd doesn't know in `Unit=`
abbrev pub is_strange_part : Part → Bool
is_strange_part (Byte b) = false
is_strange_part (Specifier letter) = is_unknown_in_unit letter

-- what a value of `Unit=` in the files of the timer with this name stands for
abbrev pub unit_filled_of : List ℕ → List ℕ → Filling
unit_filled_of name value = if list_any is_strange_part (parts_of value) then Invalid else filled_of name value

-- ## Results of functions

abbrev pub shown_filled : Filled → Filling
shown_filled (filled.Text text) = Text (string_bytes text)
shown_filled filled.Unclear = Unclear
shown_filled filled.Invalid = Invalid

abbrev pub shown_state : State → List ℕ → Filling
shown_state states.Text bytes = Text bytes
shown_state states.Unclear bytes = Unclear
shown_state states.Invalid bytes = Invalid

abbrev pub shown_draft : Draft → Filling
shown_draft draft = shown_state draft.state draft.bytes.items
