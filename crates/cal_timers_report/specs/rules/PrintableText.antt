-- Texts as they are printed: without control characters.
use Rattle.std.specs.Prelude.{ℕ, ◌/◌, ◌%◌, List, [], ◌∷◌, cond, false, if◌then◌else◌}
use Rattle.std.specs.List.{flat_map, sum_by}
use Rattle.std.specs.Char.{encode_utf8, is_control}
use Rattle.std.specs.Str.{chars}
use Rattle.std.specs.Fmt.{digit_glyph}

-- a backslash, an `x`, and the two hexadecimal digits of the code of a control character
abbrev pub code_text : ℕ → List ℕ
code_text code = 92 ∷ 120 ∷ digit_glyph false (code / 16) ∷ digit_glyph false (code % 16) ∷ []

-- a character as it is printed: a control character as its code, and any other character unchanged
abbrev pub printable_char : ℕ → List ℕ
printable_char sign = cond (is_control sign) (code_text sign) (encode_utf8 sign)

-- a text as it is printed
abbrev pub printable_text : List ℕ → List ℕ
printable_text text = flat_map printable_char (chars text)

-- the number of characters that are printed for a character
abbrev pub char_width : ℕ → ℕ
char_width sign = if is_control sign then 4 else 1

-- the number of characters that are printed for a text
unfoldable pub shown_width : List ℕ → ℕ
shown_width text = sum_by char_width (chars text)
