-- Columns of texts. Widths are in characters.
use Rattle.std.specs.Prelude.{ℕ, ◌-◌, nat_le, max, List, [], ◌∷◌, ◌++◌, length, replicate, take, if◌then◌else◌}
use Rattle.std.specs.Char.{encode_utf8}
use Rattle.std.specs.List.{flat_map}
use Rattle.std.specs.Str.{chars}

-- `count` spaces
abbrev pub blanks : ℕ → List ℕ
blanks count = replicate count 32

-- the number of characters in a text
abbrev pub text_width : List ℕ → ℕ
text_width text = length (chars text)

-- a text, and spaces to fill up a column of this width
abbrev pub padded : ℕ → List ℕ → List ℕ
padded width text = text ++ blanks (width - text_width text)

-- the greatest width in a list, or 0 if the list is empty
abbrev pub widest : {X : Type 0} → (X → ℕ) → List X → ℕ
widest width [] = 0
widest width (x ∷ xs) = max (width x) (widest width xs)

-- the text, cut to this width: if it is longer, its first `width - 1` characters and `…`
abbrev pub cut : ℕ → List ℕ → List ℕ
cut width text =
    if nat_le (text_width text) width then text
    else flat_map encode_utf8 (take (width - 1) (chars text)) ++ encode_utf8 8230
