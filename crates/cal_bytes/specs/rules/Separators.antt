-- Characters that separate the parts of an input (blanks, equals sign, comma, colon, slash and point), and the words
-- between blanks, as in the formats of systemd.time(7).
use Rattle.std.specs.Prelude.{ℕ, ◌==◌, Bool, nat_lt, ◌||◌, List, length, filter}
use Rattle.std.specs.List.{slice_split}

abbrev pub is_equals : ℕ → Bool
is_equals b = b == 61

abbrev pub is_comma : ℕ → Bool
is_comma b = b == 44

abbrev pub is_colon : ℕ → Bool
is_colon b = b == 58

abbrev pub is_slash : ℕ → Bool
is_slash b = b == 47

abbrev pub is_point : ℕ → Bool
is_point b = b == 46

-- a space or a tab
abbrev pub is_blank : ℕ → Bool
is_blank b = (b == 32) || (b == 9)

-- the nonempty pieces into which the blanks divide the text
unfoldable pub words : List ℕ → List (List ℕ)
words text = filter (λ word. nat_lt 0 (length word)) (slice_split is_blank text)
