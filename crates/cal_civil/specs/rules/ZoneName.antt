-- The form of a zone's name: systemd.time(7), Calendar Events.
use Rattle.std.specs.Prelude.{ℕ, Bool, false, ◌&&◌, ◌||◌, ◌==◌, nat_le, List, [], ◌∷◌, length, map, codes}
use Rattle.std.specs.Char.{is_ascii_alphabetic, is_ascii_alphanumeric, to_ascii_lowercase}
use Rattle.std.specs.List.{list_all}
use Rattle.std.specs.Str.{bytes_eq}

-- whether a byte may occur in a zone's name: an ASCII letter, a digit, `/`, `_`, `+` or `-`
abbrev pub is_zone_byte : ℕ → Bool
is_zone_byte b = is_ascii_alphanumeric b || (b == 47) || (b == 95) || (b == 43) || (b == 45)

abbrev pub begins_with_letter : List ℕ → Bool
begins_with_letter [] = false
begins_with_letter (b ∷ bs) = is_ascii_alphabetic b

-- the maximum length of a zone's name, in bytes
abbrev pub most_name_bytes : ℕ
most_name_bytes = 255

-- whether `name` is an ASCII letter followed by any number of ASCII letters, digits, `/`, `_`, `+` and `-`, and is at
-- most `most_name_bytes` bytes long
unfoldable pub is_zone_name : List ℕ → Bool
is_zone_name name = begins_with_letter name && list_all is_zone_byte name && nat_le (length name) most_name_bytes

-- whether `name` is `UTC`, ignoring case
unfoldable pub is_utc_name : List ℕ → Bool
is_utc_name name = bytes_eq (map to_ascii_lowercase name) (codes "utc")
