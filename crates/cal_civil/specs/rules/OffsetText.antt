-- How a UTC offset is printed, as in `+02:00`.
use Rattle.std.specs.Prelude.{ℕ, ◌-◌, ◌/◌, ◌%◌, ◌==◌, if◌then◌else◌, ℤ, pos, int_lt, unsigned_abs, List, [], ◌∷◌, ◌++◌, length, codes, decimal, replicate}
use Rattle.cal_bytes.specs.rules.Bytes.{joined}

-- the zeros that are printed before `n` so that it has at least `width` digits
abbrev pub zeros : ℕ → ℕ → List ℕ
zeros width n = replicate (width - length (decimal n)) 48

-- `-` for a clock that is behind UTC, and otherwise `+`
abbrev pub sign_text : ℤ → List ℕ
sign_text offset = if int_lt offset (pos 0) then codes "-" else codes "+"

-- the pieces that are joined into a text such as `+02:00`: sign, hours, colon and minutes
abbrev pub minutes_pieces : ℤ → List (List ℕ)
minutes_pieces offset =
    let ahead = unsigned_abs offset in
    sign_text offset ∷ zeros 2 (ahead / 3_600) ∷ decimal (ahead / 3_600) ∷ codes ":" ∷ zeros 2 (ahead / 60 % 60) ∷ decimal (ahead / 60 % 60) ∷ []

-- the text of a UTC offset that is given in seconds: `+02:00`, or `+00:53:28` if it isn't a whole number of minutes
unfoldable pub offset_text : ℤ → List ℕ
offset_text offset =
    let second = unsigned_abs offset % 60 in
    if second == 0 then joined (minutes_pieces offset)
    else joined (minutes_pieces offset ++ (codes ":" ∷ zeros 2 second ∷ decimal second ∷ []))
