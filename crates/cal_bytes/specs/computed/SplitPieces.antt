-- The pieces into which separators divide a text, for loops that take one piece at a time.
use Rattle.std.specs.Prelude.{ℕ, ◌+◌, Bool, List, [], length, Option, None, Some}
use Rattle.std.specs.List.{slice_split}

-- the pieces of the text after a separator, or no pieces if no separator was found (`None`)
abbrev pub pieces_after : (ℕ → Bool) → Option (List ℕ) → List (List ℕ)
pieces_after p None = []
pieces_after p (Some text) = slice_split p text

-- the length of the text after a separator plus 1 for the separator, or 0 if no separator was found (`None`); this
-- number decreases with each piece
abbrev pub left : Option (List ℕ) → ℕ
left None = 0
left (Some text) = length text + 1
