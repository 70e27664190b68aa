-- A text without its prefix, such as a path without the folder at its beginning.
use Rattle.std.specs.Prelude.{ℕ, nat_eq, List, Option, None, Some, drop, if◌then◌else◌, length}
use Rattle.std.specs.List.{starts_with}

-- what follows this prefix in a text, or None if the text doesn't begin with it
unfoldable pub after_prefix : List ℕ → List ℕ → Option (List ℕ)
after_prefix prefix text = if starts_with nat_eq text prefix then Some (drop (length prefix) text) else None
