-- How contracts see a list of references to texts.
use Rattle.std.specs.Prelude.{ℕ, List, map}
use Rattle.std.specs.Borrow.{Bor}
use Rattle.clap.specs.Words.{Text}

-- the bytes of each text
abbrev pub texts_of : List (Bor (List ℕ)) → List Text
texts_of = map (λ text. text.now)
