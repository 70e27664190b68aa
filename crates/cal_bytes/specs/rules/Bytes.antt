-- How the pieces of a text are joined.
use Rattle.std.specs.Prelude.{ℕ, List}
use Rattle.std.specs.List.{flat_map}

-- The pieces, joined in order. The layouts of printed texts are defined with this function.
abbrev pub joined : List (List ℕ) → List ℕ
joined = flat_map (λ piece. piece)
