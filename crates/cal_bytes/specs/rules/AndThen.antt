-- Sequencing of steps that can fail.
use Rattle.std.specs.Prelude.{Result, Ok, Err}

-- applies the next step to the value of an `Ok`, and returns an `Err` unchanged
infixl 10 ◌>>=◌
abbrev pub ◌>>=◌ : {A B E : Type 0} → Result A E → (A → Result B E) → Result B E
(Ok x) >>= f = f x
(Err e) >>= f = Err e
