-- Which bytes one call of a source or a sink reads or writes, and how much of a text has been written after one or more
-- calls.
use Rattle.std.specs.Prelude.{◌≡◌, ℕ, ◌<◌, ◌≤◌, List, ◌++◌, length, take, Option, None, Some, Result, Ok, Err}
use Rattle.std.specs.Io.KnownBytes.{Keeps, Appends, Consumes, IsAtEnd}

-- What `offer` does with a piece: if it returns `None`, nothing was written; if it returns `Some n`, the first n bytes
-- of the piece were written, and n is at least 1 unless the piece is empty.
abbrev pub Offered : Option (List ℕ) → Option (List ℕ) → List ℕ → Option ℕ → Type 0
Offered old new piece None = Keeps old new
Offered old new piece (Some n) = (n ≤ length piece) × (0 < length piece → 0 < n) × Appends old new (take n piece)

-- What `fetch` does with a buffer: if it returns `None`, nothing was read; if it returns `Some n`, the next n bytes are
-- at the start of the buffer, and n is 0 only at the end of the source or if the buffer is empty.
abbrev pub Fetched : Option (List ℕ) → Option (List ℕ) → List ℕ → Option ℕ → Type 0
Fetched old new into None = Keeps old new
Fetched old new into (Some n) = (n ≤ length into) × (n ≡ 0 → 0 < length into → IsAtEnd new) × Consumes old new (take n into)

-- A prefix of the text was written, and nothing else.
pub record AppendsFront (old new : Option (List ℕ)) (text : List ℕ) : Type 0 where
  pub front : List ℕ
  pub rest : List ℕ
  pub whole : text ≡ front ++ rest
  pub written : Appends old new front

-- A call that writes a text has written all of it if it succeeded, and a prefix of it if it failed.
abbrev pub Writes : {T E : Type 0} → Option (List ℕ) → Option (List ℕ) → Result T E → List ℕ → Type 0
Writes old new (Ok x) text = Appends old new text
Writes old new (Err e) text = AppendsFront old new text

-- The text consists of a prefix that was written and of `rest`, which is still to be written.
pub record Leaves (old new : Option (List ℕ)) (rest text : List ℕ) : Type 0 where
  pub front : List ℕ
  pub whole : text ≡ front ++ rest
  pub written : Appends old new front
