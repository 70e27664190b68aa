-- Which bytes have left a buffer after it is flushed.
use Rattle.std.specs.Prelude.{ℕ, Bool, true, false, List, Option}
use Rattle.std.specs.Io.KnownBytes.{Keeps, append_known}

-- What holds after a flush. The Boolean says whether the flush and every call before it have succeeded. If so, all
-- bytes that were written have left the buffer. Otherwise, the bytes that were written are the bytes that have left the
-- buffer, followed by the bytes that are still in the buffer.
abbrev pub Flushes : Option (List ℕ) → Option (List ℕ) → Bool → Type 0
Flushes written reached true = Keeps written reached
Flushes written reached false = (held : List ℕ) × Keeps written (append_known reached held)
