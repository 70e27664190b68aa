-- What a call that writes a text does to the sink, and what it returns.
use Rattle.std.specs.Prelude.{◌≡◌, ℕ, List, Result, is_err}
use Rattle.cal_bytes.specs.rules.Writes.{Writes}
use Rattle.cal_bytes.specs.declared.bytes.Sink.{Ghosts}

-- The call returns an error if and only if the sink has failed. It has written all of the text if it succeeded, and a
-- prefix of the text if it failed.
pub record Puts {W T E : Type 0} (sink : Ghosts W) (old new : W) (result : Result T E) (text : List ℕ) : Type 0 where
  pub failed : sink.is_failed new ≡ is_err result
  pub bytes : Writes (sink.written old) (sink.written new) result text
