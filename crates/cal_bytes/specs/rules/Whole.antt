-- What reading a source to its end does to the source. The limit on the number of bytes is this project's own: no
-- manual has one.
use Rattle.std.specs.Prelude.{ℕ, ◌<◌, ◌≤◌, Bool, true, false, List, length, Option, Result, Ok, Err}
use Rattle.std.specs.Io.KnownBytes.{Consumes, IsAtEnd}
use Rattle.cal_bytes.specs.declared.whole.WholeFault.{WholeFault}
use Rattle.cal_bytes.specs.declared.whole.WholeFault.TheVariants.{ReadFailed, TooLarge, NoMemory}

-- `bytes` are all the bytes that the source still had. There are at most `limit` of them, and the source is now at its
-- end.
pub record GivesAll (old new : Option (List ℕ)) (limit : ℕ) (bytes : List ℕ) : Type 0 where
  pub taken : Consumes old new bytes
  pub at_end : IsAtEnd new
  pub fits : length bytes ≤ limit

-- At most `limit` bytes were read.
pub record CameWithin (old new : Option (List ℕ)) (limit : ℕ) : Type 0 where
  pub front : List ℕ
  pub taken : Consumes old new front
  pub fits : length front ≤ limit

-- More than `limit` bytes were read.
pub record CameBeyond (old new : Option (List ℕ)) (limit : ℕ) : Type 0 where
  pub front : List ℕ
  pub taken : Consumes old new front
  pub is_more : limit < length front

-- how much was read before each error: more than `limit` bytes if the error is `TooLarge`, and at most `limit` bytes if
-- a read or an allocation failed
abbrev pub IsWholeFault : Option (List ℕ) → Option (List ℕ) → ℕ → WholeFault → Type 0
IsWholeFault old new limit ReadFailed = CameWithin old new limit
IsWholeFault old new limit TooLarge = CameBeyond old new limit
IsWholeFault old new limit NoMemory = CameWithin old new limit

-- whether the error is `ReadFailed`, the only error after which the source has failed
abbrev pub is_read_failed_fault : WholeFault → Bool
is_read_failed_fault ReadFailed = true
is_read_failed_fault TooLarge = false
is_read_failed_fault NoMemory = false

abbrev pub is_read_failed : {T : Type 0} → Result T WholeFault → Bool
is_read_failed (Ok x) = false
is_read_failed (Err fault) = is_read_failed_fault fault
