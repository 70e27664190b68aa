-- What `calendar-analyze` finds in the files that it opens and on the clock.
use Rattle.std.specs.Prelude.{◌≡◌, ℕ, ℤ, Bool, true, List, Option, Result, Ok, Err}
use Rattle.cal_bytes.specs.rules.Whole.{CameBeyond, GivesAll}
use Rattle.cal_bytes.specs.declared.whole.WholeFault.{WholeFault}
use Rattle.cal_bytes.specs.declared.whole.WholeFault.TheVariants.{ReadFailed, TooLarge, NoMemory}

-- What a file holds: what reading it to its end gives, or `Unopened` if the file can't be opened.
pub data FileFound : Type 0 where
  Unopened : FileFound
  Contents : (read : Result (List ℕ) WholeFault) → FileFound

-- A question, and an answer to it. `ClockShows` has the seconds of Unix time, or None if the clock can't be read.
pub data Told : Type 0 where
  FileHolds : (path : List ℕ) → (found : FileFound) → Told
  ClockShows : (time : Option ℤ) → Told

-- the size limit of the files that `calendar-analyze` reads, in bytes
abbrev pub input_limit : ℕ
input_limit = 1_048_576

-- Reading a source to its end can give `read`. `left` are the bytes that the source still has, if they are known, and
-- `may_fail` says whether reading it can fail. If memory runs out, that says nothing about the source.
abbrev pub CanGive : Option (List ℕ) → Bool → Result (List ℕ) WholeFault → Type 0
CanGive left may_fail (Ok bytes) = (after : Option (List ℕ)) × GivesAll left after input_limit bytes
CanGive left may_fail (Err ReadFailed) = may_fail ≡ true
CanGive left may_fail (Err TooLarge) = (after : Option (List ℕ)) × CameBeyond left after input_limit
CanGive left may_fail (Err NoMemory) = ⊥
