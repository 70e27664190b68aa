-- What the program found in a file.
use Rattle.std.specs.Prelude.{ℕ, IsTrue, Bool, List, Option, IfSome}
use Rattle.cal_machine.specs.rules.Told.{FileFound, FileHolds, Told}

-- What the program found in a file. None if it didn't try to open a file, or if memory ran out while the file was
-- opened, read or parsed.
abbrev pub FileAnswer : Type 0
FileAnswer = Option FileFound

-- the system gave this answer about the file at `path`
abbrev pub Gave : (Told → Bool) → List ℕ → FileAnswer → Type 0
Gave gives path answer = IfSome answer (λ found. IsTrue (gives (FileHolds path found)))
