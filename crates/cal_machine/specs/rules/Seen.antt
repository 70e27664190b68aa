-- What was read of a machine that may change meanwhile: which questions were asked, and how each was answered.
use Rattle.std.specs.Prelude.{◌≡◌, ℕ, ℤ, IsTrue, Bool, List, Option, None, Some, Result, Ok, Err}
use Rattle.std.specs.Option.{unwrap_or}
use Rattle.std.proofs.Common.{ap}
use Rattle.cal_machine.specs.declared.tree.Unreadable.{Unreadable}
use Rattle.cal_machine.specs.declared.tree.Unreadable.TheVariants.{Failed}
use Rattle.cal_machine.specs.rules.Machine.{Entry, Listing, Machine, no_names}
use Rattle.cal_machine.specs.rules.Machine.Entry.{Missing}

-- an answer with `view` applied to what was found; an error stays the same
abbrev pub seen : {X Y : Type 0} → (X → Y) → Result X Unreadable → Result Y Unreadable
seen view (Ok found) = Ok (view found)
seen view (Err why) = Err why

-- A question, and the answer that a call gave. `ClockShows` has the seconds of Unix time, or None if the clock can't be
-- read.
pub data Said : Type 0 where
  EntryIs : (path : List ℕ) → (answer : Result Entry Unreadable) → Said
  NamesAre : (folder : List ℕ) → (answer : Result Listing Unreadable) → Said
  FileIs : (file : List ℕ) → (answer : Result (List ℕ) Unreadable) → Said
  VariableIs : (name : List ℕ) → (answer : Result (Option (List ℕ)) Unreadable) → Said
  ClockShows : (time : Option ℤ) → Said

-- what was read: at most one answer to each question
pub record Seen : Type 0 where
  pub entry : List ℕ → Option (Result Entry Unreadable)
  pub names : List ℕ → Option (Result Listing Unreadable)
  pub file : List ℕ → Option (Result (List ℕ) Unreadable)
  pub variable : List ℕ → Option (Result (Option (List ℕ)) Unreadable)

-- the machine agrees with all that was read, errors included
pub record Matches (read : Seen) (machine : Machine) : Type 0 where
  pub same_entry : (path : List ℕ) (answer : Result Entry Unreadable) → read.entry path ≡ Some answer → machine.entry path ≡ answer
  pub same_names : (folder : List ℕ) (answer : Result Listing Unreadable) → read.names folder ≡ Some answer → machine.names folder ≡ answer
  pub same_file : (file : List ℕ) (answer : Result (List ℕ) Unreadable) → read.file file ≡ Some answer → machine.file file ≡ answer
  pub same_variable : (name : List ℕ) (answer : Result (Option (List ℕ)) Unreadable) → read.variable name ≡ Some answer
      → machine.variable name ≡ answer

-- each answer that was read is one that a call gave
pub record AllGiven (gives : Said → Bool) (read : Seen) : Type 0 where
  pub given_entry : (path : List ℕ) (answer : Result Entry Unreadable) → read.entry path ≡ Some answer → IsTrue (gives (EntryIs path answer))
  pub given_names : (folder : List ℕ) (answer : Result Listing Unreadable) → read.names folder ≡ Some answer
      → IsTrue (gives (NamesAre folder answer))
  pub given_file : (file : List ℕ) (answer : Result (List ℕ) Unreadable) → read.file file ≡ Some answer → IsTrue (gives (FileIs file answer))
  pub given_variable : (name : List ℕ) (answer : Result (Option (List ℕ)) Unreadable) → read.variable name ≡ Some answer
      → IsTrue (gives (VariableIs name answer))

-- a machine that agrees with what was read and has nothing else: whatever wasn't asked about is missing, empty,
-- unreadable or unset
abbrev pub some_machine : Seen → Machine
some_machine read = record {
  entry = λ path. unwrap_or (read.entry path) (Ok Missing);
  names = λ folder. unwrap_or (read.names folder) (Ok no_names);
  file = λ file. unwrap_or (read.file file) (Err Failed);
  variable = λ name. unwrap_or (read.variable name) (Ok None);
}

-- whatever was read, `some_machine` agrees with it
pub some_machine-matches : (read : Seen) → Matches read (some_machine read)
some_machine-matches read = record {
  same_entry = λ path answer. ap (λ found. unwrap_or found (Ok Missing));
  same_names = λ folder answer. ap (λ found. unwrap_or found (Ok no_names));
  same_file = λ file answer. ap (λ found. unwrap_or found (Err Failed));
  same_variable = λ name answer. ap (λ found. unwrap_or found (Ok None));
}
