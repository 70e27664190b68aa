-- Recorded answers, each found by its question: a path or the name of a variable.
use Rattle.std.specs.Prelude.{◌≡◌, ◌⊎◌, ℕ, IsTrue, Bool, List, Option, Some, option_map, Result, Ok, Err, string_bytes, String, Vec}
use Rattle.std.specs.BTreeMap.{BTreeMap, get_by_text}
use Rattle.std.specs.declared.alloc.Global.{Global}
use Rattle.cal_machine.specs.declared.tree.Entry as entries
use Rattle.cal_machine.specs.declared.tree.Names as listings
use Rattle.cal_machine.specs.declared.tree.TreeFault as faults
use Rattle.cal_machine.specs.declared.tree.Unreadable.{Unreadable}
use Rattle.cal_machine.specs.rules.Machine.{Machine, bytes_of, shown_entry, shown_listing}
use Rattle.cal_machine.specs.rules.Seen.{Said, EntryIs, NamesAre, FileIs, VariableIs, Seen, seen}

-- what a call returns if this is its answer, which may be that something can't be read
abbrev pub answered : {X : Type 0} → Result X Unreadable → Result X faults.TreeFault
answered (Ok found) = Ok found
answered (Err why) = Err (faults.TheVariants.Unreadable why)

-- each answer in `old` is in `new`
abbrev pub Extends : {Q A : Type 0} → (Q → Option A) → (Q → Option A) → Type 0
Extends {Q} {A} old new = (question : Q) (answer : A) → old question ≡ Some answer → new question ≡ Some answer

-- each answer in `new` is in `old`, or is the one that was added for the question `added`
abbrev pub Adds : {Q A : Type 0} → (Q → Option A) → (Q → Option A) → Q → A → Type 0
Adds {Q} {A} old new added with =
    (question : Q) (answer : A) → new question ≡ Some answer
    → (old question ≡ Some answer) ⊎ ((question ≡ added) × (answer ≡ with))

-- recorded answers of one kind, each stored under its question, which is a path or the name of a variable
abbrev pub Answers : Type 0 → Type 0
Answers X = BTreeMap (String Global) (Result X Unreadable)

-- what was read, if these are the recorded answers
abbrev pub seen_of : Answers entries.Entry → Answers listings.Names → Answers (Vec ℕ Global) → Answers (Option (String Global)) → Seen
seen_of looked names files variables = record {
  entry = λ path. option_map (seen shown_entry) (get_by_text looked path);
  names = λ folder. option_map (seen shown_listing) (get_by_text names folder);
  file = λ file. option_map (seen bytes_of) (get_by_text files file);
  variable = λ name. option_map (seen (option_map string_bytes)) (get_by_text variables name);
}

-- the machine agrees with all recorded answers, errors included
pub record AgreesWith (looked : Answers entries.Entry) (names : Answers listings.Names) (files : Answers (Vec ℕ Global))
    (variables : Answers (Option (String Global))) (machine : Machine) : Type 0 where
  pub at_entries : (path : List ℕ) (answer : Result entries.Entry Unreadable) → get_by_text looked path ≡ Some answer
      → machine.entry path ≡ seen shown_entry answer
  pub at_names : (folder : List ℕ) (answer : Result listings.Names Unreadable) → get_by_text names folder ≡ Some answer
      → machine.names folder ≡ seen shown_listing answer
  pub at_files : (file : List ℕ) (answer : Result (Vec ℕ Global) Unreadable) → get_by_text files file ≡ Some answer
      → machine.file file ≡ seen bytes_of answer
  pub at_variables : (name : List ℕ) (answer : Result (Option (String Global)) Unreadable) → get_by_text variables name ≡ Some answer
      → machine.variable name ≡ seen (option_map string_bytes) answer

-- each recorded answer is one that a call gave
pub record IsHonest (gives : Said → Bool) (looked : Answers entries.Entry) (names : Answers listings.Names) (files : Answers (Vec ℕ Global))
    (variables : Answers (Option (String Global))) : Type 0 where
  pub in_entries : (path : List ℕ) (answer : Result entries.Entry Unreadable) → get_by_text looked path ≡ Some answer
      → IsTrue (gives (EntryIs path (seen shown_entry answer)))
  pub in_names : (folder : List ℕ) (answer : Result listings.Names Unreadable) → get_by_text names folder ≡ Some answer
      → IsTrue (gives (NamesAre folder (seen shown_listing answer)))
  pub in_files : (file : List ℕ) (answer : Result (Vec ℕ Global) Unreadable) → get_by_text files file ≡ Some answer
      → IsTrue (gives (FileIs file (seen bytes_of answer)))
  pub in_variables : (name : List ℕ) (answer : Result (Option (String Global)) Unreadable) → get_by_text variables name ≡ Some answer
      → IsTrue (gives (VariableIs name (seen (option_map string_bytes) answer)))
