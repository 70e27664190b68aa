-- What is true of all recorded answers is true of what was read.
use Rattle.std.specs.Prelude.{◌≡◌, ℕ, IsTrue, Bool, Option, None, Some, option_map, string_bytes, String, Vec}
use Rattle.std.specs.declared.alloc.Global.{Global}
use Rattle.std.proofs.Common.{ap, subst, refl}
use Rattle.cal_machine.specs.declared.tree.Entry as entries
use Rattle.cal_machine.specs.declared.tree.Names as listings
use Rattle.cal_machine.specs.rules.Machine.{Machine, bytes_of, shown_entry, shown_listing}
use Rattle.cal_machine.specs.rules.Recorded.{AgreesWith, Answers, IsHonest, seen_of}
use Rattle.cal_machine.specs.rules.Seen.{AllGiven, Matches, Said, EntryIs, NamesAre, FileIs, VariableIs, seen, some_machine, some_machine-matches}

-- if `P` is true of what `view` shows of the value in `found`, it is true of the value in `option_map view found`
from_seen : {X Y : Type 0} (view : X → Y) (P : Y → Type 0) (found : Option X) (answer : Y)
    → ((x : X) → found ≡ Some x → P (view x)) → option_map view found ≡ Some answer → P answer
from_seen view P None answer all e = absurd (let no : ⊥ = cc in no)
from_seen view P (Some x) answer all e = subst P (let same : view x ≡ answer = cc in same) (all x refl)

module _ (looked : Answers entries.Entry) (names : Answers listings.Names) (files : Answers (Vec ℕ Global)) (variables : Answers (Option (String Global))) where
  -- a machine that agrees with what was read agrees with what is recorded
  pub agrees : (machine : Machine) → Matches (seen_of looked names files variables) machine → AgreesWith looked names files variables machine
  agrees machine same = record {
    at_entries = λ path answer is. same.same_entry path _ (ap (option_map _) is);
    at_names = λ folder answer is. same.same_names folder _ (ap (option_map _) is);
    at_files = λ file answer is. same.same_file file _ (ap (option_map _) is);
    at_variables = λ name answer is. same.same_variable name _ (ap (option_map _) is);
  }

  pub recorded_agrees : AgreesWith looked names files variables (some_machine (seen_of looked names files variables))
  recorded_agrees = agrees _ (some_machine-matches (seen_of looked names files variables))

module _ (gives : Said → Bool) (looked : Answers entries.Entry) (names : Answers listings.Names) (files : Answers (Vec ℕ Global)) (variables : Answers (Option (String Global))) where
  -- if each recorded answer is one that a call gave, then so is each answer that was read
  pub given : IsHonest gives looked names files variables → AllGiven gives (seen_of looked names files variables)
  given honest = record {
    given_entry = λ path answer. from_seen (seen shown_entry) (λ said. IsTrue (gives (EntryIs path said))) _ answer (honest.in_entries path);
    given_names = λ folder answer. from_seen (seen shown_listing) (λ said. IsTrue (gives (NamesAre folder said))) _ answer (honest.in_names folder);
    given_file = λ file answer. from_seen (seen bytes_of) (λ said. IsTrue (gives (FileIs file said))) _ answer (honest.in_files file);
    given_variable = λ name answer. from_seen (seen (option_map string_bytes)) (λ said. IsTrue (gives (VariableIs name said))) _ answer (honest.in_variables name);
  }
