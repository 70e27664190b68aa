use Rattle.std.proofs.Common.{ℕ, List, Option, Result, option_map, string_bytes, subst, sym}
use Rattle.std.specs.BTreeMap.{get_by_text}
use Rattle.std.specs.Prelude.{IsTrue}
use Rattle.cal_machine.specs.declared.tree.Unreadable.{Unreadable}
use Rattle.cal_machine.specs.rules.Machine.{IfSaid, Tells}
use Rattle.cal_machine.specs.rules.Seen.{VariableIs}
use Rattle.cal_machine.proofs.KeepLemmas.{still}
use Rattle.cal_machine.proofs.RecorderLemmas.{said_of}
use Rattle.cal_machine.proofs.recorder.RecorderTree.variable.Goals as goal

pub invariant_of-self : goal.invariant_of-self
invariant_of-self g c =
    let before = c.args.self.now.honest in
    let answer = c.in_ok-answer.answer in
    let Given : Result (Option (List ℕ)) Unreadable → Type 0 = λ answer. IsTrue (g.S.System.gives (VariableIs c.args.name.now answer)) in
    record {
      honest = record {
        in_entries = before.in_entries;
        in_names = before.in_names;
        in_files = before.in_files;
        in_variables = still (get_by_text c.args.self.now.variables) (get_by_text c.keep.new.recorded) _ c.args.name.now answer c.keep.ensures.adds
            before.in_variables (said_of (option_map string_bytes) Given answer (subst (λ result. IfSaid (option_map string_bytes) result Given) c.in_ok-answer.ensures c.variable.ensures));
      };
    }

pub returns-in-Some-clause-known : goal.returns-in-Some-clause-known
returns-in-Some-clause-known g c =
    λ machine shows.
    subst (Tells (option_map string_bytes) c.copy_value.result)
    (sym (shows.at_variables c.args.name.now c.in-Some.answer.now (sym c.in-Some.ensures.value))) c.copy_value.ensures
