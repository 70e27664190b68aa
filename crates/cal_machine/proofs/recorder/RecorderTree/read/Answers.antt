use Rattle.std.proofs.Common.{ℕ, List, Result, subst}
use Rattle.std.specs.BTreeMap.{get_by_text}
use Rattle.std.specs.Prelude.{IsTrue}
use Rattle.cal_machine.specs.declared.tree.Unreadable.{Unreadable}
use Rattle.cal_machine.specs.rules.Machine.{IfSaid, bytes_of}
use Rattle.cal_machine.specs.rules.Seen.{FileIs}
use Rattle.cal_machine.proofs.KeepLemmas.{still}
use Rattle.cal_machine.proofs.RecorderLemmas.{said_of}
use Rattle.cal_machine.proofs.recorder.RecorderTree.read.Goals as goal

pub invariant_of-self : goal.invariant_of-self
invariant_of-self g c =
    let before = c.args.self.now.honest in
    let answer = c.in_ok-answer.answer in
    let Given : Result (List ℕ) Unreadable → Type 0 = λ answer. IsTrue (g.S.System.gives (FileIs c.args.file.now answer)) in
    record {
      honest = record {
        in_entries = before.in_entries;
        in_names = before.in_names;
        in_files = still (get_by_text c.args.self.now.files) (get_by_text c.keep.new.recorded) _ c.args.file.now answer c.keep.ensures.adds
            before.in_files (said_of bytes_of Given answer (subst (λ result. IfSaid bytes_of result Given) c.in_ok-answer.ensures c.read.ensures));
        in_variables = before.in_variables;
      };
    }
