use Rattle.std.proofs.Common.{Result, subst}
use Rattle.std.specs.BTreeMap.{get_by_text}
use Rattle.std.specs.Prelude.{IsTrue}
use Rattle.cal_machine.specs.declared.tree.Unreadable.{Unreadable}
use Rattle.cal_machine.specs.rules.Machine.{IfSaid, Listing, shown_listing}
use Rattle.cal_machine.specs.rules.Seen.{NamesAre}
use Rattle.cal_machine.proofs.KeepLemmas.{still}
use Rattle.cal_machine.proofs.RecorderLemmas.{said_of}
use Rattle.cal_machine.proofs.recorder.RecorderTree.names.Goals as goal

pub invariant_of-self : goal.invariant_of-self
invariant_of-self g c =
    let before = c.args.self.now.honest in
    let answer = c.in_ok-answer.answer in
    let Given : Result Listing Unreadable → Type 0 = λ answer. IsTrue (g.S.System.gives (NamesAre c.args.folder.now answer)) in
    record {
      honest = record {
        in_entries = before.in_entries;
        in_names = still (get_by_text c.args.self.now.names) (get_by_text c.keep.new.recorded) _ c.args.folder.now answer c.keep.ensures.adds
            before.in_names (said_of shown_listing Given answer (subst (λ result. IfSaid shown_listing result Given) c.in_ok-answer.ensures c.names.ensures));
        in_files = before.in_files;
        in_variables = before.in_variables;
      };
    }
