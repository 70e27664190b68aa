use Rattle.std.proofs.Common.{Result, subst}
use Rattle.std.specs.BTreeMap.{get_by_text}
use Rattle.std.specs.Prelude.{IsTrue}
use Rattle.cal_machine.specs.declared.tree.Unreadable.{Unreadable}
use Rattle.cal_machine.specs.rules.Machine.{IfSaid, Entry, shown_entry}
use Rattle.cal_machine.specs.rules.Seen.{EntryIs}
use Rattle.cal_machine.proofs.KeepLemmas.{still}
use Rattle.cal_machine.proofs.RecorderLemmas.{said_of}
use Rattle.cal_machine.proofs.recorder.RecorderTree.look.Goals as goal

pub invariant_of-self : goal.invariant_of-self
invariant_of-self g c =
    let before = c.args.self.now.honest in
    let answer = c.in_ok-answer.answer in
    let Given : Result Entry Unreadable → Type 0 = λ answer. IsTrue (g.S.System.gives (EntryIs c.args.path.now answer)) in
    record {
      honest = record {
        in_entries = still (get_by_text c.args.self.now.entries) (get_by_text c.keep.new.recorded) _ c.args.path.now answer c.keep.ensures.adds
            before.in_entries (said_of shown_entry Given answer (subst (λ result. IfSaid shown_entry result Given) c.in_ok-answer.ensures c.look.ensures));
        in_names = before.in_names;
        in_files = before.in_files;
        in_variables = before.in_variables;
      };
    }

pub returns-in_err-keep-clause-grows : goal.returns-in_err-keep-clause-grows
returns-in_err-keep-clause-grows g c =
    λ machine shows.
    record {
      at_entries = λ path answer had. shows.at_entries path answer (c.keep.ensures.extends path answer had);
      at_names = shows.at_names;
      at_files = shows.at_files;
      at_variables = shows.at_variables;
    }
