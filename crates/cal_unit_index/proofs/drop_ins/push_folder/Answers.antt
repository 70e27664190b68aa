use Rattle.std.proofs.Common.{◌≡◌, Err, map}
use Rattle.cal_machine.specs.rules.Places.{names_at}
use Rattle.cal_unit_index.specs.rules.DropIns.{shown_drop_in}
use Rattle.cal_unit_index.proofs.DropInLemmas.{no_candidates}
use Rattle.cal_unit_index.proofs.drop_ins.push_folder.Goals as goal

pub returns-in_ok-push_unread-in-Err-Unreadable-clause-known : goal.returns-in_ok-push_unread-in-Err-Unreadable-clause-known
returns-in_ok-push_unread-in-Err-Unreadable-clause-known g c = λ machine shows.
    let fails : names_at machine c.args.folder.now ≡ Err c.in-Err-Unreadable.why =
    (rw c.in-Err-Unreadable.field-0-is at (c.in-Err-Unreadable.ensures.known machine shows)) in
    (rw fails (no_candidates c.args.folder.now (map shown_drop_in c.args.found.now.items)), rw fails c.in_ok-push_unread-in-Err-Unreadable.ensures)
