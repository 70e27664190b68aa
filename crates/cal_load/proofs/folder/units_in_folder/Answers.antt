use Rattle.std.proofs.Common.{◌∙◌, ◌++◌, ◌∷◌, [], ap, map}
use Rattle.cal_unit_index.specs.rules.Index.{shown_fault}
use Rattle.cal_unit_index.specs.rules.Starts.{unreadable_wants}
use Rattle.cal_load.proofs.folder.units_in_folder.Goals as goal

pub returns-clause-stems : goal.returns-clause-stems
returns-clause-stems g c machine shows =
    c.in_ok-stems.ensures.stems machine (c.args.folder.now ∷ []) shows (c.in_ok-index.ensures.known machine (c.units_in.ensures.grows machine shows))

pub returns-clause-unread : goal.returns-clause-unread
returns-clause-unread g c machine shows =
    let search_path = c.args.folder.now ∷ [] in
    let index = c.in_ok-index.ensures.known machine (c.units_in.ensures.grows machine shows) in
    let wants = c.in_ok-stems.ensures.unreadable machine search_path shows index in
    c.in_ok-push_copies.ensures
    ∙ ap (λ faults. faults ++ map shown_fault c.unreadable.result.now) wants
    ∙ ap (λ faults. unreadable_wants machine search_path ++ map shown_fault faults) c.unreadable.ensures
    ∙ ap (λ faults. unreadable_wants machine search_path ++ faults) index.unreadable
