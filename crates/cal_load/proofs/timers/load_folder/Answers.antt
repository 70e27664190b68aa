use Rattle.std.proofs.Common.{All, map, string_bytes, subst, sym}
use Rattle.std.proofs.lemmas.Result.{on_ok_weaker}
use Rattle.cal_unit_index.specs.rules.Index.{shown_fault}
use Rattle.cal_load.specs.rules.Loaded.{IsTimerOn}
use Rattle.cal_load.proofs.UnitLemmas.{folder_more}
use Rattle.cal_load.proofs.timers.load_folder.Goals as goal

pub returns-clause-known : goal.returns-clause-known
returns-clause-known g c =
    on_ok_weaker c.push_unread.result (λ same machine search_path shows held.
    subst (All (IsTimerOn machine search_path)) (sym same)
    (c.in_ok-load_folder_units.ensures.known machine search_path shows (c.in_ok-index.ensures.index machine (c.load_folder_units.ensures.grows machine shows)) held)) c.push_unread.ensures.timers

pub returns-clause-more : goal.returns-clause-more
returns-clause-more g c =
    on_ok_weaker c.push_unread.result (λ more.
    folder_more _ (g.T.Tree.shows c.load_folder_units.new.tree) c.args.folder.now (map string_bytes c.in_ok-index.field-0.stems.keys) (map shown_fault c.in_ok-index.field-0.unread.items)
    c.args.loaded.now c.load_folder_units.new.loaded c.push_unread.new.loaded
    (λ machine search_path shows. (shows, c.in_ok-index.ensures.index machine (c.load_folder_units.ensures.grows machine shows)))
    (λ machine shows. c.in_ok-index.ensures.stems machine (c.load_folder_units.ensures.grows machine shows))
    (λ machine shows. c.in_ok-index.ensures.unread machine (c.load_folder_units.ensures.grows machine shows))
    c.in_ok-load_folder_units.ensures.more more) c.push_unread.ensures.more
