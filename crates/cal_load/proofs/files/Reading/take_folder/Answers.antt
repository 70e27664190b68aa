use Rattle.std.proofs.Common.{[], ◌∷◌, map, refl, string_bytes}
use Rattle.std.proofs.lemmas.Result.{on_ok_weaker}
use Rattle.cal_unit_index.specs.rules.Index.{shown_fault}
use Rattle.cal_load.proofs.FileLemmas.{folder_read}
use Rattle.cal_load.proofs.files.Reading.take_folder.Goals as goal

pub returns-clause-read : goal.returns-clause-read
returns-clause-read g c =
    on_ok_weaker c.push_lost.result (λ pushed machine shows.
    let before = c.take_units.ensures.grows machine shows in
    folder_read machine c.args.folder.now (map string_bytes c.in_ok-index.field-0.stems.keys) (map shown_fault c.in_ok-index.field-0.unread.items)
    c.args.self.now c.take_texts.new.self c.take_units.new.self _
    (c.in_ok-index.ensures.stems machine before) (c.in_ok-index.ensures.unread machine before) refl refl
    (c.in_ok-take_texts.ensures.read machine (c.units_in_folder.ensures.grows machine before))
    (c.in_ok-take_units.ensures.read machine (c.args.folder.now ∷ []) shows (c.in_ok-index.ensures.index machine before)) pushed) c.push_lost.ensures.lost
