use Rattle.std.proofs.Common.{◌∙◌, ap}
use Rattle.std.specs.List.{list_any}
use Rattle.cal_load.specs.rules.Notes.{starts}
use Rattle.cal_load.proofs.NoteLemmas.{noted_start}
use Rattle.cal_load.proofs.notes.notes_of.Goals as goal

pub returns-clause-starts : goal.returns-clause-starts
returns-clause-starts c =
    ap (list_any starts) c.in_ok-retain_noted.ensures ∙ noted_start _ _ ∙ ap (list_any starts) c.in_ok-notes.ensures
