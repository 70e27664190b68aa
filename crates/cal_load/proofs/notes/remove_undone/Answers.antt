use Rattle.std.proofs.Common.{◌∙◌, not, rules, sym}
use Rattle.std.proofs.lemmas.Fn.{filter_same}
use Rattle.cal_read.specs.rules.SectionAssignments.{shown_owned_assignment}
use Rattle.cal_load.specs.rules.Notes.{undoes}
use Rattle.cal_load.proofs.NoteLemmas.{nothing_undone, undone}
use Rattle.cal_load.proofs.notes.remove_undone.Goals as goal

pub returns-then-is_reset : goal.returns-then-is_reset
returns-then-is_reset c =
    undone (shown_owned_assignment c.args.later.now) c.args.kept.now.items c.retain.new.self.items
    (filter_same _ (λ earlier. not (undoes (shown_owned_assignment c.args.later.now) (shown_owned_assignment earlier))) _ (λ x b f' k. search rules) _ _ c.retain.ensures.filtered)

pub returns-else-replaces : goal.returns-else-replaces
returns-else-replaces c =
    nothing_undone (shown_owned_assignment c.args.later.now) _ (sym c.is_reset.ensures ∙ c.if-is_reset.false) (sym c.replaces.ensures ∙ c.if-replaces.false)
