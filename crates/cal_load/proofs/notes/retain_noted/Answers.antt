use Rattle.std.proofs.Common.{◌∙◌, ap, map, rules}
use Rattle.std.proofs.lemmas.Fn.{filter_same}
use Rattle.cal_read.specs.rules.SectionAssignments.{shown_owned_assignment}
use Rattle.cal_load.specs.rules.Notes.{is_noted, unit_line}
use Rattle.cal_load.proofs.NoteLemmas.{only_noted}
use Rattle.cal_load.proofs.notes.retain_noted.Goals as goal

pub returns : goal.returns
returns c =
    let line = c.unit_line-unit.ensures ∙ ap (λ kept. unit_line c.args.own.now (map shown_owned_assignment kept)) c.as_slice.ensures.value in
    only_noted c.args.own.now _ c.unit_line-unit.result c.args.kept.now.items c.retain.new.self.items c.in_ok-service.ensures line
    (filter_same _ (λ note. is_noted _ c.unit_line-unit.result (shown_owned_assignment note)) _ (λ x b f' k. search rules) _ _ c.retain.ensures.filtered)
