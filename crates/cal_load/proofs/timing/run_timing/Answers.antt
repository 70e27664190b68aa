use Rattle.std.proofs.Common.{◌≡◌, ap, map, ◌∙◌}
use Rattle.std.specs.Prelude.{◌||◌}
use Rattle.std.specs.List.{list_any}
use Rattle.cal_read.specs.rules.SectionAssignments.{shown_owned_assignment}
use Rattle.cal_unit_index.specs.rules.Files.{shown_unit_text}
use Rattle.cal_load.specs.rules.Loaded.{assignments_of_files}
use Rattle.cal_load.specs.rules.Notes.{starts, starts_unit}
use Rattle.cal_load.specs.rules.Resolved.{resolved_in, unclear_in}
use Rattle.cal_load.specs.rules.Timing.{has_unevaluated, is_persistent_in, reach_in}
use Rattle.cal_load.proofs.TimingLemmas.{or_second, or_true, timing_is}
use Rattle.cal_load.proofs.timing.run_timing.Goals as goal
use Rattle.cal_load.proofs.timing.run_timing.Goals.{else-starts, then-starts}

pub returns : goal.returns
returns c =
    let xs = map shown_owned_assignment c.in_ok-assignments.field-0.assignments.items in
    let unclear = map shown_owned_assignment c.in_ok-assignments.field-0.unclear.items in
    let read : map shown_owned_assignment c.in_ok-read.read.items ≡ assignments_of_files (map shown_unit_text c.args.timer.now.files.texts.items)
    = c.in_ok-read.ensures ∙ ap (λ texts. assignments_of_files (map shown_unit_text texts)) c.as_slice.ensures.value in
    let starts_is : c.can_start-starts.result ≡ starts_unit xs
    = c.can_start-starts.ensures ∙ ap (λ kept. list_any starts (map shown_owned_assignment kept)) c.as_slice-4.ensures.value ∙ ap (list_any starts) c.in_ok-kept.ensures in
    let unevaluated : c.has_unevaluated-has_unevaluated.result ≡ has_unevaluated unclear c.args.timer.now.files
    = c.has_unevaluated-has_unevaluated.ensures ∙ ap (λ left. has_unevaluated (map shown_owned_assignment left) c.args.timer.now.files) c.as_slice-5.ensures.value in
    let either : c.if-starts.result ≡ (c.can_start-starts.result || c.has_unevaluated-has_unevaluated.result)
    = elim c.if-starts.branch [
      | then-starts w ↦ w.result-is ∙ w.if-starts.true ∙ or_true c.can_start-starts.result c.has_unevaluated-has_unevaluated.result w.if-starts.true
      | else-starts w ↦ w.result-is ∙ or_second c.can_start-starts.result c.has_unevaluated-has_unevaluated.result w.if-starts.false
    ] in
    timing_is c.args.timer.now xs unclear _ _ _
    (c.in_ok-assignments.ensures.assignments ∙ (λ j. resolved_in (c.as_str.ensures.value j) (read j)))
    (c.in_ok-assignments.ensures.unclear ∙ (λ j. unclear_in (c.as_str.ensures.value j) (read j)))
    (c.reach_in-reach.ensures ∙ ap (λ all. reach_in (map shown_owned_assignment all)) c.as_slice-2.ensures.value)
    (either ∙ (λ j. starts_is j || unevaluated j))
    (c.is_persistent_in-is_persistent.ensures ∙ ap (λ all. is_persistent_in (map shown_owned_assignment all)) c.as_slice-3.ensures.value)
