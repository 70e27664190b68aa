use Rattle.std.proofs.Common.{◌≡◌, ◌∙◌, ap, sym, string_bytes}
use Rattle.cal_bytes.specs.rules.Trim.{trim_matches}
use Rattle.cal_timer.specs.rules.Lines.{is_blank_or_return}
use Rattle.cal_load.specs.rules.Readable.{broken_reason}
use Rattle.cal_load.proofs.ReadableLemmas.{reason_at_cut, reason_not_last, reason_uncut}
use Rattle.cal_load.proofs.readable.reason_in.Goals as goal
use Rattle.cal_load.proofs.readable.reason_in.Goals.{else-is_cut-via-then-is_cut+in_ok-is_last+else-branch, else-is_cut-via-else-is_cut}

pub returns-then-branch : goal.returns-then-branch
returns-then-branch c = sym (reason_at_cut c.args.is_cut _ _ c.if-is_cut.true (sym c.in_ok-is_last.ensures ∙ c.if-branch.true))

pub returns : goal.returns
returns c =
    let text : c.trim.result.now ≡ trim_matches is_blank_or_return (string_bytes c.args.line.now.text) = c.trim.ensures ∙ ap (trim_matches is_blank_or_return) c.as_str.ensures.value in
    let here = c.broken_reason.ensures ∙ ap broken_reason text in
    elim c.else-is_cut.branch [
      | else-is_cut-via-then-is_cut+in_ok-is_last+else-branch w ↦ here ∙ sym (reason_not_last c.args.is_cut _ _ w.if-is_cut.true (sym w.in_ok-is_last.ensures ∙ w.if-branch.false))
      | else-is_cut-via-else-is_cut w ↦ here ∙ sym (reason_uncut c.args.is_cut _ _ w.if-is_cut.false)
    ]
