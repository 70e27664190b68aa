use Rattle.std.proofs.Common.{◌≡◌, ◌∙◌, ◌-◌, None, ap, drop, refl, rules, subst, sym, take, true}
use Rattle.std.specs.Prelude.{◌&&◌, nat_le, not}
use Rattle.std.specs.Str.{IsCharBoundary}
use Rattle.cal_timers_text.specs.rules.LintText.{is_in_value, word_from}
use Rattle.cal_timers_text.proofs.LintLemmas.{known_by_column, known_by_key, word_at_known, word_outside}
use Rattle.cal_timers_text.proofs.finding_lines.word_at_fault.Goals as goal
use Rattle.cal_timers_text.proofs.finding_lines.word_at_fault.Goals.{else-is_in_value-via-then-is_in_value+else-finding-le1, else-is_in_value-via-else-is_in_value}

pub returns-in_err-parts : goal.returns-in_err-parts
returns-in_err-parts c =
    let same : c.from_residual.result ≡ None = search rules in
    rw same (sym (word_outside c.args.line.now c.args.finding.now c.utf8.line
    (λ h. c.in_err-parts.ensures.variant.1 (subst (IsCharBoundary c.args.line.now) (sym c.saturating_sub.ensures) h))))

pub returns : goal.returns
returns c =
    let line = c.args.line.now in
    let finding = c.args.finding.now in
    let known : not (is_in_value finding.problem && nat_le finding.column 1) ≡ true = elim c.else-is_in_value.branch [
      | else-is_in_value-via-then-is_in_value+else-finding-le1 w ↦ known_by_column (is_in_value finding.problem) finding.column w.if-finding-le1.false
      | else-is_in_value-via-else-is_in_value w ↦ known_by_key (is_in_value finding.problem) finding.column (sym c.is_in_value.ensures ∙ w.if-is_in_value.false)
    ] in
    let boundary : IsCharBoundary line (finding.column - 1) = subst (IsCharBoundary line) c.saturating_sub.ensures (c.in_ok-parts.ensures.variant.0 refl) in
    let front : c.in_ok-parts.parts.0.now ≡ take (finding.column - 1) line = c.in_ok-parts.ensures.front ∙ ap (λ n. take n line) c.saturating_sub.ensures in
    let back : c.in_ok-parts.parts.1.now ≡ drop (finding.column - 1) line = c.in_ok-parts.ensures.back ∙ ap (λ n. drop n line) c.saturating_sub.ensures in
    let word : c.word_from.result.now ≡ word_from finding.problem (drop (finding.column - 1) line) = c.word_from.ensures ∙ ap (word_from finding.problem) back in
    rw (front, word) (sym (word_at_known line finding c.utf8.line boundary known))
