use Rattle.std.proofs.Common.{◌≡◌, ◌∙◌, ap, refl, string_bytes, sym, true}
use Rattle.std.proofs.lemmas.Result.{on_ok_weaker}
use Rattle.cal_read.specs.rules.SectionAssignments.{shown_owned_assignment}
use Rattle.cal_load.specs.rules.Resolved.{may_have_specifiers}
use Rattle.cal_load.specs.rules.Specifiers.{shown_filled}
use Rattle.cal_load.specs.rules.Specifiers.Filling.{Text, Invalid}
use Rattle.cal_load.proofs.ResolvedLemmas.{clear_unclear, plain_unclear, system_unclear}
use Rattle.cal_load.proofs.resolved.Resolved.add.Goals as goal

pub returns-then-not-may_have_specifiers-clause-unclear : goal.returns-then-not-may_have_specifiers-clause-unclear
returns-then-not-may_have_specifiers-clause-unclear c =
    on_ok_weaker c.add_plain.result
    (λ h. h ∙ plain_unclear c.args.own.now _ _ (sym c.may_have_specifiers.ensures ∙ c.if-not-may_have_specifiers.true)) c.add_plain.ensures.unclear

pub returns-in-Text-clause-unclear : goal.returns-in-Text-clause-unclear
returns-in-Text-clause-unclear c =
    let may : may_have_specifiers (shown_owned_assignment c.args.assignment) ≡ true = sym c.may_have_specifiers.ensures ∙ c.if-not-may_have_specifiers.false in
    let filled = sym (ap shown_filled c.in-Text.is) ∙ c.in_ok-text.ensures in
    on_ok_weaker c.push_filled.result (λ h. clear_unclear c.args.own.now _ _ (Text (string_bytes c.in-Text.text)) may filled refl) c.push_filled.ensures

pub returns-in-Unclear-clause-unclear : goal.returns-in-Unclear-clause-unclear
returns-in-Unclear-clause-unclear c =
    let may : may_have_specifiers (shown_owned_assignment c.args.assignment) ≡ true = sym c.may_have_specifiers.ensures ∙ c.if-not-may_have_specifiers.false in
    let filled = sym (ap shown_filled c.in-Unclear.is) ∙ c.in_ok-text.ensures in
    on_ok_weaker c.add_unclear.result (λ h. h ∙ system_unclear c.args.own.now _ _ may filled) c.add_unclear.ensures.unclear

pub returns-in-Invalid-clause-unclear : goal.returns-in-Invalid-clause-unclear
returns-in-Invalid-clause-unclear c =
    let may : may_have_specifiers (shown_owned_assignment c.args.assignment) ≡ true = sym c.may_have_specifiers.ensures ∙ c.if-not-may_have_specifiers.false in
    let filled = sym (ap shown_filled c.in-Invalid.is) ∙ c.in_ok-text.ensures in
    on_ok_weaker c.push_unusable.result (λ h. clear_unclear c.args.own.now _ _ Invalid may filled refl) c.push_unusable.ensures
