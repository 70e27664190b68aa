use Rattle.std.proofs.Common.{◌∙◌, ◌++◌, ap, string_bytes}
use Rattle.cal_timers_text.specs.rules.ServiceText.{service_suggestion, suggestion_line, unguarded_lines}
use Rattle.cal_timers_text.proofs.service_lines.unguarded_text.Goals as goal

pub returns : goal.returns
unfolding unguarded_lines
returns c =
    c.in_ok-push_suggestion.ensures
    ∙ ap (λ suggestion. string_bytes c.in_ok-out.out ++ suggestion_line suggestion) c.service_suggestion.ensures
    ∙ ap (λ text. text ++ suggestion_line (service_suggestion c.args.flaw c.args.is_user)) (rw c.unguarded_message.ensures at c.in_ok-out.ensures)
