use Rattle.std.proofs.Common.{ap, append_assoc, codes, string_bytes, ◌++◌, ◌∙◌}
use Rattle.cal_zone.specs.declared.zone.Zone.{Zone}
use Rattle.cal_zone.specs.rules.InstantText.{instant_text}
use Rattle.cal_timers_report.proofs.due.push_reason.Goals as goal

pub returns : goal.returns
returns c =
    c.in_ok-push_str.ensures.bytes
    ∙ ap (λ text. text ++ codes " is an exception")
    (c.in_ok-push_instant.ensures.text
    ∙ ap (λ (zone : Zone). string_bytes c.args.out.now ++ instant_text zone c.args.last.secs) c.new-formatter.ensures)
    ∙ append_assoc (string_bytes c.args.out.now) (instant_text c.args.zone c.args.last.secs) (codes " is an exception")
