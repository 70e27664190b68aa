use Rattle.std.proofs.Common.{◌∙◌, ap, min, sym, map-id}
use Rattle.std.proofs.lemmas.Iterator.{YieldsList-from_chars}
use Rattle.std.proofs.lemmas.Iterator.Consumers.{YieldsList-end}
use Rattle.std.specs.List.{sum_by}
use Rattle.cal_timers_report.specs.rules.PrintableText.{char_width, shown_width}
use Rattle.cal_timers_report.proofs.cells.shown_width.Goals as goal

-- after the loop, the widths of all characters of the text have been added up
pub returns : goal.returns
unfolding shown_width
returns c =
    let done = YieldsList-end (YieldsList-from_chars c.args.text.now c.utf8.text cc) c.loop-sign.yielded _ c.loop-sign.yielded_by _ _ c.in-None.is c.next.ensures.steps in
    c.loop-sign.invariant ∙ ap (λ cs. min (sum_by char_width cs) 18446744073709551615) (sym (map-id c.loop-sign.yielded) ∙ done.0)
