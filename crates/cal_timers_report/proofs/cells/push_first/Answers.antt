use Rattle.std.proofs.Common.{◌++◌, ◌∙◌, ap, sym, map-id, string_bytes}
use Rattle.std.proofs.lemmas.Iterator.{YieldsList-from_chars, YieldsList-from_take}
use Rattle.std.proofs.lemmas.Iterator.Consumers.{YieldsList-end}
use Rattle.std.specs.Char.{encode_utf8}
use Rattle.std.specs.List.{flat_map}
use Rattle.cal_timers_report.proofs.cells.push_first.Goals as goal

-- after the loop, the first characters of the text have been appended
pub returns : goal.returns
returns c =
    let done = YieldsList-end (YieldsList-from_take c.args.count (YieldsList-from_chars c.args.text.now c.utf8.text cc) cc) c.loop-sign.yielded _ c.loop-sign.yielded_by _ _ c.in-None.is c.next.ensures.steps in
    c.loop-sign.invariant ∙ ap (λ cs. string_bytes c.args.out.now ++ flat_map encode_utf8 cs) (sym (map-id c.loop-sign.yielded) ∙ done.0)
