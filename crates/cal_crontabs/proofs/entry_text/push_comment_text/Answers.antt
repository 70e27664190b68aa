use Rattle.std.proofs.Common.{◌++◌, ◌∙◌, ap, sym, map-id, string_bytes}
use Rattle.std.proofs.lemmas.Iterator.{YieldsList-from_chars}
use Rattle.std.proofs.lemmas.Iterator.Consumers.{YieldsList-end}
use Rattle.std.specs.List.{flat_map}
use Rattle.cal_crontabs.specs.rules.EntryText.{comment_char}
use Rattle.cal_crontabs.proofs.entry_text.push_comment_text.Goals as goal

-- after the loop, all characters of the text have been appended as they are printed
pub returns : goal.returns
returns c =
    let done = YieldsList-end (YieldsList-from_chars c.args.text.now c.utf8.text cc) c.loop-sign.yielded _ c.loop-sign.yielded_by _ _ c.in-None.is c.next.ensures.steps in
    c.loop-sign.invariant ∙ ap (λ cs. string_bytes c.args.out.now ++ flat_map comment_char cs) (sym (map-id c.loop-sign.yielded) ∙ done.0)
