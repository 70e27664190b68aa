use Rattle.std.proofs.lemmas.Str.{is_utf8-from_IsUtf8}
use Rattle.cal_load.proofs.ReadableLemmas.{not_utf8}
use Rattle.cal_load.proofs.readable.as_text.Goals as goal

pub returns-in_default : goal.returns-in_default
returns-in_default c =
    let no_text = rw c.in_default.is at c.from_utf8.ensures.cases in
    not_utf8 c.args.bytes.now no_text.0

pub returns : goal.returns
returns c =
    let text = rw c.in-Ok.is at c.from_utf8.ensures.cases in
    (is_utf8-from_IsUtf8 c.args.bytes.now text.1, text.0)
