use Rattle.std.proofs.Common.{ap}
use Rattle.std.proofs.lemmas.Bool.{false≢true}
use Rattle.std.proofs.lemmas.Str.{IsUtf8-string_bytes}
use Rattle.cal_load.proofs.SpecifierLemmas.{is_text, not_text}
use Rattle.cal_load.proofs.specifiers.text_of.Goals as goal

pub returns-in-Ok : goal.returns-in-Ok
returns-in-Ok c = is_text c.args.bytes.items _ (ap (λ v. v.items) c.in-Ok.ensures.ok) (IsUtf8-string_bytes c.in-Ok.text)

pub returns : goal.returns
returns c = not_text c.args.bytes.items (λ good. false≢true (c.in-Err.ensures.succeeds good))
