use Rattle.std.proofs.Common.{◌∙◌, codes, sym}
use Rattle.std.proofs.lemmas.Str.Pattern.{ends_text}
use Rattle.cal_machine.proofs.steps.is_outside.Goals as goal

pub returns-else-eq : goal.returns-else-eq
returns-else-eq c = rw (sym c.eq.ensures ∙ c.if-eq.false) (ends_text c.ends_with.result (codes "/..") c.args.folder.now c.ends_with.ensures.cases)
