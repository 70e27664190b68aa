use Rattle.std.proofs.Common.{◌∙◌, sym}
use Rattle.cal_lint.proofs.hints.hint_for.Goals as goal

pub returns-in-Some : goal.returns-in-Some
returns-in-Some c = rw (sym c.mistake_in.ensures ∙ c.in-Some.is) c.hint_with.ensures

pub returns-in-None : goal.returns-in-None
returns-in-None c = rw (sym c.mistake_in.ensures ∙ c.in-None.is) c.rewrite_words.ensures
