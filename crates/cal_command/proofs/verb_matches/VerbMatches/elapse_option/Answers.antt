use Rattle.std.proofs.Common.{◌∙◌, sym}
use Rattle.cal_command.proofs.verb_matches.VerbMatches.elapse_option.Goals as goal

pub returns-then-seeks_elapses-clause-value : goal.returns-then-seeks_elapses-clause-value
returns-then-seeks_elapses-clause-value c = rw (sym c.seeks_elapses.ensures ∙ c.if-seeks_elapses.true) c.value_of.ensures
