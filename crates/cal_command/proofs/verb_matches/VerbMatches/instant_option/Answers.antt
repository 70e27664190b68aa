use Rattle.std.proofs.Common.{◌∙◌, sym}
use Rattle.cal_command.proofs.verb_matches.VerbMatches.instant_option.Goals as goal

pub returns-then-uses_instants : goal.returns-then-uses_instants
returns-then-uses_instants c = rw (sym c.uses_instants.ensures ∙ c.if-uses_instants.true) c.value_of.ensures
