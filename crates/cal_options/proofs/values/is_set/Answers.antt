use Rattle.std.proofs.Common.{◌∙◌, ap, sym}
use Rattle.std.specs.Option.{option_copied}
use Rattle.clap.specs.Words.{found_of, rows_of}
use Rattle.cal_options.proofs.ValueLemmas.{set_none, set_some}
use Rattle.cal_options.proofs.values.is_set.Goals as goal

pub returns-in-Some : goal.returns-in-Some
returns-in-Some c = c.eq.ensures ∙ set_some c.args.argument.name.now (rows_of (found_of c.args.values.now)) c.in-Some.text.now (sym c.value_of.ensures ∙ ap option_copied c.in-Some.is)

pub returns-in-None : goal.returns-in-None
returns-in-None c = set_none c.args.argument.name.now (rows_of (found_of c.args.values.now)) (sym c.value_of.ensures ∙ ap option_copied c.in-None.is)
