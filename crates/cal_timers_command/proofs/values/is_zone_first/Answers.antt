use Rattle.std.proofs.Common.{◌∙◌, ap}
use Rattle.clap.specs.Words.{found_of}
use Rattle.cal_timers_command.specs.rules.OptionValues.{zone_leads}
use Rattle.cal_timers_command.proofs.AskedLemmas.{names_found}
use Rattle.cal_timers_command.proofs.values.is_zone_first.Goals as goal

pub loop-id-init : goal.loop-id-init
loop-id-init c = record { next = tt; finite = tt; left = ap zone_leads (c.ids-ids.ensures ∙ names_found (found_of c.args.values.now)) }
