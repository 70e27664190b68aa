use Rattle.std.proofs.Common.{◌≡◌}
use Rattle.clap.specs.Matches.{ids_left}
use Rattle.clap.specs.Words.{found_of, rows_of}
use Rattle.cal_timers_command.specs.rules.OptionValues.{is_zone_first, zone_leads}
use Rattle.cal_timers_command.proofs.values.is_zone_first.Given as goal

-- neither `zone` nor `utc` is among the names before the current one
abbrev pub invariant-loop-id : goal.invariant-loop-id
invariant-loop-id l = record {
  next : (goal.iterator-loop-id).can_next l.ids;
  finite : (goal.iterator-loop-id).is_finite l.ids;
  left : zone_leads (ids_left l.ids) ≡ is_zone_first (rows_of (found_of l.fn.values));
}
