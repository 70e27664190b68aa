use Rattle.std.proofs.Common.{rules}
use Rattle.std.proofs.lemmas.Fn.{filter_same}
use Rattle.cal_load.specs.rules.UnusableZones.{has_zone}
use Rattle.cal_load.proofs.UnusableZoneLemmas.{filtered_shown}
use Rattle.cal_timer.specs.rules.TimerView.{shown}
use Rattle.cal_load.proofs.zones.retain_zoned.Goals as goal

pub returns : goal.returns
returns c =
    filtered_shown (has_zone c.args.zones.now) c.args.lines.now.items c.retain.new.self.items
    (filter_same _ (λ line. has_zone c.args.zones.now (shown line)) _ (λ x b f' k. search rules) _ _ c.retain.ensures.filtered)
