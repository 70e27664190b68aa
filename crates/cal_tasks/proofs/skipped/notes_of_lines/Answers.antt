use Rattle.std.proofs.Common.{◌≡◌, ◌∙◌, Option, ap, false, sym}
use Rattle.std.proofs.lemmas.Bool.{false≢true}
use Rattle.std.specs.Prelude.{is_none}
use Rattle.jiff.specs.Types.{TimeZone}
use Rattle.cal_plan.proofs.PlanLemmas.{zoned_at}
use Rattle.cal_plan.specs.rules.ZoneFor.{lacks_zone}
use Rattle.cal_timer.specs.rules.TimerView.{shown}
use Rattle.cal_zone.specs.rules.Setting.{setting_seen}
use Rattle.cal_tasks.proofs.LineLemmas.{all_of_line, notes_of_line}
use Rattle.cal_tasks.proofs.skipped.notes_of_lines.Goals as goal

pub loop-index-preserved : goal.loop-index-preserved
loop-index-preserved c =
    let keeps = rw c.of-masks.ensures at c.in_ok-add_notes.ensures in
    record {
      sound = notes_of_line _ _ c.args.lines.now c.loop-index.index _ c.index-lines-index.result _ _ _ c.loop-index-test.true c.index-lines-index.is (sym c.in-Some.ensures)
          c.first_in_zone-zone_index.ensures keeps c.loop-index.invariant.sound;
      all = all_of_line _ _ c.args.lines.now c.loop-index.index _ c.index-lines-index.result _ _ _ c.loop-index-test.true c.index-lines-index.is (sym c.in-Some.ensures)
          c.first_in_zone-zone_index.ensures keeps c.loop-index.invariant.all;
    }

pub unreachable-requires : goal.unreachable-requires
unreachable-requires c =
    let zoned : lacks_zone (setting_seen c.args.setting) (shown c.index-lines-index.result) ≡ false =
    zoned_at (setting_seen c.args.setting) c.args.lines.now c.loop-index.index c.index-lines-index.result c.loop-index-test.true c.index-lines-index.is c.requires in
    false≢true (sym (ap (λ (zone : Option TimeZone). is_none zone) c.in_default.ensures ∙ zoned))
