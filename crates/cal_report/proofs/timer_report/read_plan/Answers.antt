use Rattle.cal_report.proofs.TimerLemmas.{had_lists, plan_answers}
use Rattle.cal_report.proofs.timer_report.read_plan.Goals as goal

pub returns-in-Ok-merge_of : goal.returns-in-Ok-merge_of
returns-in-Ok-merge_of g c =
    let list = c.in-Ok.ensures.list in
    let merge = c.in-Ok-merge_of.ensures in
    record {
      sure = c.in-Ok.ensures.sure;
      plan = (
        list.0,
        list.1,
        list.2,
        (
          had_lists _ _ list.3,
          λ name. plan_answers _ _ list.0 _ _ _ list.3 (rw (c.lines-lines.ensures, c.exceptions-exceptions.ensures) at merge.merge) c.new.ensures name,
        ),
      );
    }
