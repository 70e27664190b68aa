use Rattle.std.proofs.Common.{◌≡◌, ◌+◌, ◌-◌, ◌≤◌}
use Rattle.cal_elapse.specs.rules.Search.{count_from, NonePasses}
use Rattle.cal_elapse.specs.computed.Masks.{sets_in}
use Rattle.cal_elapse.specs.rules.Months.{day_in, first_day, month_in}
use Rattle.cal_elapse.proofs.search.day.next_from_month.Given as goal

abbrev pub invariant-loop-next : goal.invariant-loop-next
invariant-loop-next l = record {
  from_in : l.fn.from ≤ l.index;
  index_in : l.index ≤ 2_760;
  none : NonePasses (day_in (sets_in l.masks)) (first_day l.fn.from) (first_day l.index);
  counted : l.examined ≡ l.fn.examined + count_from (month_in (sets_in l.masks)) l.fn.from (l.index - l.fn.from);
}

abbrev pub decreases-loop-next : goal.decreases-loop-next
decreases-loop-next l = 2_760 - l.index
