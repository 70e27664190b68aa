use Rattle.std.proofs.Common.{◌≡◌, ◌∙◌, ap, arith, inl, inr, to_z-of_z}
use Rattle.std.specs.Option.{option_map}
use Rattle.cal_civil.proofs.LocalLemmas.{local_arith}
use Rattle.jiff_tz.specs.PosixRule.{transition_view}
use Rattle.cal_zone.specs.rules.Place.{datetime_of}
use Rattle.cal_zone.specs.computed.LocalOffsetRange.{year_end}
use Rattle.cal_zone.proofs.local_offset_range.range_end_before_transition.Goals as goal

pub overflow_sub-before_change : goal.overflow_sub-before_change
overflow_sub-before_change c = grind (arith, local_arith, c.in-Some.next.timestamp.in_range, c.floor_second-before_change.ensures)

pub returns-then-past-year_end : goal.returns-then-past-year_end
returns-then-past-year_end c = λ local after before.
    let range = c.in-Some.next.timestamp.in_range in
    let end : c.year_after-year_end.result ≡ year_end (datetime_of c.args.past).date.year = c.year_after-year_end.ensures.value ∙ ap (λ past. year_end (datetime_of past).date.year) (to_z-of_z c.ranges.past) in
    record {
      change = transition_view c.in-Some.next;
      is = ap (option_map transition_view) c.in-Some.is;
      begun = omega (arith, local_arith);
      before_change = omega (arith, local_arith, c.min.ensures.self_bound, c.min.ensures.other_bound, c.floor_second-before_change.ensures, c.year_after-year_end.ensures.bound);
      one_year = inl (omega (arith, local_arith, c.min.ensures.self_bound, c.min.ensures.other_bound, c.floor_second-before_change.ensures, c.year_after-year_end.ensures.bound));
    }

pub returns-else-past-year_end : goal.returns-else-past-year_end
returns-else-past-year_end c = λ local after before.
    let range = c.in-Some.next.timestamp.in_range in
    let end : c.year_after-year_end.result ≡ year_end (datetime_of c.args.past).date.year = c.year_after-year_end.ensures.value ∙ ap (λ past. year_end (datetime_of past).date.year) (to_z-of_z c.ranges.past) in
    record {
      change = transition_view c.in-Some.next;
      is = ap (option_map transition_view) c.in-Some.is;
      begun = omega (arith, local_arith);
      before_change = omega (arith, local_arith, c.floor_second-before_change.ensures);
      one_year = inr (omega (arith, local_arith, c.year_after-year_end.ensures.bound));
    }
