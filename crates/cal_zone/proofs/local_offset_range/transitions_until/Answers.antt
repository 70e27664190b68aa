use Rattle.std.proofs.Common.{get_or, int_le, of_calls, rules}
use Rattle.std.proofs.lemmas.Fn.{always_returns_same}
use Rattle.jiff_tz.specs.Tzif.{no_transition}
use Rattle.jiff_tz.proofs.TzifLemmas.{le_below}
use Rattle.cal_zone.proofs.LocalOffsetRangeLemmas.{count_of_copy, ordered_copy}
use Rattle.cal_zone.proofs.local_offset_range.transitions_until.Goals as goal

pub returns-clause-value : goal.returns-clause-value
returns-clause-value c =
    let z = c.args.table.now in
    let rows = c.transitions.result.now in
    let point = c.partition_point.ensures.partitioned (λ row. int_le row.second c.args.second) (always_returns_same _ _ _ (λ a r f k. search (rules, of_calls)))
    (λ i j d l m up. le_below (get_or rows i d).second (get_or rows j d).second c.args.second (ordered_copy z rows c.transitions.ensures i j d l m) up) in
    count_of_copy z rows c.transitions.ensures c.args.second c.partition_point.result (no_transition z) c.partition_point.ensures.bound point
