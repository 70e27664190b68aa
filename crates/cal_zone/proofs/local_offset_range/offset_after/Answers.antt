use Rattle.std.proofs.Common.{ap, arith}
use Rattle.jiff_tz.specs.Tzif.{transition_at, type_after}
use Rattle.jiff.proofs.SpanFacts.{signed_arith}
use Rattle.cal_zone.proofs.LocalOffsetRangeLemmas.{length_of_copy, transition_of_copy, type_after-last}
use Rattle.cal_zone.proofs.local_offset_range.offset_after.Goals as goal

pub returns : goal.returns
returns c =
    let z = c.args.table.now in
    let rows = c.transitions.result.now in
    let some = c.in-Some.ensures in
    let many = length_of_copy z rows c.transitions.ensures in
    let same = ap (λ text. text.after.seconds) (transition_of_copy z rows c.transitions.ensures c.in-Some.last c.index-transitions-last.result (omega arith)) in
    let last = ap (λ row. (transition_at z row).after.offset.seconds) some.1 in
    let type = ap (λ type. type.offset.seconds) (type_after-last z c.args.count (omega arith)) in
    let in_range = (type_after z c.args.count).offset.in_range in
    omega (arith, signed_arith, c.from-2.ensures)
