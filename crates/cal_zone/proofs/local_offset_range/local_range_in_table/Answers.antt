use Rattle.std.proofs.Common.{◌≡◌, ◌∙◌, ◌-ℤ◌, ap, sym, Some, arith, pos, ℕ, ◌<◌, vec_len}
use Rattle.jiff_tz.specs.Tzif.{count_at, transition_at, type_after}
use Rattle.jiff.proofs.SpanFacts.{signed_arith}
use Rattle.cal_zone.proofs.LocalOffsetRangeLemmas.{place_of-between}
use Rattle.cal_zone.proofs.local_offset_range.local_range_in_table.Goals as goal

pub returns : goal.returns
returns c =
    let z = c.args.table.now in
    let start = c.args.local -ℤ pos 93_599 in
    let rows : ℕ = c.transitions_until-passed.result in
    let count : count_at z start ≡ rows = ap (count_at z) (omega (arith, signed_arith)) ∙ sym c.transitions_until-passed.ensures.value in
    let next = c.in_ok-to.ensures in
    let in_range = (transition_at z rows).second_in in
    let some : count_at z start < vec_len z.transitions = omega (arith, next.0) in
    let second = ap (λ row. (transition_at z row).second) count in
    let offset = ap (λ row. (type_after z row).offset.seconds) count in
    record {
      begun = omega (arith, signed_arith);
      within = omega (arith, signed_arith, next.1);
      constant_offset = λ local years begun within.
          place_of-between z start local years some (omega (arith, signed_arith)) (omega (arith, signed_arith, next.1))
          ∙ ap Some (let o = (type_after z rows).offset.in_range in omega (arith, signed_arith, c.offset_after.ensures));
    }
