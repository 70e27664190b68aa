use Rattle.std.proofs.Common.{◌≡◌, ◌∙◌, ◌-ℤ◌, Option, ℤ, ap, arith, of_z, pos, subst, sym, to_z, w64}
use Rattle.std.specs.Option.{option_map}
use Rattle.cal_civil.proofs.LocalLemmas.{local_arith}
use Rattle.jiff.specs.Words.{nanos_of_seconds}
use Rattle.jiff_tz.specs.PosixRule.{next_at, transition_view}
use Rattle.jiff_tz.specs.declared.info.OffsetInfo.{OffsetInfo}
use Rattle.cal_zone.specs.computed.LocalOffsetRange.{IsClearOfTransition}
use Rattle.cal_zone.proofs.LocalOffsetRangeLemmas.{same_offsets_standard}
use Rattle.cal_zone.proofs.SameOffsetLemmas.{same_offsets_by_next}
use Rattle.cal_zone.proofs.local_offset_range.range_end_by_rule.Goals as goal
use Rattle.cal_bytes.proofs.General.{not_some}

pub range_end_before_transition-requires : goal.range_end_before_transition-requires
range_end_before_transition-requires c = omega (arith, local_arith)

pub returns : goal.returns
returns c = λ local years begun within.
    same_offsets_standard c.args.rule local c.args.local (not_some c.args.rule.dst (sym c.is_some.ensures ∙ c.if-is_some.false))

pub returns-then-is_some : goal.returns-then-is_some
returns-then-is_some c = λ local years begun within.
    let past : ℤ = c.args.local -ℤ pos 374_397 in
    let same : to_z w64 (of_z w64 (to_z w64 (of_z w64 c.args.local) -ℤ pos 374_397)) ≡ past = omega (arith, local_arith) in
    let constant_until_in = c.args.constant_until.in_range in
    let next = c.next_transition.ensures ∙ ap (next_at c.args.rule) (c.timestamp_at.ensures ∙ ap nanos_of_seconds same) in
    let clear = c.range_end_before_transition.ensures local (omega (arith, local_arith)) (omega (arith, local_arith, c.min.ensures.self_bound)) in
    same_offsets_by_next c.args.rule past c.args.local local c.args.constant_until.secs
    (subst (λ (changes : Option (ℤ × OffsetInfo)). IsClearOfTransition changes past local) next (subst (λ (p : ℤ). IsClearOfTransition (option_map transition_view c.next_transition.result) p local) same clear))
    c.requires.constant
    (omega (arith, local_arith)) begun years (omega (arith, local_arith, c.min.ensures.other_bound, c.secs.ensures.value))
