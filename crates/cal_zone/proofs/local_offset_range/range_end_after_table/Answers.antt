use Rattle.std.proofs.Common.{◌≡◌, ◌-ℤ◌, ◌∙◌, Option, ℤ, ap, arith, of_z, pos, subst, sym, to_z, w64}
use Rattle.std.specs.Option.{option_map}
use Rattle.cal_civil.proofs.LocalLemmas.{local_arith}
use Rattle.jiff_tz.specs.PosixText.{tz_view}
use Rattle.jiff.specs.Words.{nanos_of_seconds}
use Rattle.jiff_tz.specs.Tzif.{count_at, next_at}
use Rattle.jiff_tz.specs.PosixRule.{transition_view}
use Rattle.jiff_tz.specs.declared.info.OffsetInfo.{OffsetInfo}
use Rattle.cal_zone.specs.computed.LocalOffsetRange.{IsClearOfTransition}
use Rattle.cal_zone.proofs.SameOffsetLemmas.{same_offsets_by_next_after_table}
use Rattle.cal_zone.proofs.LocalOffsetRangeLemmas.{all_later, same_offsets_after_table, same_offsets_without_dst, same_offsets_without_rule, length_of_copy}
use Rattle.cal_zone.proofs.local_offset_range.range_end_after_table.Goals as goal
use Rattle.cal_bytes.proofs.General.{not_some}

pub returns-in_default : goal.returns-in_default
returns-in_default c = λ local years begun within.
    let z = c.args.table.now in
    let many = length_of_copy z c.transitions.result.now c.transitions.ensures in
    let count : c.transitions_until.result ≡ count_at z (c.args.local -ℤ pos 374_397) = c.transitions_until.ensures.value ∙ ap (count_at z) (omega (arith, local_arith)) in
    let none = not_some c.in-Some.rule.dst (sym c.is_some.ensures ∙ c.if-is_some.false) in
    same_offsets_after_table z local c.args.local years c.requires.local_in (all_later z c.args.local (omega arith)) begun
    (same_offsets_without_dst z.posix_tz c.in-Some.rule local c.args.local (ap (option_map tz_view) (sym c.in-Some.is) ∙ c.posix_tz.ensures) none)

pub returns-in_default-2 : goal.returns-in_default-2
returns-in_default-2 c = λ local years begun within.
    let z = c.args.table.now in
    let many = length_of_copy z c.transitions.result.now c.transitions.ensures in
    let count : c.transitions_until.result ≡ count_at z (c.args.local -ℤ pos 374_397) = c.transitions_until.ensures.value ∙ ap (count_at z) (omega (arith, local_arith)) in
    same_offsets_after_table z local c.args.local years c.requires.local_in (all_later z c.args.local (omega arith)) begun
    (same_offsets_without_rule z.posix_tz local c.args.local (ap (option_map tz_view) (sym c.in_default.is) ∙ c.posix_tz.ensures))

pub returns-in-Some : goal.returns-in-Some
returns-in-Some c = λ local years begun within.
    let z = c.args.table.now in
    let past : ℤ = c.args.local -ℤ pos 374_397 in
    let same : to_z w64 (of_z w64 (to_z w64 (of_z w64 c.args.local) -ℤ pos 374_397)) ≡ past = omega (arith, local_arith) in
    let constant_until_in = c.args.constant_until.in_range in
    let many = length_of_copy z c.transitions.result.now c.transitions.ensures in
    let count : c.transitions_until.result ≡ count_at z past = c.transitions_until.ensures.value ∙ ap (count_at z) (omega (arith, local_arith)) in
    let next = c.next_transition.ensures ∙ ap (next_at z) (c.timestamp_at.ensures ∙ ap nanos_of_seconds same) in
    let clear = c.range_end_before_transition.ensures local (omega (arith, local_arith)) (omega (arith, local_arith, c.min.ensures.self_bound)) in
    same_offsets_by_next_after_table z past c.args.local local c.args.constant_until.secs (omega arith)
    (subst (λ (changes : Option (ℤ × OffsetInfo)). IsClearOfTransition changes past local) next (subst (λ (p : ℤ). IsClearOfTransition (option_map transition_view c.next_transition.result) p local) same clear))
    c.requires.constant
    (omega (arith, local_arith)) begun years c.requires.local_in (omega (arith, local_arith, c.min.ensures.other_bound, c.secs.ensures.value))

pub range_end_before_transition-requires : goal.range_end_before_transition-requires
range_end_before_transition-requires c = omega (arith, local_arith)
