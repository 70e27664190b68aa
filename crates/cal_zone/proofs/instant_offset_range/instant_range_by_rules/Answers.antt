use Rattle.std.proofs.Common.{◌≡◌, ◌∙◌, ◌+ℤ◌, ◌<ℤ◌, Option, ℤ, pos, of_z, to_z, sym, ap, subst, arith, rules, w64, FitsSigned}
use Rattle.std.proofs.lemmas.Int.{by_lt_z, to_z-of_z}
use Rattle.jiff.proofs.SpanFacts.{signed_arith}
use Rattle.jiff.specs.Words.{nanos_of_seconds, next_at, offset_at}
use Rattle.jiff_tz.specs.declared.info.OffsetInfo.{OffsetInfo}
use Rattle.std.specs.Option.{option_map}
use Rattle.jiff_tz.specs.PosixRule.{transition_view}
use Rattle.cal_zone.specs.computed.InstantOffsetRange.{IsBeforeTransition}
use Rattle.cal_zone.proofs.InstantOffsetRangeLemmas.{constant_until_transition, max_before}
use Rattle.cal_zone.proofs.instant_offset_range.instant_range_by_rules.Goals as goal

pub returns : goal.returns
returns c =
    let instant : ℤ = c.args.instant.secs in
    let tz = c.args.rules.now in
    let years = c.args.instant.in_range in
    let to_fits : FitsSigned w64 c.instant_range_end.result = search rules in
    let max_fits : FitsSigned w64 c.max.result = search rules in
    let same : to_z w64 (of_z w64 c.secs-second.result) ≡ instant = omega (arith, signed_arith, c.secs-second.ensures.value) in
    let after : to_z w64 (of_z w64 (to_z w64 (of_z w64 c.secs-second.result) +ℤ pos 1)) ≡ (instant +ℤ pos 1) = omega (arith, signed_arith) in
    let now : c.in-Ok.timestamp.nanosecond ≡ nanos_of_seconds instant = omega (arith, signed_arith, c.in-Ok.ensures.value, c.secs-second.ensures.value) in
    let ahead : c.to_plain-3.result.seconds ≡ offset_at tz (nanos_of_seconds instant) = ap (λ o. o.seconds) c.to_plain-3.ensures ∙ c.to_offset.ensures ∙ c.time_zone-zone.ensures.at _ ∙ ap (offset_at tz) now in
    let next = c.next_transition-next.ensures ∙ ap (λ zone. next_at zone c.to_plain-2.result.nanosecond) c.to_plain.ensures ∙ c.time_zone-zone.ensures.next _ ∙ ap (next_at tz) (ap (λ t. t.nanosecond) c.to_plain-2.ensures ∙ now) in
    record {
      begun = omega (arith, signed_arith);
      within = omega (arith, signed_arith, c.max.ensures.other_bound);
      constant_offset = λ second from before.
          by_lt_z second c.instant_range_end.result
          (λ within.
          let before_transition = c.instant_range_end.ensures second from (omega (arith, signed_arith)) in
          constant_until_transition tz instant second years.0 (omega (arith, signed_arith, years.1)) (omega (arith, signed_arith))
          (subst (λ (change : Option (ℤ × OffsetInfo)). IsBeforeTransition change instant second) next
          (subst (λ (at : ℤ). IsBeforeTransition (option_map transition_view c.next_transition-next.result) at second) same before_transition))
          ∙ sym ahead)
          (λ passed.
          let sooner = max_before (to_z w64 (of_z w64 c.instant_range_end.result)) (to_z w64 (of_z w64 (to_z w64 (of_z w64 c.secs-second.result) +ℤ pos 1))) second
          (subst (λ (end : ℤ). second <ℤ end) (to_z-of_z w64 c.max.result max_fits ∙ c.max.ensures.value) before) (omega (arith, signed_arith)) in
          let here : second ≡ instant = omega (arith, signed_arith) in
          ap (λ at. offset_at tz (nanos_of_seconds at)) here ∙ sym ahead);
    }
