use Rattle.std.proofs.Common.{◌≡◌, ◌+◌, ap, ◌∙◌, sym, min, rules}
use Rattle.std.specs.List.{before_first}
use Rattle.std.specs.Option.{option_copied}
use Rattle.cal_span.specs.rules.TimeUnit.{size_of}
use Rattle.cal_bytes.specs.rules.Separators.{is_point}
use Rattle.cal_span.specs.rules.PairValue.{Pair, number_worth, digits_worth}
use Rattle.cal_span.specs.computed.SpanValue.{sum_with}
use Rattle.cal_bytes.proofs.DigitLemmas.{top}
use Rattle.cal_span.proofs.SpanPairs.{worth_bad_number, worth_unknown_unit, worth_good, added_is}
use Rattle.cal_span.proofs.span.value.add_pair.Goals as goal

pub returns-in_default : goal.returns-in_default
returns-in_default c =
    let pair : Pair = record { number = c.args.pair.number.now; unit = option_copied c.args.pair.unit } in
    rw (worth_bad_number pair c.in_default.ensures) (search rules)

pub returns-in_default-unit_of : goal.returns-in_default-unit_of
returns-in_default-unit_of c =
    let pair : Pair = record { number = c.args.pair.number.now; unit = option_copied c.args.pair.unit } in
    ap (sum_with c.args.sum.micros) (worth_unknown_unit pair c.in-Some.ensures.0 (sym c.in_default-unit_of.ensures))

pub returns : goal.returns
unfolding number_worth
returns c =
    let pair : Pair = record { number = c.args.pair.number.now; unit = option_copied c.args.pair.unit } in
    let unit = c.in-Some-unit_of.unit in
    let number = c.in-Some.ensures in
    let worth : c.worth.result ≡ min (number_worth pair.number (size_of unit)) top = c.worth.ensures ∙ ap (λ digits. min (digits_worth digits c.in-Some.number.fraction.now (size_of unit)) top) number.1 ∙ ap (λ digits. min (digits_worth (before_first is_point pair.number) digits (size_of unit)) top) number.2 in
    let sum = c.saturating_add.ensures ∙ ap (λ n. min (n + c.worth.result) top) c.micros.ensures.value ∙ ap (λ n. min (c.args.sum.micros + n) top) worth in
    added_is c.args.sum.micros _ _ _ _ _ (worth_good pair unit number.0 (sym c.in-Some-unit_of.ensures)) sum c.new-2.ensures c.ok_or.ensures.value
