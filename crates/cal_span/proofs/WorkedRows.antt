-- Examples of parsed and printed time spans, checked by computation.
use Rattle.std.proofs.Common.{◌≡◌, [], Ok, Err, codes, refl}
use Rattle.std.specs.Fmt.{digits}
use Rattle.cal_span.specs.rules.UnitSpellings.{spellings_of}
use Rattle.cal_span.specs.rules.TimeUnit.{unit_name}
use Rattle.cal_span.specs.rules.SpanText.{units_text, counts_in_row, span_text}
use Rattle.cal_span.specs.computed.SpanValue.{words_in, pairs_in, span_of}
use Rattle.cal_span.specs.rules.PairValue.{is_number, unit_named, number_worth, worth_of}
use Rattle.cal_span.specs.declared.span.fault.SpanFault.TheVariants.{Empty, BadNumber, UnknownUnit, TooLarge}

one_and_a_half : span_of (codes "1.5h") ≡ Ok 5_400_000_000
unfolding span_of pairs_in words_in worth_of is_number unit_named number_worth spellings_of
one_and_a_half = refl

several : span_of (codes " 300ms20s\t5day") ≡ Ok 432_020_300_000
unfolding span_of pairs_in words_in worth_of is_number unit_named number_worth spellings_of
several = refl

rounded_down : span_of (codes "0.0000019s") ≡ Ok 1
unfolding span_of pairs_in words_in worth_of is_number unit_named number_worth spellings_of
rounded_down = refl

nothing : span_of [] ≡ Err Empty
unfolding span_of pairs_in words_in
nothing = refl

two_points : span_of (codes "1..5") ≡ Err BadNumber
unfolding span_of pairs_in words_in worth_of is_number unit_named number_worth spellings_of
two_points = refl

no_unit : span_of (codes "5x") ≡ Err UnknownUnit
unfolding span_of pairs_in words_in worth_of is_number unit_named number_worth spellings_of
no_unit = refl

above_the_limit : span_of (codes "9223372036854775808us") ≡ Err TooLarge
unfolding span_of pairs_in words_in worth_of is_number unit_named number_worth spellings_of
above_the_limit = refl

printed : span_text 5_400_000_000 ≡ codes "1h 30min"
unfolding units_text counts_in_row unit_name digits
printed = refl

printed_month : span_text 2_592_000_000_000 ≡ codes "4w 2d"
unfolding units_text counts_in_row unit_name digits
printed_month = refl

printed_nothing : span_text 0 ≡ codes "0"
unfolding units_text counts_in_row unit_name digits
printed_nothing = refl
