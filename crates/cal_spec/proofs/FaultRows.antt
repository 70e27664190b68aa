-- Examples of errors by the rule: errors in the syntax of parts, errors in their values, and an error of a whole text.
-- They are proved without the parser.
use Rattle.std.proofs.Common.{ℕ, inl, inr, codes, replicate, None, Some, refl, arith}
use Rattle.std.proofs.lemmas.List.{length-replicate}
use Rattle.cal_spec.specs.rules.PartFaultRule.{HasPartFault, HasValueFault}
use Rattle.cal_spec.specs.rules.GrammarFaultRule.{HasFault}
use Rattle.cal_spec.specs.declared.slot.Slot.TheVariants.{Hour, Second, Year}
use Rattle.cal_spec.specs.declared.spec_fault.SpecFault.TheVariants.{BackwardRange, FractionalSecond, NumberTooLarge, OutOfField, TextTooLong}

-- in the seconds: `10000.5` has a number above 9,999 and a fraction, and the number is reported
large : HasPartFault Second (codes "10000.5") NumberTooLarge
large = inl ((codes "10000.5", inl refl, record { digits = codes "10000"; after = codes ".5"; whole = refl; are_digits = refl; ends = refl; large = omega arith }), refl)

-- in the hour: the step of `1..2/10000x` is above 9,999, which is reported instead of the `x`
large_step : HasPartFault Hour (codes "1..2/10000x") NumberTooLarge
large_step = inl (
  (
    codes "10000x",
    inr (inr (record {
      front = codes "1";
      middle = codes "..2";
      start = 1;
      end = Some 2;
      whole = refl;
      start_is = record { some = omega arith; digits = refl; value = refl; small = omega arith };
      end_is = (codes "2", refl, record { some = omega arith; digits = refl; value = refl; small = omega arith });
    })),
    record { digits = codes "10000"; after = codes "x"; whole = refl; are_digits = refl; ends = refl; large = omega arith },
  ),
  refl,
)

-- in the seconds: a point follows the range `1..5`, and is reported as the start of a fraction
fraction : HasPartFault Second (codes "1..5.") FractionalSecond
fraction = inr (inl (
  (
    refl,
    (
      codes "5.",
      inr (inl (record {
        front = codes "1";
        start = 1;
        whole = refl;
        start_is = record { some = omega arith; digits = refl; value = refl; small = omega arith };
      })),
      record { number = codes "5"; value = 5; after = codes ""; whole = refl; number_is = record { some = omega arith; digits = refl; value = refl; small = omega arith }; single = refl },
    ),
  ),
  refl,
))

-- in the seconds: `99..60` runs backwards, but both numbers are above 59, and this is reported instead
outside : HasValueFault Second (record { start = 99; end = Some 60; step = None }) OutOfField
outside within = let high = within.0.1 in absurd (omega (arith, high))

-- in the year: `2012..2001/0` runs backwards and has a step of zero, and the range is reported
backward : HasValueFault Year (record { start = 2012; end = Some 2001; step = Some 0 }) BackwardRange
backward = (((omega arith, omega arith), (omega arith, omega arith)), λ forward. omega (arith, forward))

-- 4,097 spaces have no words, but it is the length of the text that is reported
too_long : HasFault (replicate 4097 32) TextTooLong
too_long = inl (let size = length-replicate {A = ℕ} 4097 32 in omega (arith, size), refl)
