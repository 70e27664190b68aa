-- Examples of the zone at the end of an expression, checked by computation.
use Rattle.std.proofs.Common.{◌≡◌, ℕ, pos, neg_ℤ, List, [], ◌∷◌, codes, map, Option, Some, Result, Ok, Err, refl}
use Rattle.cal_civil.specs.computed.ReadOffset.{hour_minute_in, offset_in, two_digits}
use Rattle.cal_civil.specs.rules.ZoneName.{is_utc_name, is_zone_name}
use Rattle.cal_spec.specs.computed.ParsedSuffix.{suffix_in, suffix_of}
use Rattle.cal_spec.specs.rules.ZoneSuffix.{ZoneSuffix, of_name, at_offset}
use Rattle.cal_spec.specs.declared.spec_fault.SpecFault.{SpecFault}
use Rattle.cal_spec.specs.declared.spec_fault.SpecFault.TheVariants.{StrayWord}

abbrev Row : Type 0
Row = List (List ℕ) × Result (Option ZoneSuffix) SpecFault

abbrev rows : List Row
rows =
    (codes "+02:00" ∷ [], Ok (Some (at_offset (pos 7_200))))
    ∷ (codes "-25:59" ∷ [], Ok (Some (at_offset (neg_ℤ (pos 93_540)))))
    ∷ (codes "-00:00" ∷ [], Ok (Some (at_offset (pos 0))))
    ∷ (codes "utc" ∷ [], Ok (Some (of_name (codes "UTC"))))
    ∷ (codes "+26:00" ∷ [], Err StrayWord)
    ∷ (codes "+2:00" ∷ [], Err StrayWord)
    ∷ (codes "+02:60" ∷ [], Err StrayWord)
    ∷ (codes "+02:00" ∷ codes "UTC" ∷ [], Err StrayWord)
    ∷ []

rows_read : map (λ (row : Row). suffix_in row.0) rows ≡ map (λ (row : Row). row.1) rows
unfolding suffix_of is_utc_name is_zone_name offset_in hour_minute_in two_digits
rows_read = refl
