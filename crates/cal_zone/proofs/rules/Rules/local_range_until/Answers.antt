use Rattle.std.proofs.Common.{◌≡◌, ◌∙◌, ap, Some, arith}
use Rattle.cal_civil.proofs.LocalLemmas.{local_arith}
use Rattle.cal_zone.specs.rules.Place.{place_of}
use Rattle.cal_zone.proofs.PlaceLemmas.{within}
use Rattle.cal_zone.proofs.LocalOffsetRangeLemmas.{place_of-same_offsets}
use Rattle.cal_zone.proofs.rules.Rules.local_range_until.Goals as goal

placed : (c : goal.In_ok-place) → place_of c.args.self.now c.args.local ≡ Some c.in_ok-place.place
placed c = grind (arith, local_arith)

pub overflow_sub-result : goal.overflow_sub-result
overflow_sub-result c = let near = within _ _ _ (placed c) in omega (arith, local_arith)

pub returns : goal.returns
returns c =
    let near = within _ _ _ (placed c) in
    record {
      begun = omega (arith, local_arith);
      within = omega (arith, local_arith);
      constant_offset = λ local years begun before.
          place_of-same_offsets _ local _ _ (c.requires.same_offsets local years (omega (arith, local_arith)) (omega (arith, local_arith))) (placed c) ∙ ap Some (omega (arith, local_arith));
    }
