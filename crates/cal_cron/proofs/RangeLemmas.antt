-- The numbers of a range are those that its steps reach.
use Rattle.std.proofs.Common.{◌≡◌, ℕ, ◌+◌, ◌-◌, ◌*◌, ◌/◌, ◌%◌, ◌<◌, ◌≤◌, true, ◌&&◌, nat_eq, nat_le, refl, arith}
use Rattle.std.proofs.lemmas.Bool.{and_from, and_parts, eqb-true, leb-true, le-leb}
use Rattle.cal_cron.specs.rules.CronMatch.{IsReached, range_has}
use Rattle.cal_cron.specs.declared.items.CronRange.{CronRange}

parts_of_distance : (first step value : ℕ) → 0 < step → first ≤ value → (value - first) % step ≡ 0 → value ≡ first + (value - first) / step * step
parts_of_distance first step value positive from whole = grind arith

pub reached : (r : CronRange) (value : ℕ) → 0 < r.step → range_has r value ≡ true → IsReached r value
reached r value positive has =
    let parts = and_parts (nat_le r.first value && nat_le value r.last) (nat_eq ((value - r.first) % r.step) 0) has in
    let bounds = and_parts (nat_le r.first value) (nat_le value r.last) parts.0 in
    record {
      count = (value - r.first) / r.step;
      is = parts_of_distance r.first r.step value positive (leb-true _ _ bounds.0) (eqb-true _ _ parts.1);
      within = leb-true _ _ bounds.1;
    }

steps_over : (first step count value : ℕ) → 0 < step → value ≡ first + count * step → (value - first) % step ≡ 0
steps_over first step count value positive is = grind arith

pub has_reached : (r : CronRange) (value : ℕ) → 0 < r.step → IsReached r value → range_has r value ≡ true
has_reached r value positive is =
    let e = is.is in
    let b = is.within in
    let whole = steps_over r.first r.step is.count value positive e in
    rw whole (and_from (nat_le r.first value && nat_le value r.last) true (and_from (nat_le r.first value) (nat_le value r.last) (le-leb _ _ (omega arith)) (le-leb _ _ b)) refl)
