-- The normal form of a component matches exactly the numbers of the ranges from which the component is translated.
use Rattle.std.proofs.Common.{◌≡◌, ◌∙◌, ℕ, cond, Bool, true, false, List, [], ◌∷◌, map, None, Some, refl}
use Rattle.std.specs.List.{AllByRecursion, list_any}
use Rattle.cal_spec.proofs.MemberLemmas.{component_stays}
use Rattle.cal_spec.proofs.NormalLemmas.{parts_from_sound}
use Rattle.cal_spec.specs.computed.NormalParts.{normal_component}
use Rattle.cal_spec.specs.rules.Members.{component_has, part_has}
use Rattle.cal_spec.specs.rules.Slot.{greatest, least}
use Rattle.cal_spec.specs.declared.slot.Slot.{Slot}
use Rattle.cal_cron.proofs.PartLemmas.{IsIn, IsUpward, component_valid, has_by, star_same}
use Rattle.cal_cron.specs.computed.Schedules.{AreRanges}
use Rattle.cal_cron.specs.computed.Translation.{component_of, is_all, is_open, part_of}
use Rattle.cal_cron.specs.rules.CronMatch.{field_has, range_has}
use Rattle.cal_cron.specs.declared.items.CronRange.{CronRange}

part_same : (slot : Slot) (r : CronRange) (v : ℕ) → IsUpward slot → part_has slot (part_of slot r) v ≡ range_has r v
unfolding part_has part_of
part_same slot r v up = has_by slot r v (is_open slot r) up refl

parts_same : (slot : Slot) (rs : List CronRange) (v : ℕ) → IsUpward slot → list_any (λ p. part_has slot p v) (map (part_of slot) rs) ≡ field_has rs v
parts_same slot [] v up = refl
parts_same slot (r ∷ rs) v up = rw (part_same slot r v up, parts_same slot rs v up) refl

translated_by : (slot : Slot) (rs : List CronRange) (v : ℕ) (all : Bool) → IsUpward slot → AllByRecursion (IsIn slot) rs → list_any (is_all slot) rs ≡ all
    → component_has slot (cond all None (Some (map (part_of slot) rs))) v ≡ field_has rs v
translated_by slot rs v true up each is = star_same slot rs v up each is
translated_by slot rs v false up each is = parts_same slot rs v up

translated_same : (slot : Slot) (rs : List CronRange) (v : ℕ) → IsUpward slot → AllByRecursion (IsIn slot) rs → component_has slot (component_of slot rs) v ≡ field_has rs v
unfolding component_of
translated_same slot rs v up each = translated_by slot rs v (list_any (is_all slot) rs) up each refl

-- the normal form of a component matches exactly the numbers of the ranges from which the component is translated
pub component_same : (slot : Slot) (rs : List CronRange) (v : ℕ) → IsUpward slot → AreRanges (least slot) (greatest slot) rs
    → component_has slot (normal_component (component_of slot rs)) v ≡ field_has rs v
component_same slot rs v up are =
    component_stays slot (component_of slot rs) v (parts_from_sound slot (component_of slot rs) (component_valid slot rs up are))
    ∙ translated_same slot rs v up are.each
