use Rattle.std.proofs.Common.{◌≡◌, refl, sym, subst}
use Rattle.cal_spec.specs.computed.Expr.{IsExpr}
use Rattle.cal_spec.specs.declared.fields.Fields as declared_fields
use Rattle.cal_spec.specs.computed.Views.{fields_of}
use Rattle.cal_spec.specs.computed.NormalParts.{normal_fields}
use Rattle.cal_spec.specs.rules.Slot.{day_slot}
use Rattle.cal_spec.specs.declared.slot.Slot.TheVariants.{Year, Month, Hour, Minute, Second}
use Rattle.cal_spec.proofs.NormalLemmas.{parts_from_sound}
use Rattle.cal_spec.proofs.NormalFieldsLemmas.{fields_valid, fields_twice}
use Rattle.cal_spec.proofs.expr.Expr.normal.Goals as goal

pub normal_date-requires : goal.normal_date-requires
unfolding fields_of
normal_date-requires c = record {
  year = parts_from_sound Year _ c.requires.year;
  month = parts_from_sound Month _ c.requires.month;
  day = parts_from_sound (day_slot c.args.fields.date.from_end) _ c.requires.day;
}

pub normal_time-requires : goal.normal_time-requires
unfolding fields_of
normal_time-requires c = record {
  hour = parts_from_sound Hour _ c.requires.hour;
  minute = parts_from_sound Minute _ c.requires.minute;
  second = parts_from_sound Second _ c.requires.second;
}

pub invariant_of-result : goal.invariant_of-result
unfolding fields_of normal_fields
invariant_of-result c =
    let f = fields_of c.args.fields in
    let date = c.normal_date.ensures in
    let time = c.normal_time.ensures in
    let made : declared_fields.Fields = record { weekdays = c.args.fields.weekdays; date = c.normal_date.result; time = c.normal_time.result; zone = c.args.fields.zone } in
    let same : fields_of made ≡ normal_fields f = rw (date.year, date.month, date.day, time.hour, time.minute, time.second, date.from_end) refl in
    subst IsExpr (sym same) (record { valid = fields_valid f c.requires; normal = fields_twice f c.requires })

pub returns : goal.returns
unfolding fields_of normal_fields
returns c =
    let date = c.normal_date.ensures in
    let time = c.normal_time.ensures in
    rw (date.year, date.month, date.day, time.hour, time.minute, time.second, date.from_end) refl
