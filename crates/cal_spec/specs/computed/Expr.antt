-- Valid expressions in normal form: how a text is parsed into such an expression, and which values each component of
-- the expression matches (systemd.time(7), Calendar Events). A `Field` names a component.
use Rattle.std.specs.Prelude.{◌≡◌, ℕ, List, Option, Result, Ok, Bool}
use Rattle.cal_spec.specs.rules.Fields.{Fields}
use Rattle.cal_spec.specs.computed.Grammar.{fields_in}
use Rattle.cal_spec.specs.computed.NormalParts.{normal_fields}
use Rattle.cal_bytes.specs.rules.AndThen.{◌>>=◌}
use Rattle.cal_spec.specs.rules.ValidFields.{IsValidFields}
use Rattle.cal_spec.specs.declared.field.Field.{Field}
use Rattle.cal_spec.specs.declared.field.Field.TheVariants as field
use Rattle.cal_spec.specs.declared.field.Part.{Part}
use Rattle.cal_spec.specs.declared.spec_fault.SpecFault.{SpecFault}
use Rattle.cal_spec.specs.rules.Match.{Sets}

-- the fields are valid and in normal form
pub record IsExpr (f : Fields) : Type 0 where
  pub valid : IsValidFields f
  pub normal : normal_fields f ≡ f

-- parses an expression into its normal form, or fails with the text's first error
unfoldable pub expr_in : List ℕ → Result Fields SpecFault
expr_in text = fields_in text >>= λ f. Ok (normal_fields f)

-- the component that a value of `Field` names
abbrev pub component : Field → Fields → Option (List Part)
component field.Year f = f.year
component field.Month f = f.month
component field.Day f = f.day
component field.Hour f = f.hour
component field.Minute f = f.minute
component field.Second f = f.second

abbrev pub members_of : Field → Sets → ℕ → Bool
members_of field.Year sets = sets.year
members_of field.Month sets = sets.month
members_of field.Day sets = sets.day
members_of field.Hour sets = sets.hour
members_of field.Minute sets = sets.minute
members_of field.Second sets = sets.second
