-- Results of parsing, which are a value or an error: systemd.time(7), Calendar Events.
use Rattle.std.specs.Prelude.{◌≡◌, List, [], ◌∷◌, Option, None, Some, Result, Ok, Err}
use Rattle.std.specs.Option.{option_or}
use Rattle.cal_spec.specs.declared.spec_fault.SpecFault.{SpecFault}
use Rattle.cal_spec.specs.declared.spec_fault.SpecFault.TheVariants.{NoMemory}

-- the value, or the error if there is one
abbrev pub unless : {A : Type 0} → Option SpecFault → A → Result A SpecFault
unless None x = Ok x
unless (Some e) x = Err e

-- the first error in a list of checks, if there is one
abbrev pub first_of : List (Option SpecFault) → Option SpecFault
first_of [] = None
first_of (o ∷ os) = option_or o (first_of os)

-- The result of a call agrees with `read`, the result that a definition gives. Either both results are the same error,
-- or both are values. In the second case, applying `view` to the value of the call gives the value of `read`.
abbrev pub Gives : {T V : Type 0} → (T → V) → Result T SpecFault → Result V SpecFault → Type 0
Gives view (Ok x) read = read ≡ Ok (view x)
Gives view (Err e) read = read ≡ Err e

-- The call failed with `NoMemory`, or its result agrees with `read`, the result that a definition gives: either both
-- results are the same error, or applying `view` to the value of the call gives the value of `read`.
abbrev pub GivesUnlessNoMemory : {T V : Type 0} → (T → V) → Result T SpecFault → Result V SpecFault → Type 0
GivesUnlessNoMemory view (Ok x) read = read ≡ Ok (view x)
GivesUnlessNoMemory view (Err e) read = (e ≡ NoMemory → ⊥) → read ≡ Err e
