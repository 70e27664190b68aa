-- Valid calendar expressions that may not mean what their author thinks: systemd.time(7), Calendar Events.
use Rattle.std.specs.Prelude.{ℕ, ◌==◌, nat_le, nat_lt, Bool, false, not, ◌&&◌, List, [], ◌∷◌, length, Option, None, Some, Result, Ok}
use Rattle.std.specs.Char.{is_ascii_uppercase}
use Rattle.std.specs.List.{find, list_all}
use Rattle.cal_bytes.specs.rules.AndThen.{◌>>=◌}
use Rattle.cal_bytes.specs.rules.Separators.{words}
use Rattle.cal_civil.specs.rules.ZoneName.{is_utc_name}
use Rattle.cal_spec.specs.computed.Expr.{expr_in}
use Rattle.cal_spec.specs.rules.Fields.{Fields}
use Rattle.cal_spec.specs.rules.ZoneSuffix.{name_in}
use Rattle.cal_spec.specs.declared.field.Part.{Part}
use Rattle.cal_spec.specs.declared.spec_fault.SpecFault.{SpecFault}
use Rattle.cal_lint.specs.declared.ambiguities.Ambiguity.{Ambiguity}
use Rattle.cal_lint.specs.declared.ambiguities.Ambiguity.TheVariants.{HourRange, HourList, MonthDay, Abbreviation}

-- the number of a part that is a single number, or None for any other part
abbrev pub part_number : ℕ → Option ℕ → Option ℕ → Option ℕ
part_number start None None = Some start
part_number start end step = None

abbrev pub only_number : List Part → Option ℕ
only_number [] = None
only_number (p ∷ []) = part_number p.start p.end p.step
only_number (p ∷ q ∷ ps) = None

-- the number of a component that is a single number, or None for any other component
abbrev pub single : Option (List Part) → Option ℕ
single None = None
single (Some ps) = only_number ps

-- whether `number` could be a later hour than `hour`: greater than `hour`, and at most 23
abbrev pub is_later_hour : ℕ → ℕ → Bool
is_later_hour hour number = nat_lt hour number && nat_le number 23

abbrev pub is_range_to : ℕ → Option ℕ → Option ℕ → Bool
is_range_to hour (Some end) None = is_later_hour hour end
is_range_to hour end step = false

-- whether the minutes are a single range without a step, which begins at 0 and ends at a number that could be a later
-- hour than `hour`
abbrev pub is_hour_range : ℕ → List Part → Bool
is_hour_range hour [] = false
is_hour_range hour (p ∷ []) = (p.start == 0) && is_range_to hour p.end p.step
is_hour_range hour (p ∷ q ∷ ps) = false

abbrev pub are_zero_and_later : ℕ → Option ℕ → Option ℕ → Bool
are_zero_and_later hour (Some first) (Some second) = (first == 0) && is_later_hour hour second
are_zero_and_later hour first second = false

-- whether the minutes are two single numbers: first 0, and then a number that could be a later hour than `hour`
abbrev pub is_hour_list : ℕ → List Part → Bool
is_hour_list hour [] = false
is_hour_list hour (p ∷ []) = false
is_hour_list hour (p ∷ q ∷ []) = are_zero_and_later hour (part_number p.start p.end p.step) (part_number q.start q.end q.step)
is_hour_list hour (p ∷ q ∷ r ∷ ps) = false

-- whether these minutes, written after this hour, look like a range of hours, for the ambiguity `HourRange`, or like a list
-- of hours, for `HourList`
abbrev pub are_hours : Ambiguity → ℕ → List Part → Bool
are_hours HourRange hour minutes = is_hour_range hour minutes
are_hours HourList hour minutes = is_hour_list hour minutes
are_hours MonthDay hour minutes = false
are_hours Abbreviation hour minutes = false

-- whether the hour and the second are single numbers, and `are_hours` says that the minutes look like hours
abbrev pub has_hours_by : Ambiguity → Option ℕ → Option ℕ → Option (List Part) → Bool
has_hours_by ambiguity (Some hour) (Some second) (Some minutes) = are_hours ambiguity hour minutes
has_hours_by ambiguity hour second minutes = false

abbrev pub has_hours : Ambiguity → Fields → Bool
has_hours ambiguity f = has_hours_by ambiguity (single f.hour) (single f.second) f.minute

-- whether the word is a digit from 1 to 7, `-`, and a greater digit up to 7; such a month and day could be meant as a
-- range of weekdays, with 1 for Monday
abbrev pub is_month_day : List ℕ → Bool
is_month_day (a ∷ b ∷ c ∷ []) = (b == 45) && nat_le 49 a && nat_lt a c && nat_le c 55
is_month_day word = false

abbrev pub has_month_day : List (List ℕ) → Bool
has_month_day [] = false
has_month_day (word ∷ ws) = is_month_day word

-- Whether the name of a zone looks like an abbreviation such as `CET`: 3 to 5 upper-case ASCII letters, and not `UTC`.
-- If it is one of the two abbreviations of the machine's own zone, systemd takes it for winter time or for summer time
-- only.
abbrev pub looks_like_abbreviation : List ℕ → Bool
looks_like_abbreviation name =
    nat_le 3 (length name) && nat_le (length name) 5 && list_all is_ascii_uppercase name && not (is_utc_name name)

-- whether there is a zone with a name, and this name looks like an abbreviation
abbrev pub has_abbreviation : Option (List ℕ) → Bool
has_abbreviation None = false
has_abbreviation (Some name) = looks_like_abbreviation name

-- whether this ambiguity applies to the expression `text`, whose normal form has the fields `f`
abbrev pub is_ambiguous : List ℕ → Fields → Ambiguity → Bool
is_ambiguous text f MonthDay = has_month_day (words text)
is_ambiguous text f Abbreviation = has_abbreviation (name_in f.zone)
is_ambiguous text f ambiguity = has_hours ambiguity f

abbrev pub ambiguities : List Ambiguity
ambiguities = HourRange ∷ HourList ∷ MonthDay ∷ Abbreviation ∷ []

-- the first ambiguity that applies to a valid expression, or None if no ambiguity does; for an invalid expression, the error
unfoldable pub ambiguity_in : List ℕ → Result (Option Ambiguity) SpecFault
ambiguity_in text = expr_in text >>= λ f. Ok (find (is_ambiguous text f) ambiguities)
