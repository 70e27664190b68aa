-- Steps without an end, such as `0/7`, that systemd 252 computes wrongly: systemd.time(7), Calendar Events. Such a step
-- should match numbers up to the last number of its field. But after its last member, systemd 252 goes on to the number
-- that the step reaches past the field's last number: after minute 56 to minute 63, which is minute 3 of the next hour.
-- Ranges with a step, such as `0..59/7`, are computed correctly.
use Rattle.std.specs.Prelude.{◌==◌, ℕ, ◌+◌, ◌-◌, ◌%◌, Bool, true, false, not, ◌&&◌, nat_lt, List, [], ◌∷◌, Option, None, Some, Result, Ok, is_some, if◌then◌else◌}
use Rattle.std.specs.List.{find, list_any, range_with_len}
use Rattle.cal_bytes.specs.rules.AndThen.{◌>>=◌}
use Rattle.cal_civil.specs.rules.LocalSecond.{first_year, last_year}
use Rattle.cal_civil.specs.rules.ZoneName.{is_utc_name}
use Rattle.cal_spec.specs.computed.Expr.{component, expr_in, members_of}
use Rattle.cal_spec.specs.rules.Fields.{Fields}
use Rattle.cal_spec.specs.rules.Members.{sets_of}
use Rattle.cal_spec.specs.rules.ZoneSuffix.{ZoneSuffix, of_name, at_offset}
use Rattle.cal_spec.specs.declared.field.Field.{Field}
use Rattle.cal_spec.specs.declared.field.Field.TheVariants.{Year, Month, Day, Hour, Minute, Second}
use Rattle.cal_spec.specs.declared.field.Part.{Part}
use Rattle.cal_spec.specs.declared.spec_fault.SpecFault.{SpecFault}
use Rattle.cal_lint.specs.declared.open_steps.OpenStepFlaw.{OpenStepFlaw}
use Rattle.cal_lint.specs.declared.open_steps.OpenStepFlaw.TheVariants.{LosesElapses, FailsAtClockChanges, FailsAtMidnightChanges}

-- ## The numbers of a field

abbrev pub first_number : Field → ℕ
first_number Year = first_year
first_number Month = 1
first_number Day = 1
first_number Hour = 0
first_number Minute = 0
first_number Second = 0

-- the last number of a field; months have 31 days here, since a step in the days loses elapses only from December to
-- January (`can_follow`)
abbrev pub last_number : Field → ℕ
last_number Year = last_year
last_number Month = 12
last_number Day = 31
last_number Hour = 23
last_number Minute = 59
last_number Second = 59

-- how many numbers a field has
abbrev pub count_of : Field → ℕ
count_of field = last_number field + 1 - first_number field

-- all numbers of a field, from the first to the last
abbrev pub numbers_of : Field → List ℕ
numbers_of field = range_with_len (first_number field) (count_of field)

-- the value that a field's component has to match for the number `n`: `n` itself, or, if days are counted from the
-- month's end, the count of day `n` in a month of 31 days
abbrev pub component_value : Bool → Field → ℕ → ℕ
component_value true Day n = 32 - n
component_value from_end field n = n

-- whether `n` is one of the members of a field: the numbers that its component matches
abbrev pub is_member : Fields → Field → ℕ → Bool
is_member f field n = members_of field (sets_of f) (component_value f.from_end field n)

-- ## The number at which the search goes on

-- whether `n`, which must not be below `start`, is one of the numbers `start`, `start` + `step`, .. of a step without
-- an end
abbrev pub step_reaches : ℕ → Option ℕ → Option ℕ → ℕ → Bool
step_reaches start None (Some step) n = (n - start) % step == 0
step_reaches start end step n = false

-- whether the part is a step without an end that goes on past the field's last number and reaches the number `n` in the
-- next larger unit, as a step of minutes that goes on to minute 63 reaches minute 3 of the next hour
abbrev pub part_reaches : Bool → Field → ℕ → Part → Bool
part_reaches from_end field n p = step_reaches (component_value from_end field p.start) p.end p.step (n + count_of field)

abbrev pub any_reaches : Bool → Field → Option (List Part) → ℕ → Bool
any_reaches from_end field None n = false
any_reaches from_end field (Some parts) n = list_any (part_reaches from_end field n) parts

-- Whether the search stops in time, at the field's last number. This doesn't help in the seconds, since systemd
-- continues the search a microsecond after each elapse, and then already tries the number after the last.
abbrev pub stops_in_time : Fields → Field → Bool
stops_in_time f Second = false
stops_in_time f field = is_member f field (last_number field)

-- the least number of the field that a step without an end reaches in the next larger unit
abbrev pub first_reached : Fields → Field → Option ℕ
first_reached f field = find (any_reaches f.from_end field (component field f)) (numbers_of field)

-- The number of the field at which steps without an end make the search go on in the next larger unit: 3 if it goes on
-- at minute 63, which is minute 3 of the next hour. None if no step does so; then the search goes on at the first
-- number, as it should.
abbrev pub resumes_at : Fields → Field → Option ℕ
resumes_at f field = if stops_in_time f field then None else first_reached f field

abbrev pub is_before : Option ℕ → Option ℕ → Bool
is_before (Some a) (Some b) = nat_lt a b
is_before a b = false

-- ## Lost elapses

-- Whether the next larger field matches both before and after it starts over: minutes 59 and 0 for the seconds, hours
-- 23 and 0 for the minutes, the last and the first day of a month for the hours, and December and January for the days.
-- No other field is examined. So the flaw is also reported for expressions whose weekdays or dates are never
-- consecutive, such as `Mon *:0/7`.
abbrev pub can_follow : Fields → Field → Bool
can_follow f Year = false
can_follow f Month = false
can_follow f Day = is_member f Month 12 && is_member f Month 1
can_follow f Hour = members_of Day (sets_of f) 1 && list_any (members_of Day (sets_of f)) (28 ∷ 29 ∷ 30 ∷ 31 ∷ [])
can_follow f Minute = is_member f Hour 23 && is_member f Hour 0
can_follow f Second = is_member f Minute 59 && is_member f Minute 0

-- Whether systemd 252 loses elapses because the search goes on after the field's first member. If the step is in the
-- seconds, the lost elapses are at the start of an hour; if it is in the minutes, at the start of a day; if it is in
-- the hours, on the first day of a month; if it is in the days, in January.
abbrev pub loses_elapses : Fields → Field → Bool
loses_elapses f field =
    is_before (find (is_member f field) (numbers_of field)) (resumes_at f field) && can_follow f field

-- ## Failures at clock changes

-- whether the clock may change: the zone isn't UTC, and isn't a UTC offset; not all other zones have clock changes
abbrev pub may_change : Option ZoneSuffix → Bool
may_change None = true
may_change (Some (of_name name)) = not (is_utc_name name)
may_change (Some (at_offset seconds)) = false

-- Whether the search fails, or loses an elapse, around a clock change. If the search goes on at a number after the
-- field's first one, systemd 252 returns to the first one, but still in the summer time or winter time of the number
-- that the step reached. If the clock changes in between, it can return to the previous day, and search forever.
-- For days, the number at which the search goes on depends on the length of the month, so any such number counts here.
abbrev pub fails_at_changes : Fields → Field → Bool
fails_at_changes f Month = is_before (Some 1) (resumes_at f Month)
fails_at_changes f Day = is_some (resumes_at f Day)
fails_at_changes f Hour = is_before (Some 0) (resumes_at f Hour)
fails_at_changes f field = false

-- ## All flaws

-- Whether the expression has this flaw. `FailsAtMidnightChanges` is the last of `flaws`: if the search goes on at an
-- hour other than 0, `FailsAtClockChanges` is found first.
abbrev pub has_flaw : Fields → OpenStepFlaw → Bool
has_flaw f (LosesElapses field) = loses_elapses f field
has_flaw f (FailsAtClockChanges field) = may_change f.zone && fails_at_changes f field
has_flaw f FailsAtMidnightChanges = may_change f.zone && is_some (resumes_at f Hour)

abbrev pub flaws : List OpenStepFlaw
flaws =
    LosesElapses Day ∷ LosesElapses Hour ∷ LosesElapses Minute ∷ LosesElapses Second
    ∷ FailsAtClockChanges Month ∷ FailsAtClockChanges Day ∷ FailsAtClockChanges Hour ∷ FailsAtMidnightChanges ∷ []

-- the first flaw of an expression with these fields, or None if steps without an end cause no flaw
unfoldable pub flaw_of : Fields → Option OpenStepFlaw
flaw_of f = find (has_flaw f) flaws

-- the first flaw of a valid expression, or None if steps without an end cause no flaw; for an invalid expression, the
-- error
unfoldable pub flaw_in : List ℕ → Result (Option OpenStepFlaw) SpecFault
flaw_in text = expr_in text >>= λ f. Ok (flaw_of f)
