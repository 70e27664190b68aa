-- Parsing of a field of a crontab line, step by step.
use Rattle.std.specs.Prelude.{ℕ, ◌-◌, ◌==◌, ◌≡◌, nat_lt, Bool, ◌&&◌, if◌then◌else◌, List, [], ◌∷◌, length, codes, Option, None, Some, Result, Ok, Err}
use Rattle.std.specs.List.{list_all, slice_split}
use Rattle.std.specs.Option.{option_map, ok_or}
use Rattle.std.specs.Char.{is_ascii_digit}
use Rattle.std.specs.Str.{bytes_eq}
use Rattle.std.specs.Str.Parse.{digits_value}
use Rattle.cal_bytes.specs.rules.AndThen.{◌>>=◌}
use Rattle.cal_bytes.specs.rules.Separators.{is_comma}
use Rattle.cal_cron.specs.rules.CronGrammar.{greatest, least, max_items, max_step, name_in}
use Rattle.cal_cron.specs.declared.cron_field.CronField.{CronField}
use Rattle.cal_cron.specs.declared.items.CronRange.{CronRange}
use Rattle.cal_cron.specs.declared.field_fault.FieldFault.{FieldFault}
use Rattle.cal_cron.specs.declared.field_fault.FieldFault.TheVariants.{BadValue, OutOfField, BackwardRange, BadStep, ZeroStep, LargeStep, StepAlone, TooManyItems, NoMemory}

-- the result of a call is what a definition gives: the same error, or a value whose view is the definition's value
abbrev pub Gives : {T V : Type 0} → (T → V) → Result T FieldFault → Result V FieldFault → Type 0
Gives view (Ok x) read = read ≡ Ok (view x)
Gives view (Err e) read = read ≡ Err e

-- like `Gives`, but the call may also fail with `NoMemory`
abbrev pub GivesUnlessNoMemory : {T V : Type 0} → (T → V) → Result T FieldFault → Result V FieldFault → Type 0
GivesUnlessNoMemory view (Ok x) read = read ≡ Ok (view x)
GivesUnlessNoMemory view (Err e) read = (e ≡ NoMemory → ⊥) → read ≡ Err e

abbrev pub is_number : List ℕ → Bool
is_number text = nat_lt 0 (length text) && list_all is_ascii_digit text

abbrev pub number_within : CronField → ℕ → Result ℕ FieldFault
number_within field n =
    if nat_lt n (least field) then Err OutOfField
    else (if nat_lt (greatest field) n then Err OutOfField else Ok n)

-- parses a number that the field allows, or a name
unfoldable pub value_in : CronField → List ℕ → Result ℕ FieldFault
value_in field text =
    if is_number text then number_within field (digits_value 10 text) else ok_or (name_in field text) BadValue

abbrev pub step_within : ℕ → Result ℕ FieldFault
step_within n = if n == 0 then Err ZeroStep else (if nat_lt max_step n then Err LargeStep else Ok n)

-- parses a step: a number from 1 to `max_step`
unfoldable pub step_in : List ℕ → Result ℕ FieldFault
step_in text = if is_number text then step_within (digits_value 10 text) else Err BadStep

pub record Cut : Type 0 where
  pub front : List ℕ
  pub back : List ℕ

abbrev pub with_front : ℕ → Cut → Cut
with_front b found = record { front = b ∷ found.front; back = found.back }

-- the texts before and after the first separator, or None if there is no separator
abbrev pub cut : ℕ → List ℕ → Option Cut
cut separator [] = None
cut separator (b ∷ bs) =
    if b == separator then Some (record { front = []; back = bs })
    else option_map (with_front b) (cut separator bs)

-- the range from `a` to `b`, unless it runs backwards
abbrev pub range_of : ℕ → ℕ → Result (Option CronRange) FieldFault
range_of a b =
    if nat_lt b a then Err BackwardRange else Ok (Some (record { first = a; last = b; step = 1 }))

abbrev pub span_at : CronField → Option Cut → Result (Option CronRange) FieldFault
span_at field None = Ok None
span_at field (Some found) =
    value_in field found.front >>= λ a. value_in field found.back >>= λ b. range_of a b

-- parses `*` or `a-b`; None for any other text
unfoldable pub span_in : CronField → List ℕ → Result (Option CronRange) FieldFault
span_in field text =
    if bytes_eq text (codes "*") then Ok (Some (record { first = least field; last = greatest field; step = 1 }))
    else span_at field (cut 45 text)

-- the range with the step, or `StepAlone` if the text before the step is neither `*` nor `a-b`
abbrev pub stepped : List ℕ → Option CronRange → Result CronRange FieldFault
stepped step None = Err StepAlone
stepped step (Some r) = step_in step >>= λ s. Ok (record { first = r.first; last = r.last; step = s })

abbrev pub unstepped : CronField → List ℕ → Option CronRange → Result CronRange FieldFault
unstepped field text None = value_in field text >>= λ n. Ok (record { first = n; last = n; step = 1 })
unstepped field text (Some r) = Ok r

abbrev pub item_at : CronField → List ℕ → Option Cut → Result CronRange FieldFault
item_at field text None = span_in field text >>= unstepped field text
item_at field text (Some found) = span_in field found.front >>= stepped found.back

-- parses an item: `a`, `a-b` or `*`, or one of the latter two with a step, `/s`
unfoldable pub item_in : CronField → List ℕ → Result CronRange FieldFault
item_in field text = item_at field text (cut 47 text)

-- parses the next item of a field that may have `room` more items
unfoldable pub item_due : CronField → ℕ → List ℕ → Result CronRange FieldFault
item_due field room text = if room == 0 then Err TooManyItems else item_in field text

-- parses at most `room` items
abbrev pub items_in : CronField → ℕ → List (List ℕ) → Result (List CronRange) FieldFault
items_in field room [] = Ok []
items_in field room (t ∷ ts) =
    item_due field room t >>= λ r. items_in field (room - 1) ts >>= λ rs. Ok (r ∷ rs)

-- parses a field: at most `max_items` items that are separated by commas
unfoldable pub field_in : CronField → List ℕ → Result (List CronRange) FieldFault
field_in field text = items_in field max_items (slice_split is_comma text)
