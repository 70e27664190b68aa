-- Parsing of the time fields of a crontab line, step by step.
use Rattle.std.specs.Prelude.{ℕ, ◌≡◌, ◌||◌, if◌then◌else◌, List, [], ◌∷◌, codes, Option, None, Some, Result, Ok, Err}
use Rattle.std.specs.Str.{bytes_eq}
use Rattle.cal_bytes.specs.rules.AndThen.{◌>>=◌}
use Rattle.cal_bytes.specs.rules.Separators.{words}
use Rattle.cal_cron.specs.computed.Items.{field_in}
use Rattle.cal_cron.specs.rules.CronLine.{LineTexts, Schedule, begins_with_at, begins_with_star, shortcut_named}
use Rattle.cal_cron.specs.declared.cron_field.CronField.{CronField}
use Rattle.cal_cron.specs.declared.cron_field.CronField.TheVariants.{Minute, Hour, Day, Month, Weekday}
use Rattle.cal_cron.specs.declared.items.CronRange.{CronRange}
use Rattle.cal_cron.specs.declared.field_fault.FieldFault.{FieldFault}
use Rattle.cal_cron.specs.declared.cron_fault.CronFault.{CronFault}
use Rattle.cal_cron.specs.declared.cron_fault.CronFault.TheVariants.{FieldCount, UnknownShortcut, Reboot, InField, NoMemory}
use Rattle.cal_cron.specs.declared.shortcuts.LineTexts as declared_texts
use Rattle.cal_cron.specs.declared.lines.CronLine as declared_line

-- the result of a call is what a definition gives: the same error, or a value whose view is the definition's value
abbrev pub LineGives : {T V : Type 0} → (T → V) → Result T CronFault → Result V CronFault → Type 0
LineGives view (Ok x) read = read ≡ Ok (view x)
LineGives view (Err e) read = read ≡ Err e

-- like `LineGives`, but the call may also fail with `NoMemory`
abbrev pub LineGivesUnlessNoMemory : {T V : Type 0} → (T → V) → Result T CronFault → Result V CronFault → Type 0
LineGivesUnlessNoMemory view (Ok x) read = read ≡ Ok (view x)
LineGivesUnlessNoMemory view (Err e) read = (e ≡ NoMemory → ⊥) → read ≡ Err e

abbrev pub shown_texts : declared_texts.LineTexts → LineTexts
shown_texts t =
    record { minute = t.minute.now; hour = t.hour.now; day = t.day.now; month = t.month.now; weekday = t.weekday.now }

abbrev pub shown_line : declared_line.CronLine → Schedule
shown_line l = record {
  minute = l.minute.items;
  hour = l.hour.items;
  day = l.day.items;
  month = l.month.items;
  weekday = l.weekday.items;
  star = l.star;
}

abbrev pub shortcut_by : List ℕ → Option LineTexts → Result LineTexts CronFault
shortcut_by word (Some t) = Ok t
shortcut_by word None =
    if bytes_eq word (codes "@reboot") then Err Reboot
    else (if begins_with_at word then Err UnknownShortcut else Err FieldCount)

unfoldable pub shortcut_in : List ℕ → Result LineTexts CronFault
shortcut_in word = shortcut_by word (shortcut_named word)

-- the texts of the five fields: the five words of the line, or those that its only word stands for
abbrev pub texts_in : List (List ℕ) → Result LineTexts CronFault
texts_in [] = Err FieldCount
texts_in (w ∷ []) = shortcut_in w
texts_in (a ∷ b ∷ []) = Err FieldCount
texts_in (a ∷ b ∷ c ∷ []) = Err FieldCount
texts_in (a ∷ b ∷ c ∷ d ∷ []) = Err FieldCount
texts_in (a ∷ b ∷ c ∷ d ∷ e ∷ []) = Ok (record { minute = a; hour = b; day = c; month = d; weekday = e })
texts_in (a ∷ b ∷ c ∷ d ∷ e ∷ f ∷ ws) = Err FieldCount

-- the result of parsing a field, with the field added to the error if there is one
abbrev pub in_field : CronField → Result (List CronRange) FieldFault → Result (List CronRange) CronFault
in_field field (Ok rs) = Ok rs
in_field field (Err fault) = Err (InField field fault)

unfoldable pub line_at : LineTexts → Result Schedule CronFault
line_at t =
    in_field Minute (field_in Minute t.minute)
    >>= λ minute. in_field Hour (field_in Hour t.hour)
    >>= λ hour. in_field Day (field_in Day t.day)
    >>= λ day. in_field Month (field_in Month t.month)
    >>= λ month. in_field Weekday (field_in Weekday t.weekday)
    >>= λ weekday. Ok (record {
      minute = minute;
      hour = hour;
      day = day;
      month = month;
      weekday = weekday;
      star = begins_with_star t.day || begins_with_star t.weekday;
    })

-- parses the time fields of a crontab line
unfoldable pub line_in : List ℕ → Result Schedule CronFault
line_in text = texts_in (words text) >>= line_at
