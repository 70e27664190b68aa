-- The five fields of a line of a crontab: crontab(5). Blanks separate the fields.
use Rattle.std.specs.Prelude.{ℕ, ◌==◌, Bool, false, ◌&&◌, ◌||◌, if◌then◌else◌, is_some, List, [], ◌∷◌, Option, None, Some, Result, Ok, Err}
use Rattle.std.specs.Char.{is_ascii_digit}
use Rattle.std.specs.List.{list_all}
use Rattle.std.specs.Option.{option_map_or}
use Rattle.cal_bytes.specs.rules.Separators.{words}
use Rattle.cal_cron.specs.computed.Translation.{exprs_in}
use Rattle.cal_cron.specs.declared.cron_fault.CronFault.{CronFault}
use Rattle.cal_cron.specs.rules.CronMatch.{CronExprs}
use Rattle.cal_spec.specs.rules.ExprText.{expr_text}
use Rattle.cal_lint.specs.declared.crontab.CrontabFields as declared_fields

pub record CrontabFields : Type 0 where
  pub minute : List ℕ
  pub hour : List ℕ
  pub day : List ℕ
  pub month : List ℕ
  pub weekday : List ℕ

-- how contracts see the fields: by the contents of their texts
abbrev pub shown_fields : declared_fields.CrontabFields → CrontabFields
shown_fields f =
    record { minute = f.minute.now; hour = f.hour.now; day = f.day.now; month = f.month.now; weekday = f.weekday.now }

-- the words as the five fields of a crontab, or None unless there are exactly five words
abbrev pub five_words : List (List ℕ) → Option CrontabFields
five_words (minute ∷ hour ∷ day ∷ month ∷ weekday ∷ []) =
    Some (record { minute = minute; hour = hour; day = day; month = month; weekday = weekday })
five_words ws = None

-- a digit, `*`, `/`, `,` or `-`
abbrev pub is_field_byte : ℕ → Bool
is_field_byte b = is_ascii_digit b || (b == 42) || (b == 47) || (b == 44) || (b == 45)

-- whether the first four fields consist only of digits, `*`, `/`, `,` and `-`, so that they have no names such as `jan`
abbrev pub are_crontab : CrontabFields → Bool
are_crontab f =
    list_all is_field_byte f.minute && list_all is_field_byte f.hour && list_all is_field_byte f.day && list_all is_field_byte f.month

-- whether the text looks like the five fields of a crontab
unfoldable pub is_crontab : List ℕ → Bool
is_crontab text = option_map_or are_crontab (five_words (words text)) false

-- the normal form of an expression that alone elapses when cron runs the line; empty if the line takes two expressions,
-- or if cron rejects it
abbrev pub single_expression : Result CronExprs CronFault → List ℕ
single_expression (Ok exprs) = if is_some exprs.other then [] else expr_text exprs.first
single_expression (Err fault) = []

-- The expression to write instead of the fields of a crontab, or an empty text if there is none. By the law
-- `expressions_elapse_when_cron_runs` of `cal_cron`, it elapses exactly when cron runs the line.
unfoldable pub crontab_expression : List ℕ → List ℕ
crontab_expression text = single_expression (exprs_in text)
