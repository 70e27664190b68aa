-- Timers that are made of calendar expressions or entries of crontabs, without files: systemd.time(7), Calendar Events;
-- crontab(5).
use Rattle.std.specs.Prelude.{◌≡◌, ◌≢◌, ◌⊎◌, ◌++◌, ℕ, Bool, List, [], ◌∷◌, All, None, Option, Some, Result, Ok, Err, String, is_ok, length, map, not, option_map, string_bytes, true}
use Rattle.std.specs.List.{find, flat_map, list_any}
use Rattle.std.specs.Option.{option_to_list}
use Rattle.std.specs.Str.{bytes_eq}
use Rattle.std.specs.declared.alloc.Global.{Global}
use Rattle.cal_cron.specs.computed.Translation.{exprs_in}
use Rattle.cal_cron.specs.declared.cron_fault.CronFault.{CronFault}
use Rattle.cal_cron.specs.declared.cron_fault.CronFault.TheVariants.{FieldCount, Reboot}
use Rattle.cal_cron.specs.rules.CronMatch.{CronExprs}
use Rattle.cal_cron.specs.rules.CrontabLines.{single_entry_time}
use Rattle.cal_spec.specs.computed.Expr.{expr_in}
use Rattle.cal_spec.specs.declared.spec_fault.SpecFault.{SpecFault}
use Rattle.cal_spec.specs.rules.ExprText.{expr_text}
use Rattle.cal_spec.specs.rules.Fields.{Fields}
use Rattle.cal_spec.specs.rules.ZoneSuffix.{name_in}
use Rattle.cal_timer.specs.rules.TimerEntries.{TimerLine}
use Rattle.cal_machine.specs.rules.Machine.{Machine}
use Rattle.cal_zone.specs.rules.ZoneTable.{ZoneMap}
use Rattle.cal_zone_files.specs.declared.fault.FileReason.{FileReason}
use Rattle.cal_zone_files.specs.rules.ZoneFiles.{IsReasonOn}
use Rattle.cal_load.specs.rules.CalendarZones.{exceptions_in, expressions_in}
use Rattle.cal_load.specs.rules.Loaded.{HasZones}
use Rattle.cal_load.specs.declared.fault.TargetLoadFault.{TargetLoadFault}
use Rattle.cal_load.specs.declared.fault.TargetLoadFault as faults
use Rattle.cal_load.specs.declared.loaded.Loaded.{Loaded}
use Rattle.cal_load.specs.declared.loaded.LoadedTimer.{LoadedTimer}
use Rattle.cal_load.specs.declared.target_fault.TargetFault.{TargetFault}
use Rattle.cal_load.specs.declared.target_fault.TargetReason.{TargetReason}
use Rattle.cal_load.specs.declared.target_fault.TargetReason.TheVariants.{NotFound, Template, TooManyAliases, Path, Broken, NothingToDo, Expression, CrontabEntry, ExpressionZone}

-- ## What a text stands for

-- an expression: its text and its fields
pub record Written : Type 0 where
  pub text : List ℕ
  pub fields : Fields

abbrev pub in_normal_form : Fields → Written
in_normal_form fields = record { text = expr_text fields; fields = fields }

-- the expressions of an entry
abbrev pub expressions_of : CronExprs → List Written
expressions_of exprs = in_normal_form exprs.first ∷ map in_normal_form (option_to_list exprs.other)

-- why a text stands for no expressions: its error as an expression, or as an entry
pub data Unread : Type 0 where
  NotExpression : (fault : SpecFault) → Unread
  NotEntry : (fault : CronFault) → Unread

-- The expressions of an entry, or an error: that of the text as an expression (`invalid`) if it has too few words for
-- an entry, and otherwise that of the entry.
abbrev pub read_as_entry : SpecFault → Result (Option CronExprs) CronFault → Result (List Written) Unread
read_as_entry invalid (Ok (Some exprs)) = Ok (expressions_of exprs)
read_as_entry invalid (Ok None) = Err (NotEntry Reboot)
read_as_entry invalid (Err FieldCount) = Err (NotExpression invalid)
read_as_entry invalid (Err fault) = Err (NotEntry fault)

abbrev pub read_unless_invalid : List ℕ → Result Fields SpecFault → Result (List Written) Unread
read_unless_invalid text (Ok fields) = Ok (record { text = text; fields = fields } ∷ [])
read_unless_invalid text (Err fault) = read_as_entry fault (single_entry_time exprs_in text)

-- the expressions that a text stands for: itself or, if it isn't an expression, those of an entry of a crontab
unfoldable pub expressions_for : List ℕ → Result (List Written) Unread
expressions_for text = read_unless_invalid text (expr_in text)

-- ## Timers

abbrev pub written : TimerLine Fields → Written
written entry = record { text = entry.text; fields = entry.expr }

abbrev pub or_none : Result (List Written) Unread → List Written
or_none (Ok found) = found
or_none (Err why) = []

-- each of these texts stands for expressions, and the lines of the timer are these expressions, in order
abbrev pub AreOf : List (List ℕ) → List (TimerLine Fields) → Type 0
AreOf texts entries =
    (map written entries ≡ flat_map (λ text. or_none (expressions_for text)) texts)
    × All (λ text. is_ok (expressions_for text) ≡ true) texts

-- the timer has these entries as its expressions, no exceptions, this table of zones, and no lines that are ignored
-- because an expression is invalid or because of their zone
abbrev pub IsTimerOf : List (TimerLine Fields) → ZoneMap → LoadedTimer → Type 0
IsTimerOf entries table timer =
    (expressions_in timer.calendar ≡ entries) × (exceptions_in timer.calendar ≡ []) × (timer.zones ≡ table)
    × (timer.files.ignored.items ≡ []) × (timer.files.unusable_zones.items ≡ [])

-- the timer has these expressions and no exceptions, the zones of the machine that the expressions name, and no lines
-- that are ignored because an expression is invalid or because of their zone
abbrev pub IsMadeOf : Machine → List (List ℕ) → LoadedTimer → Type 0
IsMadeOf machine texts timer =
    AreOf texts (expressions_in timer.calendar) × (exceptions_in timer.calendar ≡ [])
    × HasZones machine timer.calendar timer.zones × (timer.files.ignored.items ≡ []) × (timer.files.unusable_zones.items ≡ [])

-- ## Errors

-- the first of these texts that doesn't stand for expressions
abbrev pub first_invalid : List (List ℕ) → Option (List ℕ)
first_invalid texts = find (λ text. not (is_ok (expressions_for text))) texts

-- whether the entry names this zone
abbrev pub names_zone : List ℕ → TimerLine Fields → Bool
names_zone zone entry = list_any (bytes_eq zone) (option_to_list (name_in entry.expr.zone))

-- the text of the first entry that names this zone
abbrev pub first_with_zone : List ℕ → List (TimerLine Fields) → Option (List ℕ)
first_with_zone zone entries = option_map (λ entry. entry.text) (find (names_zone zone) entries)

-- the file of this zone can't be used for this reason, and `target` is the text of the first entry that names the zone
pub record IsUnusableZone (machine : Machine) (entries : List (TimerLine Fields)) (target zone : List ℕ) (reason : FileReason) : Type 0 where
  pub is_unusable : IsReasonOn machine zone reason
  pub is_first : first_with_zone zone entries ≡ Some target

-- Why these texts don't make a timer: `target` is the first of them that is invalid, and `fault` is the error of
-- parsing it as an expression or as an entry. Or all of them are valid, the file of `zone` can't be used, and `target`
-- is the first that names this zone. `Shows` holds for the machines that agree with what the tree returned.
abbrev pub IsExpressionReason : (Machine → Type 0) → List (List ℕ) → List ℕ → TargetReason → Type 0
IsExpressionReason Shows texts target NotFound = ⊥
IsExpressionReason Shows texts target Template = ⊥
IsExpressionReason Shows texts target TooManyAliases = ⊥
IsExpressionReason Shows texts target (Path place why) = ⊥
IsExpressionReason Shows texts target (Broken place line) = ⊥
IsExpressionReason Shows texts target (NothingToDo own read) = ⊥
IsExpressionReason Shows texts target (Expression fault) =
    (first_invalid texts ≡ Some target) × (expressions_for target ≡ Err (NotExpression fault))
IsExpressionReason Shows texts target (CrontabEntry fault) =
    (first_invalid texts ≡ Some target) × (expressions_for target ≡ Err (NotEntry fault))
IsExpressionReason Shows texts target (ExpressionZone zone reason) =
    (entries : List (TimerLine Fields)) × AreOf texts entries
    × ((machine : Machine) → Shows machine → IsUnusableZone machine entries target (string_bytes zone) reason)

-- ## Results

-- there is one timer, and no error
abbrev pub HasOneTimer : Loaded → Type 0
HasOneTimer loaded = (length loaded.timers.items ≡ 1) × (loaded.faults.items ≡ [])

-- there is no timer, and one error, which says why these texts don't make a timer
abbrev pub HasOneFault : (Machine → Type 0) → List (List ℕ) → Loaded → Type 0
HasOneFault Shows texts loaded =
    (loaded.timers.items ≡ [])
    × ((fault : TargetFault) × (loaded.faults.items ≡ fault ∷ []) × IsExpressionReason Shows texts (string_bytes fault.target) fault.reason)

-- These texts made a timer, or there is an error that says why they don't make one. `Shows` holds for the machines that
-- agree with what the tree returned.
abbrev pub IsTimerOrReason : (Machine → Type 0) → List (List ℕ) → Loaded → Type 0
IsTimerOrReason Shows texts loaded = (loaded.masked.items ≡ []) × (HasOneTimer loaded ⊎ HasOneFault Shows texts loaded)

-- ## Steps

abbrev pub reason_of : Unread → TargetReason
reason_of (NotExpression fault) = Expression fault
reason_of (NotEntry fault) = CrontabEntry fault

-- unless memory ran out, reading the text failed, and this is its error
abbrev pub IsParseError : Result (List Written) Unread → TargetLoadFault → Type 0
IsParseError (Ok found) error = error ≢ faults.TheVariants.NoMemory → ⊥
IsParseError (Err why) error = error ≢ faults.TheVariants.NoMemory → error ≡ faults.TheVariants.Target (reason_of why)

-- `new` is `old`, followed by the expressions that a text stands for
abbrev pub AreAppended : Result (List Written) Unread → List (TimerLine Fields) → List (TimerLine Fields) → Type 0
AreAppended (Ok found) old new = map written new ≡ map written old ++ found
AreAppended (Err why) old new = ⊥

-- nothing was loaded, and the only error is this one, which is about the target with this name
pub record HasOnlyFault (target : List ℕ) (error : TargetLoadFault) (loaded : Loaded) : Type 0 where
  pub timers : loaded.timers.items ≡ []
  pub masked : loaded.masked.items ≡ []
  pub fault : TargetFault
  pub only : loaded.faults.items ≡ fault ∷ []
  pub named : string_bytes fault.target ≡ target
  pub is_error : error ≡ faults.TheVariants.Target fault.reason

-- nothing was loaded, and the only error is about the file of this zone; its target is the text of the first entry that
-- names the zone, if an entry does
abbrev pub HasOnlyZoneFault : List (TimerLine Fields) → String Global → FileReason → Loaded → Type 0
HasOnlyZoneFault entries zone reason loaded =
    (target : List ℕ) × HasOnlyFault target (faults.TheVariants.Target (ExpressionZone zone reason)) loaded
    × ((text : List ℕ) → first_with_zone (string_bytes zone) entries ≡ Some text → target ≡ text)
