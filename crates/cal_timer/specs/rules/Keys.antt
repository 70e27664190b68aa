-- The keys of the section `Timer` by kind: those of systemd.timer(5), Options, and this project's own key for
-- exceptions, `X-ExceptOnCalendar=`. systemd.unit(5) leaves keys that begin with `X-` to other programs.
use Rattle.std.specs.Prelude.{ℕ, Bool, true, false, find, List, [], ◌∷◌, Option, Some, codes}
use Rattle.std.specs.List.{list_any}
use Rattle.std.specs.Str.{bytes_eq}
use Rattle.cal_timer.specs.declared.keys.KeyKind.{KeyKind}
use Rattle.cal_timer.specs.declared.keys.KeyKind.TheVariants.{SpanTrigger, ChangeTrigger, CalendarTrigger, Exception, TimingBoolean, OtherBoolean, Delay, Accuracy, StartedUnit}

-- the keys of a kind
unfoldable pub keys_of : KeyKind → List (List ℕ)
keys_of SpanTrigger =
    codes "OnActiveSec" ∷ codes "OnBootSec" ∷ codes "OnStartupSec" ∷ codes "OnUnitActiveSec" ∷ codes "OnUnitInactiveSec" ∷ []
keys_of ChangeTrigger = codes "OnClockChange" ∷ codes "OnTimezoneChange" ∷ []
keys_of CalendarTrigger = codes "OnCalendar" ∷ []
keys_of Exception = codes "X-ExceptOnCalendar" ∷ []
keys_of TimingBoolean = codes "Persistent" ∷ codes "FixedRandomDelay" ∷ []
keys_of OtherBoolean = codes "WakeSystem" ∷ codes "RemainAfterElapse" ∷ []
keys_of Delay = codes "RandomizedDelaySec" ∷ []
keys_of Accuracy = codes "AccuracySec" ∷ []
keys_of StartedUnit = codes "Unit" ∷ []

abbrev pub all_kinds : List KeyKind
all_kinds =
    SpanTrigger ∷ ChangeTrigger ∷ CalendarTrigger ∷ Exception ∷ TimingBoolean ∷ OtherBoolean ∷ Delay ∷ Accuracy ∷ StartedUnit ∷ []

-- the kind of a key, or None if neither systemd nor this project knows the key
unfoldable pub kind_of : List ℕ → Option KeyKind
kind_of key = find (λ kind. list_any (bytes_eq key) (keys_of kind)) all_kinds

-- whether the key is `OnCalendar`
abbrev pub is_calendar_trigger : Option KeyKind → Bool
is_calendar_trigger (Some CalendarTrigger) = true
is_calendar_trigger _ = false

-- whether the key is the key of exceptions
abbrev pub is_exception_key : Option KeyKind → Bool
is_exception_key (Some Exception) = true
is_exception_key _ = false

-- whether an empty value clears the list of expressions, if the key is of this kind: `OnCalendar`, or a key that starts
-- the unit a time span after an event
abbrev pub clears_expressions : Option KeyKind → Bool
clears_expressions (Some SpanTrigger) = true
clears_expressions (Some CalendarTrigger) = true
clears_expressions _ = false
