-- Examples of the calendar of a timer, and of the lines that are ignored. To keep them short, `read` stands for the
-- parser: a text of 5 bytes is a valid expression, and is its own parsed form; any other text is invalid.
use Rattle.std.proofs.Common.{◌≡◌, ◌==◌, ℕ, List, [], ◌∷◌, Ok, Err, Result, codes, length, refl}
use Rattle.std.specs.Prelude.{if◌then◌else◌}
use Rattle.cal_spec.specs.declared.spec_fault.SpecFault.{SpecFault}
use Rattle.cal_spec.specs.declared.spec_fault.SpecFault.TheVariants.{NoRepeat}
use Rattle.cal_timer.specs.rules.Assignments.{Assignment}
use Rattle.cal_timer.specs.rules.Keys.{keys_of, kind_of}
use Rattle.cal_timer.specs.rules.TimerEntries.{TimerLine, entries_of}
use Rattle.cal_timer.specs.rules.TimerText.{excepted, is_exception, is_exception_reset, is_expression, is_reset, listed}
use Rattle.cal_load.specs.declared.calendar.IgnoredLine.{IgnoredLine}
use Rattle.cal_load.specs.rules.Loaded.{ignored_in}

abbrev read : List ℕ → Result (List ℕ) SpecFault
read text = if length text == 5 then Ok text else Err NoRepeat

abbrev setting : ℕ → List ℕ → List ℕ → Assignment
setting number key value = record { number = number; key = key; value = value }

abbrev entry : ℕ → List ℕ → TimerLine (List ℕ)
entry number text = record { number = number; text = text; expr = text }

abbrev bad : ℕ → IgnoredLine
bad number = record { number = number; fault = NoRepeat }

-- the empty `OnBootSec=` in line 5 clears the expressions, but not the exceptions; systemd ignores line 8, whose key is
-- misspelled
abbrev settings : List Assignment
settings =
    setting 2 (codes "OnCalendar") (codes "25:00:00") ∷ setting 3 (codes "OnCalendar") (codes "daily")
    ∷ setting 4 (codes "X-ExceptOnCalendar") (codes "06:00") ∷ setting 5 (codes "OnBootSec") []
    ∷ setting 6 (codes "OnCalendar") (codes "12:00") ∷ setting 7 (codes "X-ExceptOnCalendar") (codes "Mo")
    ∷ setting 8 (codes "OnCalender") (codes "Mo") ∷ setting 9 (codes "OnCalendar") (codes "Fr")
    ∷ setting 10 (codes "OnCalendar") (codes "18:00") ∷ []

expressions : entries_of read (listed settings) ≡ entry 6 (codes "12:00") ∷ entry 10 (codes "18:00") ∷ []
unfolding listed is_expression is_reset kind_of keys_of
expressions = refl

exceptions : entries_of read (excepted settings) ≡ entry 4 (codes "06:00") ∷ []
unfolding excepted is_exception is_exception_reset kind_of keys_of
exceptions = refl

ignored : ignored_in read settings ≡ bad 2 ∷ bad 7 ∷ bad 9 ∷ []
unfolding ignored_in is_expression is_exception kind_of keys_of
ignored = refl
