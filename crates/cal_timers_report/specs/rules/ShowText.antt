-- The report of `show` and `next` as text: each timer in detail.
use Rattle.std.specs.Prelude.{ℕ, ◌-◌, ◌==◌, ◌||◌, Bool, ℤ, pos, int_le, int_lt, List, [], ◌∷◌, ◌++◌, Option, Some, None, codes, length, map, if◌then◌else◌}
use Rattle.std.specs.List.{flat_map, join_by}
use Rattle.cal_zone.specs.declared.civil_fields.Civil.{Civil}
use Rattle.cal_zone.specs.declared.zone.Zone.{Zone}
use Rattle.cal_zone.specs.rules.Civil.{civil_of}
use Rattle.cal_zone.specs.rules.Instant.{last_instant}
use Rattle.cal_zone.specs.rules.InstantText.{date_text, instant_text, time_text}
use Rattle.cal_zone.specs.rules.Zone.{utc, zone_of}
use Rattle.cal_timers_report.specs.declared.style.Style.{Style}
use Rattle.cal_timers_report.specs.declared.style.Emphasis.TheVariants.{Heading}
use Rattle.cal_timers_report.specs.rules.BetweenText.{instant_width}
use Rattle.cal_timers_report.specs.rules.Columns.{blanks, padded, widest}
use Rattle.cal_timers_report.specs.rules.Emphasis.{begin_text, end_text}
use Rattle.cal_timers_report.specs.rules.PrintableText.{printable_text}
use Rattle.cal_timers_report.specs.rules.ReportView.{ClockTimeView, LineView, TimerView}
use Rattle.cal_timers_report.specs.rules.TimeLeft.{time_ago, two_units}

-- ## Labels

-- the width of the column of labels, with the blanks before and after them
abbrev pub label_width : ℕ
label_width = 13

-- a label that is filled up to the width of its column, and then the rest of the line; the column is blank if the label
-- is empty
abbrev pub labeled : List ℕ → List ℕ → List ℕ
labeled label line = padded label_width label ++ line

-- a line for each item, with the label before the first line
abbrev pub lines_under : {X : Type 0} → List ℕ → (X → List ℕ) → List X → List ℕ
lines_under label line [] = []
lines_under label line (first ∷ others) = labeled label (line first) ++ flat_map (λ item. labeled [] (line item)) others

abbrev pub text_line : List ℕ → List ℕ
text_line text = printable_text text ++ codes "\n"

-- a line for each text, with the label before the first line
unfoldable pub texts_under : List ℕ → List (List ℕ) → List ℕ
texts_under label texts = lines_under label text_line texts

-- ## Last elapse

-- the instant, two spaces, and how long ago it was, or `never` if there is none
abbrev pub last_text : Zone → ℤ → Option ℤ → List ℕ
last_text zone now None = codes "never\n"
last_text zone now (Some secs) = instant_text zone secs ++ (codes "  " ++ (time_ago now secs ++ codes "\n"))

abbrev pub last_or_never : Zone → ℤ → Option ℤ → List ℕ
last_or_never zone now last = labeled (codes "  Last:") (last_text zone now last)

-- the last elapse; nothing for a timer without expressions
unfoldable pub last_line : Zone → ℤ → List LineView → Option ℤ → List ℕ
last_line zone now expressions last = if length expressions == 0 then [] else last_or_never zone now last

-- ## Next elapses

-- how long it is until an instant, after the word `in`, or `now` if the instant isn't in the future
abbrev pub in_time : ℤ → ℤ → List ℕ
in_time now secs = if int_le secs now then codes "now" else codes "in " ++ two_units now secs

-- the instant, spaces to fill up its column, two more spaces, and how long it is until the instant
abbrev pub elapse_line : Zone → ℤ → ℕ → ℤ → List ℕ
elapse_line zone now width secs =
    instant_text zone secs ++ (blanks (width - instant_width zone secs) ++ (codes "  " ++ (in_time now secs ++ codes "\n")))

-- a line for each elapse; `width` is that of the column of instants
unfoldable pub elapse_lines : Zone → ℤ → ℕ → List ℤ → List ℕ
elapse_lines zone now width elapses = lines_under (codes "  Next:") (elapse_line zone now width) elapses

-- the next elapses, or `never` if there are none; the column of instants is as wide as the widest of them
unfoldable pub elapses_or_never : Zone → ℤ → List ℤ → List ℕ
elapses_or_never zone now elapses =
    if length elapses == 0 then labeled (codes "  Next:") (codes "never\n")
    else elapse_lines zone now (widest (instant_width zone) elapses) elapses

-- the next elapses; nothing for a timer without expressions
unfoldable pub next_lines : Zone → ℤ → List LineView → List ℤ → List ℕ
next_lines zone now expressions elapses = if length expressions == 0 then [] else elapses_or_never zone now elapses

-- ## Clock changes

-- the date and the time of a local time, which is a number of seconds since 1970-01-01 00:00:00 on its clock
abbrev pub local_civil : ℤ → Civil
local_civil local = civil_of (zone_of utc) local

-- whether a local time is outside the range of dates that can be printed
abbrev pub is_out_of_range : ℤ → Bool
is_out_of_range local = int_lt local (pos 0) || int_lt last_instant local

-- a blank and the name of the zone, or nothing for the local zone
abbrev pub zone_suffix : Option (List ℕ) → List ℕ
zone_suffix None = []
zone_suffix (Some name) = codes " " ++ printable_text name

abbrev pub civil_time : Civil → List ℕ
civil_time civil = time_text civil.hour civil.minute civil.second

-- the words before the date, which say whether a local time is skipped or occurs twice
unfoldable pub change_text : Bool → List ℕ
change_text is_skipped = if is_skipped then codes " is skipped on " else codes " occurs twice on "

-- the end of the line, after the date; for a local time that occurs twice, it says which occurrence can be an elapse
unfoldable pub change_end : Bool → List ℕ
change_end is_skipped = if is_skipped then codes "\n" else codes "; the first counts\n"

-- the end of the line of a local time that can't be printed, which names no date
unfoldable pub far_change_text : Bool → List ℕ
far_change_text is_skipped = if is_skipped then codes " is skipped\n" else codes " occurs twice; the first counts\n"

-- what a clock change does to a local time, such as `02:30:00 is skipped on 2027-03-28`
unfoldable pub clock_text : ClockTimeView → Civil → List ℕ
clock_text time civil =
    civil_time civil
    ++ (zone_suffix time.zone
    ++ (change_text time.is_skipped
    ++ (date_text civil ++ change_end time.is_skipped)))

-- what is printed for a local time whose date can't be printed
unfoldable pub far_clock_text : ClockTimeView → List ℕ
far_clock_text time = codes "a time out of range" ++ (zone_suffix time.zone ++ far_change_text time.is_skipped)

abbrev pub clock_line : ClockTimeView → List ℕ
clock_line time = if is_out_of_range time.local then far_clock_text time else clock_text time (local_civil time.local)

-- a line that says that there are more local times than those in the lines before it; it has the label if it is the
-- first line
abbrev pub more_line : List ClockTimeView → List ℕ
more_line clock = labeled (if length clock == 0 then codes "  Clock:" else []) (codes "and more\n")

unfoldable pub clock_lines : List ClockTimeView → Bool → List ℕ
clock_lines clock has_more = lines_under (codes "  Clock:") clock_line clock ++ (if has_more then more_line clock else [])

-- ## Timers

-- the name of a timer, emphasized
unfoldable pub name_line : Style → List ℕ → List ℕ
name_line style unit = begin_text style Heading ++ (printable_text unit ++ (end_text style ++ codes "\n"))

unfoldable pub normal_lines : List ℕ → List LineView → List ℕ
normal_lines label lines = texts_under label (map (λ line. line.normal) lines)

-- the files, expressions, exceptions and other settings of a timer
unfoldable pub settings_lines : TimerView → List ℕ
settings_lines timer =
    texts_under (codes "  File:") timer.files
    ++ (normal_lines (codes "  Calendar:") timer.expressions
    ++ (normal_lines (codes "  Except:") timer.exceptions
    ++ texts_under (codes "  Also:") timer.notes))

unfoldable pub timer_text : Style → Zone → ℤ → TimerView → List ℕ
timer_text style zone now timer =
    name_line style timer.unit
    ++ (settings_lines timer
    ++ (texts_under (codes "  Warning:") timer.warnings
    ++ (last_line zone now timer.expressions timer.last
    ++ (next_lines zone now timer.expressions timer.elapses
    ++ clock_lines timer.clock timer.has_more_clock))))

abbrev pub masked_line : List ℕ → List ℕ
masked_line name = printable_text name ++ codes ": masked\n"

-- the timers, with an empty line between consecutive ones, and then a line for each masked unit
abbrev pub show_lines : Style → Zone → ℤ → List TimerView → List (List ℕ) → List ℕ
show_lines style zone now timers masked =
    join_by (timer_text style zone now) (codes "\n") timers ++ flat_map masked_line masked
