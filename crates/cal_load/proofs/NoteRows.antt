-- Examples of the assignments that are noted for a timer, and of those that start its unit.
use Rattle.std.proofs.Common.{◌≡◌, ◌+◌, ℕ, List, [], ◌∷◌, codes, false, map, refl, true}
use Rattle.cal_span.specs.computed.SpanValue.{pairs_in, span_of, words_in}
use Rattle.cal_span.specs.rules.PairValue.{is_number, number_worth, unit_named, worth_of}
use Rattle.cal_span.specs.rules.UnitSpellings.{spellings_of}
use Rattle.cal_timer.specs.rules.Assignments.{Assignment}
use Rattle.cal_timer.specs.rules.TimerText.{is_reset}
use Rattle.cal_unit_index.specs.rules.UnitName.{has_unit_suffix, is_unit_name, without_suffix}
use Rattle.cal_timer.specs.rules.Keys.{keys_of, kind_of}
use Rattle.cal_load.specs.rules.Notes.{is_noted, is_taken, kept_in, names_unit, note_text, noted_of, notes_in, replaces, starts, starts_unit, undoes}

-- assignments with these keys and values, on consecutive lines, the first on line `line`
settings : ℕ → List (List ℕ × List ℕ) → List Assignment
settings line [] = []
settings line (setting ∷ more) = record { number = line; key = setting.0; value = setting.1 } ∷ settings (line + 1) more

notes_for : List ℕ → List (List ℕ × List ℕ) → List (List ℕ)
notes_for name list = map note_text (notes_in name (settings 1 list))

-- the notes of the timer `a.timer`
notes : List (List ℕ × List ℕ) → List (List ℕ)
notes list = notes_for (codes "a.timer") list

-- all monotonic timers are noted, except for one with an invalid time span; one whose value has a specifier is noted
-- unchanged, since the value may depend on the running system
monotonic : notes (
    (codes "OnBootSec", codes "5min") ∷ (codes "OnBootSec", codes "abc") ∷ (codes "OnBootSec", codes "1h")
    ∷ (codes "OnStartupSec", codes "infinity") ∷ (codes "OnUnitActiveSec", codes "%i") ∷ [])
    ≡ codes "OnBootSec=5min" ∷ codes "OnBootSec=1h" ∷ codes "OnStartupSec=infinity" ∷ codes "OnUnitActiveSec=%i"
    ∷ []
unfolding notes notes_for settings noted_of kept_in is_noted is_taken starts replaces undoes kind_of keys_of names_unit is_unit_name has_unit_suffix is_reset without_suffix span_of pairs_in words_in is_number number_worth unit_named worth_of spellings_of
monotonic = refl

-- an empty OnCalendar= or monotonic timer drops the monotonic timers before it, and nothing else
reset : notes (
    (codes "OnBootSec", codes "5min") ∷ (codes "Persistent", codes "yes") ∷ (codes "OnCalendar", [])
    ∷ (codes "OnActiveSec", codes "1h") ∷ (codes "RandomizedDelaySec", codes "5") ∷ (codes "OnUnitInactiveSec", [])
    ∷ (codes "OnUnitActiveSec", codes "2h") ∷ [])
    ≡ codes "Persistent=yes" ∷ codes "RandomizedDelaySec=5" ∷ codes "OnUnitActiveSec=2h" ∷ []
unfolding notes notes_for settings noted_of kept_in is_noted is_taken starts replaces undoes kind_of keys_of names_unit is_unit_name has_unit_suffix is_reset without_suffix span_of pairs_in words_in is_number number_worth unit_named worth_of spellings_of
reset = refl

-- a later delay replaces an earlier one, unless the later one is empty or invalid
kept_delay : notes (
    (codes "RandomizedDelaySec", codes "1h") ∷ (codes "RandomizedDelaySec", codes "5min")
    ∷ (codes "RandomizedDelaySec", []) ∷ (codes "RandomizedDelaySec", codes "%i") ∷ [])
    ≡ codes "RandomizedDelaySec=5min" ∷ []
unfolding notes notes_for settings noted_of kept_in is_noted is_taken starts replaces undoes kind_of keys_of names_unit is_unit_name has_unit_suffix is_reset without_suffix span_of pairs_in words_in is_number number_worth unit_named worth_of spellings_of
kept_delay = refl

-- a delay of 0 isn't noted
no_delay : notes ((codes "RandomizedDelaySec", codes "5min") ∷ (codes "RandomizedDelaySec", codes "0") ∷ [])
    ≡ []
unfolding notes notes_for settings noted_of kept_in is_noted is_taken starts replaces undoes kind_of keys_of names_unit is_unit_name has_unit_suffix is_reset without_suffix span_of pairs_in words_in is_number number_worth unit_named worth_of spellings_of
no_delay = refl

-- a delay of `infinity` is noted
longest_delay : notes ((codes "RandomizedDelaySec", codes "infinity") ∷ [])
    ≡ codes "RandomizedDelaySec=infinity" ∷ []
unfolding notes notes_for settings noted_of kept_in is_noted is_taken starts replaces undoes kind_of keys_of names_unit is_unit_name has_unit_suffix is_reset without_suffix span_of pairs_in words_in is_number number_worth unit_named worth_of spellings_of
longest_delay = refl

-- an accuracy as long as the default isn't noted
default_accuracy : notes ((codes "AccuracySec", codes "1h") ∷ (codes "AccuracySec", codes "1min") ∷ [])
    ≡ []
unfolding notes notes_for settings noted_of kept_in is_noted is_taken starts replaces undoes kind_of keys_of names_unit is_unit_name has_unit_suffix is_reset without_suffix span_of pairs_in words_in is_number number_worth unit_named worth_of spellings_of
default_accuracy = refl

-- an accuracy longer than the default is noted, and an invalid accuracy doesn't replace an earlier one
coarse_accuracy : notes ((codes "AccuracySec", codes "2min") ∷ (codes "AccuracySec", codes "-1") ∷ [])
    ≡ codes "AccuracySec=2min" ∷ []
unfolding notes notes_for settings noted_of kept_in is_noted is_taken starts replaces undoes kind_of keys_of names_unit is_unit_name has_unit_suffix is_reset without_suffix span_of pairs_in words_in is_number number_worth unit_named worth_of spellings_of
coarse_accuracy = refl

-- a value that isn't a boolean doesn't replace an earlier one, and the case of a boolean doesn't matter
booleans : notes (
    (codes "Persistent", codes "yes") ∷ (codes "Persistent", codes "maybe")
    ∷ (codes "FixedRandomDelay", codes "TRUE") ∷ (codes "OnClockChange", codes "1") ∷ (codes "OnClockChange", [])
    ∷ (codes "OnTimezoneChange", codes "on") ∷ [])
    ≡ codes "Persistent=yes" ∷ codes "FixedRandomDelay=TRUE" ∷ codes "OnClockChange=1" ∷ codes "OnTimezoneChange=on"
    ∷ []
unfolding notes notes_for settings noted_of kept_in is_noted is_taken starts replaces undoes kind_of keys_of names_unit is_unit_name has_unit_suffix is_reset without_suffix span_of pairs_in words_in is_number number_worth unit_named worth_of spellings_of
booleans = refl

-- of several booleans for a key the last counts, and false ones aren't noted
false_booleans : notes (
    (codes "Persistent", codes "y") ∷ (codes "Persistent", codes "No") ∷ (codes "FixedRandomDelay", codes "t")
    ∷ (codes "FixedRandomDelay", codes "f") ∷ (codes "OnClockChange", codes "on")
    ∷ (codes "OnClockChange", codes "off") ∷ (codes "OnTimezoneChange", codes "0")
    ∷ (codes "OnTimezoneChange", codes "2") ∷ [])
    ≡ []
unfolding notes notes_for settings noted_of kept_in is_noted is_taken starts replaces undoes kind_of keys_of names_unit is_unit_name has_unit_suffix is_reset without_suffix span_of pairs_in words_in is_number number_worth unit_named worth_of spellings_of
false_booleans = refl

-- of several `Unit=`, the first counts
first_unit : notes (
    (codes "Unit", codes "b.service") ∷ (codes "Unit", codes "c.service") ∷ (codes "Unit", []) ∷ [])
    ≡ codes "Unit=b.service" ∷ []
unfolding notes notes_for settings noted_of kept_in is_noted is_taken starts replaces undoes kind_of keys_of names_unit is_unit_name has_unit_suffix is_reset without_suffix span_of pairs_in words_in is_number number_worth unit_named worth_of spellings_of
first_unit = refl

-- a `Unit=` with an invalid name, or with the name of the timer itself, doesn't count
valid_unit : notes (
    (codes "Unit", []) ∷ (codes "Unit", codes "b") ∷ (codes "Unit", codes "a.timer")
    ∷ (codes "Unit", codes "/b.service") ∷ (codes "Unit", codes "b.target") ∷ (codes "Unit", codes "c.service")
    ∷ [])
    ≡ codes "Unit=b.target" ∷ []
unfolding notes notes_for settings noted_of kept_in is_noted is_taken starts replaces undoes kind_of keys_of names_unit is_unit_name has_unit_suffix is_reset without_suffix span_of pairs_in words_in is_number number_worth unit_named worth_of spellings_of
valid_unit = refl

-- a `Unit=` that names the service with the timer's own name isn't noted, but it counts, so later ones don't
own_service : notes ((codes "Unit", codes "a.service") ∷ (codes "Unit", codes "b.service") ∷ [])
    ≡ []
unfolding notes notes_for settings noted_of kept_in is_noted is_taken starts replaces undoes kind_of keys_of names_unit is_unit_name has_unit_suffix is_reset without_suffix span_of pairs_in words_in is_number number_worth unit_named worth_of spellings_of
own_service = refl

-- a `Unit=` with a template counts, since systemd instantiates it
template_unit : notes ((codes "Unit", codes "t@.service") ∷ (codes "Unit", codes "b.service") ∷ [])
    ≡ codes "Unit=t@.service" ∷ []
unfolding notes notes_for settings noted_of kept_in is_noted is_taken starts replaces undoes kind_of keys_of names_unit is_unit_name has_unit_suffix is_reset without_suffix span_of pairs_in words_in is_number number_worth unit_named worth_of spellings_of
template_unit = refl

-- settings that are never noted
other_keys : notes (
    (codes "WakeSystem", codes "yes") ∷ (codes "RemainAfterElapse", codes "no")
    ∷ (codes "OnCalendar", codes "daily") ∷ (codes "X-ExceptOnCalendar", codes "Sun")
    ∷ (codes "onbootsec", codes "5") ∷ [])
    ≡ []
unfolding notes notes_for settings noted_of kept_in is_noted is_taken starts replaces undoes kind_of keys_of names_unit is_unit_name has_unit_suffix is_reset without_suffix span_of pairs_in words_in is_number number_worth unit_named worth_of spellings_of
other_keys = refl

-- if a file is read by itself, the timer's own name is the part of the path after the last slash, whether or not it
-- ends in `.timer`
own_names : map (λ name. notes_for name ((codes "Unit", codes "b.timer") ∷ (codes "Unit", codes "a.service") ∷ []))
    (codes "/etc/b.timer" ∷ codes "./x/a.timer" ∷ codes "./b.timer/a" ∷ codes "b.timer" ∷ [])
    ≡ (codes "Unit=a.service" ∷ []) ∷ (codes "Unit=b.timer" ∷ []) ∷ (codes "Unit=b.timer" ∷ []) ∷ (codes "Unit=a.service" ∷ []) ∷ []
unfolding notes notes_for settings noted_of kept_in is_noted is_taken starts replaces undoes kind_of keys_of names_unit is_unit_name has_unit_suffix is_reset without_suffix span_of pairs_in words_in is_number number_worth unit_named worth_of spellings_of
own_names = refl

unit_names : map is_unit_name
    (codes "a.service" ∷ codes "a.b.mount" ∷ codes "..path" ∷ codes "a@b.scope" ∷ codes "a-:_\\x.slice" ∷ codes ".service" ∷ codes "@a.service" ∷ codes "a.SERVICE"
    ∷ codes "a.conf" ∷ codes "a b.service" ∷ codes "a.service.d" ∷ [])
    ≡ true ∷ true ∷ true ∷ true ∷ true ∷ false ∷ false ∷ false ∷ false ∷ false ∷ false ∷ []
unfolding notes notes_for settings noted_of kept_in is_noted is_taken starts replaces undoes kind_of keys_of names_unit is_unit_name has_unit_suffix is_reset without_suffix span_of pairs_in words_in is_number number_worth unit_named worth_of spellings_of
unit_names = refl

-- only monotonic timers, and changes of the clock or the time zone, start a unit by themselves
starters : map (λ list. starts_unit (settings 1 list))
    (((codes "OnBootSec", codes "5min") ∷ []) ∷ ((codes "OnClockChange", codes "yes") ∷ []) ∷ ((codes "OnTimezoneChange", codes "yes") ∷ []) ∷ ((codes "OnBootSec", codes "abc") ∷ [])
    ∷ ((codes "OnClockChange", codes "no") ∷ [])
    ∷ ((codes "Persistent", codes "yes") ∷ (codes "FixedRandomDelay", codes "yes") ∷ (codes "RandomizedDelaySec", codes "1h") ∷ (codes "AccuracySec", codes "1h") ∷ (codes "Unit", codes "b.service") ∷ []) ∷ [])
    ≡ true ∷ true ∷ true ∷ false ∷ false ∷ false ∷ []
unfolding notes notes_for settings noted_of kept_in is_noted is_taken starts replaces undoes kind_of keys_of names_unit is_unit_name has_unit_suffix is_reset without_suffix span_of pairs_in words_in is_number number_worth unit_named worth_of spellings_of
starters = refl
