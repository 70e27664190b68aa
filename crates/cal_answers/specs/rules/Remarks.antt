-- The error lines that depend on the whole answer: what can't be read of the search path, a hint at a misspelled verb,
-- folders without timers, and a missing zone file.
use Rattle.std.specs.Prelude.{◌++◌, ◌==◌, ◌&&◌, ◌||◌, ℕ, Bool, true, false, not, List, [], Option, None, Some, codes, filter, length, map, nat_eq, slice_get, string_bytes, if◌then◌else◌}
use Rattle.std.specs.List.{ends_with, flat_map, list_any}
use Rattle.std.specs.Option.{option_and_then}
use Rattle.std.specs.Str.{bytes_eq}
use Rattle.cal_crontabs.specs.declared.crontabs.Crontabs.{Crontabs}
use Rattle.cal_load.specs.declared.files.LoadedFiles.{LoadedFiles}
use Rattle.cal_load.specs.declared.loaded.Loaded.{Loaded}
use Rattle.cal_load.specs.declared.target_fault.TargetFault.{TargetFault}
use Rattle.cal_timers_command.specs.declared.verb.Verb.{Verb}
use Rattle.cal_timers_command.specs.rules.Verbs.{similar_verb, verb_name}
use Rattle.cal_unit_index.specs.declared.fault.UnitFault.{UnitFault}
use Rattle.cal_answers.specs.declared.found.Known.{Known}
use Rattle.cal_answers.specs.declared.found.LoadedByVerb.{LoadedByVerb}
use Rattle.cal_answers.specs.declared.found.LoadedByVerb.TheVariants as loads
use Rattle.cal_answers.specs.declared.local_clock.LocalClock.{LocalClock}
use Rattle.cal_answers.specs.declared.local_clock.LocalClock.TheVariants as clocks
use Rattle.cal_answers.specs.rules.DueFaults.{concerns}
use Rattle.cal_answers.specs.rules.ErrorText.{is_not_found, unreadable_lines}
use Rattle.cal_answers.specs.rules.Printed.{Printed, with_errors, with_notes}

-- ## A misspelled verb

abbrev pub is_unknown : List ℕ → TargetFault → Bool
is_unknown target fault = is_not_found fault.reason && bytes_eq (string_bytes fault.target) target

abbrev pub if_unknown : List TargetFault → List ℕ → Option (List ℕ)
if_unknown faults target = if list_any (is_unknown target) faults then Some target else None

-- the first timer that `list` names, if there is no such timer
abbrev pub unknown_name : LoadedByVerb → Option (List ℕ)
unknown_name (loads.List timers named is_all entries) =
    option_and_then (if_unknown timers.faults.items) (slice_get (map string_bytes named.now) 0)
unknown_name _ = None

abbrev pub hint_at : Option Verb → List ℕ
hint_at None = []
hint_at (Some verb) = codes "calendar-timers: did you mean the verb '" ++ verb_name verb ++ codes "'?\n"

abbrev pub hint_about : Option (List ℕ) → List ℕ
hint_about None = []
hint_about (Some word) = hint_at (similar_verb word)

-- the hint that the first timer that `list` names may be a misspelled verb: a verb differs from it by a single edit
abbrev pub verb_hint : LoadedByVerb → List ℕ
verb_hint loaded = hint_about (unknown_name loaded)

-- ## Folders without timers

abbrev pub is_empty : Loaded → Bool
is_empty loaded = length loaded.timers.items == 0 && (length loaded.masked.items == 0 && length loaded.faults.items == 0)

-- whether `lint` found no file, no crontab, no timer, no masked unit and no error
abbrev pub is_empty_lint : LoadedFiles → Loaded → Crontabs → Bool
is_empty_lint files timers crontabs =
    length files.files.items == 0 && (length files.faults.items == 0
    && (length crontabs.crontabs.items == 0 && (length crontabs.faults.items == 0 && is_empty timers)))

-- whether loading found no timer, no file, no crontab, no masked unit and no error; `same`, `next`, `due` and `cron` take no folders
abbrev pub is_nothing : LoadedByVerb → Bool
is_nothing (loads.List timers named is_all entries) = is_empty timers
is_nothing (loads.Show timers named count) = is_empty timers
is_nothing (loads.Lint files timers crontabs named is_strict) = is_empty_lint files timers crontabs
is_nothing (loads.Between timers named from to entries) = is_empty timers
is_nothing (loads.Same first one second other) = false
is_nothing (loads.Next timers expressions count) = false
is_nothing (loads.Due timer named) = false
is_nothing (loads.Cron crontabs named) = false

-- the timers that were named for `list`, `show`, `lint` or `between`; none for other verbs
abbrev pub named_in : LoadedByVerb → List (List ℕ)
named_in (loads.List timers named is_all entries) = map string_bytes named.now
named_in (loads.Show timers named count) = map string_bytes named.now
named_in (loads.Lint files timers crontabs named is_strict) = map string_bytes named.now
named_in (loads.Between timers named from to entries) = map string_bytes named.now
named_in (loads.Same first one second other) = []
named_in (loads.Next timers expressions count) = []
named_in (loads.Due timer named) = []
named_in (loads.Cron crontabs named) = []

abbrev pub is_drop_in : List ℕ → Bool
is_drop_in name = ends_with nat_eq name (codes ".conf")

-- whether it can be that nothing is found although no folder is named: nothing is named, or a drop-in is, which `lint`
-- skips if it is a mask
abbrev pub may_find_nothing : List (List ℕ) → Bool
may_find_nothing named = length named == 0 || list_any is_drop_in named

abbrev pub folder_lines : List (List ℕ) → List ℕ
folder_lines folders = flat_map (λ folder. folder ++ codes ": no timers in this directory\n") folders

-- a line for each folder that is named, if only folders without timers are
abbrev pub empty_folder_lines : LoadedByVerb → List ℕ
empty_folder_lines loaded =
    if not (may_find_nothing (named_in loaded)) && is_nothing loaded then folder_lines (named_in loaded) else []

-- ## A missing zone file

abbrev pub is_assumed : LocalClock → Bool
is_assumed clocks.Assumed = true
is_assumed _ = false

abbrev pub shows_no_times : LoadedByVerb → Bool
shows_no_times (loads.Lint files timers crontabs named is_strict) = true
shows_no_times (loads.Cron crontabs named) = true
shows_no_times _ = false

-- for verbs that show times, the line which says that the local zone is UTC because /etc/localtime doesn't lead to a
-- zone file
abbrev pub zone_note : LoadedByVerb → LocalClock → List ℕ
zone_note loaded local =
    if shows_no_times loaded || not (is_assumed local) then []
    else codes "calendar-timers: /etc/localtime: no zone file, so the local zone is UTC\n"

-- ## All of these lines

-- what is printed, with the lines about folders without timers, unless the question can't be answered at all
abbrev pub with_empty_folders : LoadedByVerb → Printed → Printed
with_empty_folders loaded printed =
    if printed.status == 2 then printed else with_errors (empty_folder_lines loaded) printed

abbrev pub with_remarks : Known → Printed → Printed
with_remarks known printed =
    with_notes (zone_note known.loaded known.local)
    (with_empty_folders known.loaded (with_notes (verb_hint known.loaded) printed))

-- any error line makes the service fail, so `due` has no remarks
abbrev pub with_remarks_for : Known → LoadedByVerb → Printed → Printed
with_remarks_for known (loads.Due timer named) printed = printed
with_remarks_for known _ printed = with_remarks known printed

-- the unreadable parts of the search path that have an error line: for `due` those that concern its timer, and for other
-- verbs all of them
abbrev pub reported : Known → LoadedByVerb → List UnitFault
reported known (loads.Due timer named) = filter (concerns known.index known.about timer) known.index.unreadable.items
reported known _ = known.index.unreadable.items

-- the answer, followed by the error lines about unreadable parts of the search path and, except for `due`, the remarks
abbrev pub with_common_lines : Known → Printed → Printed
with_common_lines known printed =
    with_remarks_for known known.loaded (with_errors (unreadable_lines (reported known known.loaded)) printed)
