-- The error lines about what was loaded: what can't be loaded, and what is ignored in the files of timers.
use Rattle.std.specs.Prelude.{◌++◌, ℕ, Bool, false, true, List, [], ◌∷◌, Option, None, Some, codes, map, string_bytes, if◌then◌else◌}
use Rattle.std.specs.List.{flat_map, fold, list_any}
use Rattle.std.specs.Str.{bytes_eq}
use Rattle.cal_load.specs.declared.loaded.Loaded.{Loaded}
use Rattle.cal_load.specs.declared.loaded.LoadedTimer.{LoadedTimer}
use Rattle.cal_load.specs.declared.readable.BrokenLine.{BrokenLine}
use Rattle.cal_load.specs.declared.target_fault.TargetFault.{TargetFault}
use Rattle.cal_load.specs.declared.target_fault.TargetReason.{TargetReason}
use Rattle.cal_load.specs.declared.target_fault.TargetReason.TheVariants as reasons
use Rattle.cal_timers_text.specs.rules.ErrorLines.{broken_line, fault_line, ignored_line, reason_words, subject_line, unusable_zone_line}
use Rattle.cal_unit_index.specs.declared.fault.UnitFault.{UnitFault}

-- ## What can't be loaded

-- a line for each error
abbrev pub fault_lines : List TargetFault → List ℕ
fault_lines faults = flat_map (λ fault. fault_line fault ++ codes "\n") faults

-- a line for each path that can't be read
abbrev pub unreadable_lines : List UnitFault → List ℕ
unreadable_lines faults = flat_map (λ fault. subject_line (string_bytes fault.path) (reason_words fault.reason) ++ codes "\n") faults

-- a line for each masked unit
abbrev pub masked_lines : List (List ℕ) → List ℕ
masked_lines names = flat_map (λ name. name ++ codes ": masked\n") names

-- ## Lines and files that are ignored

-- the lines about the expressions and exceptions of a timer that are ignored
abbrev pub ignored_lines : LoadedTimer → List (List ℕ)
ignored_lines timer =
    map (ignored_line timer) timer.files.ignored.items ++ map (unusable_zone_line timer) timer.files.unusable_zones.items

abbrev pub broken_line_if : LoadedTimer → Option BrokenLine → List (List ℕ)
broken_line_if timer None = []
broken_line_if timer (Some line) = broken_line timer line ∷ []

-- the lines about the drop-ins of a timer that systemd doesn't read to the end
abbrev pub broken_lines : LoadedTimer → List (List ℕ)
broken_lines timer = flat_map (broken_line_if timer) timer.files.broken.items

-- the lines about everything that is ignored in the files of timers
abbrev pub lines_about : List LoadedTimer → List (List ℕ)
lines_about timers = flat_map ignored_lines timers ++ flat_map broken_lines timers

-- ## Lines without repeats: several timers can have the same drop-in

-- the lines, followed by `line` unless it is among them
abbrev pub with_line : List (List ℕ) → List ℕ → List (List ℕ)
with_line lines line = if list_any (λ known. bytes_eq known line) lines then lines else lines ++ line ∷ []

-- the lines, followed by each line of `more` that isn't among them yet, once
abbrev pub with_lines : List (List ℕ) → List (List ℕ) → List (List ℕ)
with_lines lines more = fold with_line lines more

-- the lines, each followed by a line feed
abbrev pub text_of : List (List ℕ) → List ℕ
text_of lines = flat_map (λ line. line ++ codes "\n") lines

-- the error lines about what was loaded
abbrev pub loaded_lines : Loaded → List ℕ
loaded_lines loaded = fault_lines loaded.faults.items ++ text_of (with_lines [] (lines_about loaded.timers.items))

-- ## Two timers

abbrev pub has_target : List TargetFault → TargetFault → Bool
has_target faults fault = list_any (λ other. bytes_eq (string_bytes other.target) (string_bytes fault.target)) faults

-- the line about an error, unless one of these errors has the same target
abbrev pub line_unless : List TargetFault → TargetFault → List ℕ
line_unless faults fault = if has_target faults fault then [] else fault_line fault ++ codes "\n"

-- the error lines about what was loaded for two targets; an error of the second is left out if an error of the first is
-- about the same thing, such as a drop-in folder that both timers have
abbrev pub lines_of_both : Loaded → Loaded → List ℕ
lines_of_both first second =
    (fault_lines first.faults.items ++ flat_map (line_unless first.faults.items) second.faults.items)
    ++ text_of (with_lines (with_lines [] (lines_about first.timers.items)) (lines_about second.timers.items))

-- ## `lint`

abbrev pub is_not_found : TargetReason → Bool
is_not_found reasons.NotFound = true
is_not_found _ = false

abbrev pub unfound_line : List TargetFault → TargetFault → List ℕ
unfound_line of_files fault = if is_not_found fault.reason then line_unless of_files fault else []

-- the error lines about files; then those about timers that aren't found, where a line is left out if an error about
-- files has the same target; and then those about crontabs
abbrev pub lint_lines : List TargetFault → List TargetFault → List UnitFault → List ℕ
lint_lines of_files faults crontabs =
    (fault_lines of_files ++ flat_map (unfound_line of_files) faults) ++ unreadable_lines crontabs
