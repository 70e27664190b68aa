-- What `read_question` finds: all that the answer to a question depends on, or why the question can't be answered.
-- `calendar-timers` calls it once per run.
use Rattle.std.specs.Prelude.{◌≡◌, ◌⊎◌, ◌==◌, ◌&&◌, ◌||◌, ⊤, ℕ, ℤ, Bool, true, false, not, All, List, [], ◌∷◌, Option, None, Some, length, map, option_map, is_some, slice_get, string_bytes}
use Rattle.std.specs.List.{list_any}
use Rattle.std.specs.Option.{option_map_or}
use Rattle.cal_machine.specs.rules.Machine.{Machine}
use Rattle.cal_machine.specs.rules.Seen.{AllGiven, Matches, Said, Seen}
use Rattle.cal_timers_command.specs.declared.question.Command.{Command}
use Rattle.cal_timers_command.specs.declared.question.Question.{Question}
use Rattle.cal_timers_command.specs.declared.question.Question.TheVariants as questions
use Rattle.cal_unit_index.specs.declared.index.UnitIndex.{UnitIndex}
use Rattle.cal_unit_index.specs.rules.Index.{IsIndexOf}
use Rattle.cal_crontabs.specs.declared.crontabs.Crontabs.{Crontabs}
use Rattle.cal_crontabs.specs.rules.Crontabs.{AreCrontabsOn, is_path_start}
use Rattle.cal_load.specs.declared.files.LoadedFiles.{LoadedFiles}
use Rattle.cal_load.specs.declared.loaded.Loaded.{Loaded}
use Rattle.cal_load.specs.declared.target_fault.TargetFault.{TargetFault}
use Rattle.cal_load.specs.declared.target_fault.TargetReason.{TargetReason}
use Rattle.cal_load.specs.declared.target_fault.TargetReason.TheVariants as reasons
use Rattle.cal_load.specs.rules.AllFiles.{AreTextsAt, all_paths}
use Rattle.cal_load.specs.rules.AllTargets.{HasAllTargets, HasAllUnits, is_path}
use Rattle.cal_load.specs.rules.AllUnits.{shown_stems, started_if_all}
use Rattle.cal_load.specs.rules.Expressions.{IsMadeOf, IsTimerOrReason}
use Rattle.cal_load.specs.rules.FileFaults.{AreFaultsOf, all_lost}
use Rattle.cal_load.specs.rules.Loaded.{IsStoredOn, IsTimerOn}
use Rattle.cal_answers.specs.declared.found.Found as founds
use Rattle.cal_answers.specs.declared.found.Known.{Known}
use Rattle.cal_answers.specs.declared.found.LoadedByVerb.{LoadedByVerb}
use Rattle.cal_answers.specs.declared.found.LoadedByVerb.TheVariants as loads
use Rattle.cal_answers.specs.rules.BootTime.{boot_time_for}
use Rattle.cal_answers.specs.rules.CrontabTimers.{AreCrontabTimersOn}
use Rattle.cal_answers.specs.rules.LintTargets.{AreNamedCrontabs, AreNamedFiles, HasNoneIfCrontabs}
use Rattle.cal_answers.specs.rules.LocalClock.{IsLocalZone, IsShownZone, clock_zone, local_zone_of}
use Rattle.cal_answers.specs.rules.MachinePath.{machine_path}
use Rattle.cal_answers.specs.rules.Present.{IsPresent}
use Rattle.cal_answers.specs.rules.RangeZones.{AreRangeZones}
use Rattle.cal_answers.specs.rules.Trigger.{due_on, stated_second}
use Rattle.cal_answers.specs.rules.Unguarded.{unguarded_on}
use Rattle.cal_tasks.specs.rules.Unguarded.{unguarded_seen}
use Rattle.cal_answers.specs.rules.Unanswerable.{IsUnanswerableOn}

-- ## What was loaded

-- each timer is a unit of the machine, found in this search path, or a single file
abbrev pub AreTimersOn : Machine → List (List ℕ) → Loaded → Type 0
AreTimersOn machine search_path loaded = All (IsTimerOn machine search_path) loaded.timers.items

-- each timer has these expressions, and the zones of the machine that they name
abbrev pub AreMadeOf : Machine → List (List ℕ) → Loaded → Type 0
AreMadeOf machine texts loaded = All (IsMadeOf machine texts) loaded.timers.items

-- what was loaded for one side of `same`: units or files of the machine, or the side as an expression
abbrev pub IsSideOn : Machine → List (List ℕ) → List ℕ → Loaded → Type 0
IsSideOn machine search_path side loaded = AreTimersOn machine search_path loaded ⊎ AreMadeOf machine (side ∷ []) loaded

abbrev pub is_entry_reason : TargetReason → Bool
is_entry_reason (reasons.CrontabEntry fault) = true
is_entry_reason reason = false

abbrev pub is_entry_fault : List ℕ → Option TargetFault → Bool
is_entry_fault target None = false
is_entry_fault target (Some fault) = is_entry_reason fault.reason && not (is_path_start target)

-- whether a target was loaded as an entry of a crontab, and is invalid as one
abbrev pub is_invalid_entry : List ℕ → Loaded → Bool
is_invalid_entry target loaded = is_entry_fault target (slice_get loaded.faults.items 0)

-- what was loaded for `due`: the timer that it is about, or None if it is about no timer
abbrev pub IsDueOn : Machine → List (List ℕ) → Option (List ℕ) → Option Loaded → Type 0
IsDueOn machine search_path None timer = timer ≡ None
IsDueOn machine search_path (Some about) None = ⊥
IsDueOn machine search_path (Some about) (Some timer) = AreTimersOn machine search_path timer

-- what was loaded for `lint`: files and timers of the machine, and those of the targets that are crontabs
abbrev pub AreLintedOn : Machine → List (List ℕ) → List (List ℕ) → LoadedFiles → Loaded → Crontabs → Type 0
AreLintedOn machine search_path targets files timers crontabs =
    All (IsStoredOn machine) files.files.items × AreTimersOn machine search_path timers × AreNamedCrontabs machine targets crontabs

-- the timers, the files and the crontabs that were loaded are those of the machine; `about` is the timer that `due` is about
abbrev pub AreLoadedOn : Machine → List (List ℕ) → Option (List ℕ) → LoadedByVerb → Type 0
AreLoadedOn machine search_path about (loads.List timers named is_all entries) =
    AreTimersOn machine search_path timers × AreCrontabTimersOn machine entries
AreLoadedOn machine search_path about (loads.Show timers named count) = AreTimersOn machine search_path timers
AreLoadedOn machine search_path about (loads.Lint files timers crontabs named is_strict) =
    AreLintedOn machine search_path (map string_bytes named.now) files timers crontabs
AreLoadedOn machine search_path about (loads.Between timers named from to entries) =
    AreTimersOn machine search_path timers × AreCrontabTimersOn machine entries
AreLoadedOn machine search_path about (loads.Same first one second other) =
    IsSideOn machine search_path one.now first × IsSideOn machine search_path other.now second
AreLoadedOn machine search_path about (loads.Next timers expressions count) = AreMadeOf machine (map string_bytes expressions.now) timers
AreLoadedOn machine search_path about (loads.Due timer named) = IsDueOn machine search_path about timer
AreLoadedOn machine search_path about (loads.Cron crontabs named) = AreCrontabsOn machine (map string_bytes named.now) crontabs

-- what was loaded belongs to this question, and repeats what the answer needs of it
abbrev pub IsLoadedFor : Question → LoadedByVerb → Type 0
IsLoadedFor (questions.List given all crons) (loads.List timers named is_all entries) =
    (named.now ≡ given.items) × (is_all ≡ all) × (is_some entries ≡ crons)
IsLoadedFor (questions.Show given most) (loads.Show timers named count) = (named.now ≡ given.items) × (count ≡ most)
IsLoadedFor (questions.Lint given all strict) (loads.Lint files timers crontabs named is_strict) = (named.now ≡ given.items) × (is_strict ≡ strict)
IsLoadedFor (questions.Between start end given all crons) (loads.Between timers named from to entries) =
    (named.now ≡ given.items) × (from.now ≡ string_bytes start) × (to.now ≡ string_bytes end) × (is_some entries ≡ crons)
IsLoadedFor (questions.Same a b) (loads.Same first one second other) = (one.now ≡ string_bytes a) × (other.now ≡ string_bytes b)
IsLoadedFor (questions.Next given most) (loads.Next timers expressions count) = (expressions.now ≡ given.items) × (count ≡ most)
IsLoadedFor (questions.Due given) (loads.Due timer named) = option_map (λ name. name.now) named ≡ option_map string_bytes given
IsLoadedFor (questions.Cron given) (loads.Cron crontabs named) = named.now ≡ given.items
IsLoadedFor _ _ = ⊥

-- whether the question is about all units if it names no timers, and not only about those that other units start
abbrev pub asks_all : Question → Bool
asks_all (questions.List given all crons) = all
asks_all (questions.Show given most) = false
asks_all (questions.Lint given all strict) = all
asks_all (questions.Between start end given all crons) = all
asks_all (questions.Same a b) = false
asks_all (questions.Next given most) = false
asks_all (questions.Due given) = false
asks_all (questions.Cron given) = false

-- whether one of these texts is not a path
abbrev pub has_name : List (List ℕ) → Bool
has_name named = list_any (λ text. not (is_path text)) named

-- whether a question that names these timers can be about units: it names none, or at least one isn't a path
abbrev pub name_units : List (List ℕ) → Bool
name_units named = length named == 0 || has_name named

-- whether a question can be about units; this is never so for `next`, which names expressions, for `cron`, which names
-- crontabs, nor for `due` if it is about no timer
abbrev pub needs_units : Question → Option (List ℕ) → Bool
needs_units (questions.List given all crons) about = name_units (map string_bytes given.items)
needs_units (questions.Show given most) about = name_units (map string_bytes given.items)
needs_units (questions.Lint given all strict) about = name_units (map string_bytes given.items)
needs_units (questions.Between start end given all crons) about = name_units (map string_bytes given.items)
needs_units (questions.Same a b) about = not (is_path (string_bytes a)) || not (is_path (string_bytes b))
needs_units (questions.Next given most) about = false
needs_units (questions.Due given) about = option_map_or (λ name. not (is_path name)) about false
needs_units (questions.Cron given) about = false

-- The units that a question without targets stands for were looked for, and nothing else was loaded: the units that other
-- units start or, if `is_all` is true, all units. In the second case, `timers.started` has the units that other units
-- start.
abbrev pub HasUnits : (Machine → List (List ℕ) → Type 0) → Bool → Loaded → Type 0
HasUnits Knows is_all timers =
    HasAllUnits Knows is_all timers
    × ((machine : Machine) (search_path : List (List ℕ)) → Knows machine search_path → shown_stems timers.started ≡ started_if_all machine search_path is_all)

-- Everything that these targets stand for was looked for, and nothing else was loaded. Without a target, these are the
-- units that other units start or, if `is_all` is true, all units.
abbrev pub HasAllFor : (Machine → List (List ℕ) → Type 0) → Bool → List (List ℕ) → Loaded → Type 0
HasAllFor Knows is_all [] timers = HasUnits Knows is_all timers
HasAllFor Knows is_all (one ∷ rest) timers = HasAllTargets Knows (one ∷ rest) timers

-- Without a target, the units that `HasUnits` describes were looked for. If all targets are crontabs, no timer was loaded.
-- If there are other targets, this says nothing, since targets that end in `.conf` aren't loaded as timers.
abbrev pub HasAllLinted : (Machine → List (List ℕ) → Type 0) → Bool → List (List ℕ) → Loaded → Type 0
HasAllLinted Knows is_all [] timers = HasUnits Knows is_all timers
HasAllLinted Knows is_all (one ∷ rest) timers = HasNoneIfCrontabs Knows (one ∷ rest) timers

-- These are the texts of all files that `lint` examines besides crontabs, and the errors about those that can't be read:
-- the files of what is named or, if nothing is, of the units that other units start or, if `is_all` is true, of all units.
abbrev pub AreFilesOn : Machine → List (List ℕ) → Bool → List (List ℕ) → LoadedFiles → Type 0
AreFilesOn machine search_path is_all [] files =
    AreTextsAt machine (all_paths machine search_path is_all) files.files.items × AreFaultsOf (all_lost machine search_path is_all) files.faults.items
AreFilesOn machine search_path is_all (one ∷ rest) files = AreNamedFiles machine search_path (one ∷ rest) files

-- The timer that `due` is about was looked for, and nothing else was loaded.
abbrev pub HasDue : (Machine → List (List ℕ) → Type 0) → Option (List ℕ) → Option Loaded → Type 0
HasDue Knows (Some about) (Some timer) = HasAllTargets Knows (about ∷ []) timer
HasDue Knows _ _ = ⊤

-- On any machine and search path for which `Knows` holds, no timer is missing for `list`, `show`, `between` and `due`, and
-- for `lint` if it names none; `lint` has all files; and `next` has the timer that its expressions make, or the reason
-- why they make none. For `same` and `cron`, this says nothing.
abbrev pub AreAll : (Machine → List (List ℕ) → Type 0) → Bool → Option (List ℕ) → LoadedByVerb → Type 0
AreAll Knows all about (loads.List timers named is_all entries) = HasAllFor Knows all (map string_bytes named.now) timers
AreAll Knows all about (loads.Show timers named count) = HasAllFor Knows all (map string_bytes named.now) timers
AreAll Knows all about (loads.Lint files timers crontabs named is_strict) =
    HasAllLinted Knows all (map string_bytes named.now) timers
    × ((machine : Machine) (search_path : List (List ℕ)) → Knows machine search_path → AreFilesOn machine search_path all (map string_bytes named.now) files)
AreAll Knows all about (loads.Between timers named from to entries) = HasAllFor Knows all (map string_bytes named.now) timers
AreAll Knows all about (loads.Same first one second other) = ⊤
AreAll Knows all about (loads.Next timers expressions count) =
    IsTimerOrReason (λ machine. (search_path : List (List ℕ)) × Knows machine search_path) (map string_bytes expressions.now) timers
AreAll Knows all about (loads.Due timer named) = HasDue Knows about timer
AreAll Knows all about (loads.Cron crontabs named) = ⊤

-- no timer is missing (`AreAll`) on this machine and search path
abbrev pub AreAllOn : Machine → List (List ℕ) → Bool → Option (List ℕ) → LoadedByVerb → Type 0
AreAllOn machine search_path all about loaded = AreAll (λ other folders. (other ≡ machine) × (folders ≡ search_path)) all about loaded

-- ## What was found

-- the index is that of this search path, or of an empty search path
abbrev pub IsIndexFor : Machine → List (List ℕ) → UnitIndex → Type 0
IsIndexFor machine search_path index = IsIndexOf machine search_path index ⊎ IsIndexOf machine [] index

-- the search path is that of the machine's manager; if no unit is needed, it may also be empty
abbrev pub IsPathOf : Machine → Bool → Bool → List (List ℕ) → Type 0
IsPathOf machine is_user true search_path = machine_path machine is_user ≡ Some search_path
IsPathOf machine is_user false search_path = (machine_path machine is_user ≡ Some search_path) ⊎ (search_path ≡ [])

-- What is known for the question of a command is true on this machine, whose clock shows `clock`: the present, the local
-- zone, the zone in which times are shown, the zones that a range names, the index of the search path, the timer that
-- `due` is about, the boot time that counts for its run, and the timers, files and crontabs that were loaded. No timer is missing (`AreAllOn`), and `unguarded`
-- has the timers whose exceptions systemd ignores.
pub record IsKnownOn (machine : Machine) (command : Command) (clock : Option ℤ) (known : Known) : Type 0 where
  pub present : IsPresent (stated_second machine command clock) (Some known.now)
  pub local : IsLocalZone machine (local_zone_of machine command) (clock_zone known.local)
  pub shown : IsShownZone machine command (clock_zone known.shown)
  pub about : option_map string_bytes known.about ≡ due_on machine command.question
  pub boot : known.boot ≡ boot_time_for machine command.options.now (due_on machine command.question)
  pub range : AreRangeZones machine command.question known.range
  pub search_path : List (List ℕ)
  pub searched : IsPathOf machine command.options.is_user (needs_units command.question (due_on machine command.question)) search_path
  pub index : IsIndexOf machine search_path known.index
  pub for_question : IsLoadedFor command.question known.loaded
  pub loaded : AreLoadedOn machine search_path (due_on machine command.question) known.loaded
  pub whole : AreAllOn machine search_path (asks_all command.question) (due_on machine command.question) known.loaded
  pub unguarded : map unguarded_seen known.unguarded.items ≡ unguarded_on machine search_path command.options.is_user known.loaded

-- `IsSo` follows from what was read. `given`: all that was read was returned by system calls. `is_so`: `IsSo` holds for
-- every machine that matches what was read. `possible`: such a machine exists.
pub record FollowsFromRead (gives : Said → Bool) (IsSo : Machine → Type 0) : Type 0 where
  pub read : Seen
  pub given : AllGiven gives read
  pub is_so : (machine : Machine) → Matches read machine → IsSo machine
  pub possible : (machine : Machine) × Matches read machine

-- What was found follows from what was read. It is either all that is known, or that the question can't be answered.
abbrev pub IsFoundBy : (Said → Bool) → Command → Option ℤ → founds.Found → Type 0
IsFoundBy gives command clock (founds.TheVariants.Unanswerable reason) =
    FollowsFromRead gives (λ machine. IsUnanswerableOn machine command clock)
IsFoundBy gives command clock (founds.TheVariants.Answerable known) =
    FollowsFromRead gives (λ machine. IsKnownOn machine command clock known)
