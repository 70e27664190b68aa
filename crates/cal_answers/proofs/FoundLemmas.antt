-- Lemmas on what is found when a question is read.
use Rattle.std.proofs.Common.{◌≡◌, ◌∙◌, ◌==◌, ℕ, ◌+◌, ◌<◌, All, Bool, Bor, true, false, List, [], ◌∷◌, ◌++◌, Option, None, Some, Result, Ok, Err, IsErrAnd, ap, filter, get_or, inl, inr, length, map, refl, string_bytes, subst, sym, take, true≢false}
use Rattle.std.specs.Prelude.{ℤ, option_map}
use Rattle.std.proofs.lemmas.Bool.{eqb-true}
use Rattle.std.proofs.lemmas.List.{map-append, nil_from_length, take_more}
use Rattle.std.proofs.lemmas.List.Elements.{All-nil, filter-append}
use Rattle.cal_machine.specs.declared.system.System.{Ghosts}
use Rattle.cal_machine.specs.declared.recorder.Recorder.{Recorder}
use Rattle.cal_machine.specs.rules.Machine.{Machine}
use Rattle.cal_machine.specs.rules.Recorded.{AgreesWith}
use Rattle.cal_machine.specs.rules.Recording.{read_by, read_by-given, read_by-shows}
use Rattle.cal_machine.specs.rules.Seen.{some_machine, some_machine-matches}
use Rattle.cal_timers_command.specs.declared.question.Command.{Command}
use Rattle.cal_unit_index.specs.rules.Files.{shown_unit_text}
use Rattle.cal_unit_index.specs.rules.Index.{IsIndexOf}
use Rattle.cal_load.specs.declared.files.LoadedFiles.{LoadedFiles}
use Rattle.cal_load.specs.declared.loaded.Loaded.{Loaded}
use Rattle.cal_load.specs.declared.target_fault.TargetReason.{TargetReason}
use Rattle.cal_load.specs.declared.target_fault.TargetReason.TheVariants.{NotFound, Template, TooManyAliases, Path, Broken, NothingToDo, Expression, CrontabEntry, ExpressionZone}
use Rattle.cal_load.specs.rules.AllTargets.{HasAll, HasAllTargets, HasAllUnits, IsOutcome, Sought}
use Rattle.cal_load.specs.rules.AllUnits.{shown_stems, started_if_all}
use Rattle.cal_load.specs.rules.Expressions.{IsExpressionReason, IsTimerOrReason}
use Rattle.cal_load.specs.rules.FileFaults.{AreFaultsOf}
use Rattle.cal_answers.specs.declared.fault.ReadFault.{ReadFault}
use Rattle.cal_answers.specs.declared.fault.ReadFault.TheVariants as faults
use Rattle.cal_answers.specs.declared.found.Known.{Known}
use Rattle.cal_answers.specs.declared.found.LoadedByVerb.{LoadedByVerb}
use Rattle.cal_answers.specs.declared.found.LoadedByVerb.TheVariants as loads
use Rattle.cal_answers.specs.rules.BootTime.{boot_time_for}
use Rattle.cal_answers.specs.rules.Found.{AreAll, AreAllOn, AreFilesOn, AreLoadedOn, FollowsFromRead, HasAllFor, HasAllLinted, HasDue, HasUnits, IsIndexFor, IsKnownOn, IsLoadedFor, IsPathOf, asks_all, needs_units}
use Rattle.cal_answers.specs.rules.LintTargets.{AreFilesOf, AreNamedFiles, HasNoneIfCrontabs, other_targets}
use Rattle.cal_answers.specs.rules.LocalClock.{IsLocalZone, IsShownZone, clock_zone, local_zone_of}
use Rattle.cal_answers.specs.rules.MachinePath.{machine_path}
use Rattle.cal_answers.specs.rules.Present.{IsPresent}
use Rattle.cal_answers.specs.rules.RangeZones.{AreRangeZones}
use Rattle.cal_answers.specs.rules.Trigger.{due_on, stated_second}
use Rattle.cal_tasks.specs.rules.Unguarded.{unguarded_seen}
use Rattle.cal_answers.specs.rules.Unguarded.{unguarded_on}

-- if `HasAll` holds for all machines and search paths that `Knows` holds for, it holds for any one of them
all_at : (Knows : Machine → List (List ℕ) → Type 0) (sought : Machine → List (List ℕ) → List Sought) (machine : Machine) (search_path : List (List ℕ)) (timers : Loaded)
    → Knows machine search_path → HasAll Knows sought timers → HasAll (λ other folders. (other ≡ machine) × (folders ≡ search_path)) sought timers
all_at Knows sought machine search_path timers knows all = record {
  outcomes = all.outcomes;
  loaded_from = all.loaded_from;
  are = record {
    true_of = λ other folders same.
        subst (λ other. All (IsOutcome other folders) all.outcomes) (sym same.0)
        (subst (λ folders. All (IsOutcome machine folders) all.outcomes) (sym same.1) (all.are.true_of machine search_path knows));
    are_all = λ other folders same.
        all.are.are_all machine search_path knows ∙ ap (sought machine) (sym same.1) ∙ ap (λ other. sought other folders) (sym same.0);
  };
}

units_at : (Knows : Machine → List (List ℕ) → Type 0) (machine : Machine) (search_path : List (List ℕ)) (is_all : Bool) (timers : Loaded) → Knows machine search_path
    → HasUnits Knows is_all timers → HasUnits (λ other folders. (other ≡ machine) × (folders ≡ search_path)) is_all timers
units_at Knows machine search_path is_all timers knows all = (
  all_at Knows _ machine search_path timers knows all.0,
  λ other folders same.
      all.1 machine search_path knows
      ∙ ap (λ folders. started_if_all machine folders is_all) (sym same.1) ∙ ap (λ other. started_if_all other folders is_all) (sym same.0),
)

for_at : (Knows : Machine → List (List ℕ) → Type 0) (machine : Machine) (search_path : List (List ℕ)) (is_all : Bool) (targets : List (List ℕ)) (timers : Loaded) → Knows machine search_path
    → HasAllFor Knows is_all targets timers → HasAllFor (λ other folders. (other ≡ machine) × (folders ≡ search_path)) is_all targets timers
for_at Knows machine search_path is_all [] timers knows all = units_at Knows machine search_path is_all timers knows all
for_at Knows machine search_path is_all (one ∷ rest) timers knows all = all_at Knows _ machine search_path timers knows all

linted_at : (Knows : Machine → List (List ℕ) → Type 0) (machine : Machine) (search_path : List (List ℕ)) (is_all : Bool) (targets : List (List ℕ)) (timers : Loaded) → Knows machine search_path
    → HasAllLinted Knows is_all targets timers → HasAllLinted (λ other folders. (other ≡ machine) × (folders ≡ search_path)) is_all targets timers
linted_at Knows machine search_path is_all [] timers knows all = units_at Knows machine search_path is_all timers knows all
linted_at Knows machine search_path is_all (one ∷ rest) timers knows all = (
  all.0,
  all.1,
  λ other folders same none. all.2 machine search_path knows (subst (λ other. other_targets all.0 other (one ∷ rest) ≡ []) same.0 none),
)

-- `HasAllFor` holds if everything that the targets stand for was looked for; without targets, these are the units that
-- other units start or, if `is_all` is true, all units
pub all_for : (Shows : Machine → Type 0) (Is : Machine → List (List ℕ) → Type 0) (is_all : Bool) (targets : List (Bor (List ℕ))) (loaded : Loaded)
    → (targets ≡ [] → HasAllUnits (λ machine search_path. Shows machine × Is machine search_path) is_all loaded)
    → (targets ≡ [] → (machine : Machine) (search_path : List (List ℕ)) → Shows machine → Is machine search_path → shown_stems loaded.started ≡ started_if_all machine search_path is_all)
    → ((targets ≡ [] → ⊥) → HasAllTargets (λ machine search_path. Shows machine × Is machine search_path) (map (λ text. text.now) targets) loaded)
    → HasAllFor (λ machine search_path. Shows machine × Is machine search_path) is_all (map (λ text. text.now) targets) loaded
all_for Shows Is is_all [] loaded units started targets = (units refl, λ machine search_path knows. started refl machine search_path knows.0 knows.1)
all_for Shows Is is_all (one ∷ rest) loaded units started targets = targets (λ h. absurd (cc))

-- if there are targets, `HasAllLinted` holds if no timers were loaded in the case that all of them are crontabs
pub all_linted : (Knows : Machine → List (List ℕ) → Type 0) (is_all : Bool) (targets : List (Bor (List ℕ))) (loaded : Loaded)
    → (targets ≡ [] → ⊥) → HasNoneIfCrontabs Knows (map (λ text. text.now) targets) loaded
    → HasAllLinted Knows is_all (map (λ text. text.now) targets) loaded
all_linted Knows is_all [] loaded some none = absurd (some refl)
all_linted Knows is_all (one ∷ rest) loaded some none = none

-- a list is empty if it is seen as an empty one
pub none_seen : (targets : List (Bor (List ℕ))) → map (λ text. text.now) targets ≡ [] → targets ≡ []
none_seen [] is = refl
none_seen (one ∷ rest) is = absurd (cc)

pub no_targets : (targets : List (Bor (List ℕ))) → (length targets == 0) ≡ true → targets ≡ []
no_targets targets is = nil_from_length targets (eqb-true (length targets) 0 is)

pub some_targets : (targets : List (Bor (List ℕ))) → (length targets == 0) ≡ false → targets ≡ [] → ⊥
some_targets [] is none = true≢false is
some_targets (one ∷ rest) is none = cc

-- a loop's step: one more target is among the targets that pass a test, if it passes the test
pub targets_more : (test : List ℕ → Bool) (xs : List (Bor (List ℕ))) (i : ℕ) (x : Bor (List ℕ)) (now new : List (List ℕ)) → i < length xs
    → now ≡ filter test (map (λ text. text.now) (take i xs)) → new ≡ now ++ filter test ((get_or xs i x).now ∷ [])
    → new ≡ filter test (map (λ text. text.now) (take (i + 1) xs))
targets_more test xs i x now new within was more =
    more ∙ ap (λ texts. texts ++ filter test ((get_or xs i x).now ∷ [])) was
    ∙ sym (filter-append test (map (λ text. text.now) (take i xs)) ((get_or xs i x).now ∷ []))
    ∙ ap (filter test)
    (sym (map-append (λ (text : Bor (List ℕ)). text.now) (take i xs) (get_or xs i x ∷ []))
    ∙ ap (map (λ (text : Bor (List ℕ)). text.now)) (sym (take_more xs i x within)))

-- no file was loaded for no target
pub no_files : (machine : Machine) (search_path : List (List ℕ)) (targets : List (Bor (List ℕ))) (files : LoadedFiles) → targets ≡ []
    → files.files.items ≡ [] → files.faults.items ≡ [] → AreFilesOf machine search_path (map (λ text. text.now) targets) files
no_files machine search_path targets files none empty no_faults =
    subst (λ (targets : List (Bor (List ℕ))). AreFilesOf machine search_path (map (λ text. text.now) targets) files) (sym none) (
      ap (map shown_unit_text) empty,
      subst (AreFaultsOf []) (sym no_faults) (record { true_of = All-nil _; whole = All-nil _ }),
    )

-- if there are targets, `AreFilesOn` holds if the files of all of them except crontabs were loaded
pub files_on : (machine : Machine) (search_path : List (List ℕ)) (is_all : Bool) (targets : List (Bor (List ℕ))) (files : LoadedFiles)
    → (targets ≡ [] → ⊥) → AreNamedFiles machine search_path (map (λ text. text.now) targets) files
    → AreFilesOn machine search_path is_all (map (λ text. text.now) targets) files
files_on machine search_path is_all [] files some named = absurd (some refl)
files_on machine search_path is_all (one ∷ rest) files some named = named

reason_at : (Shows Knows : Machine → Type 0) (texts : List (List ℕ)) (target : List ℕ) (reason : TargetReason) → ((machine : Machine) → Knows machine → Shows machine)
    → IsExpressionReason Shows texts target reason → IsExpressionReason Knows texts target reason
reason_at Shows Knows texts target NotFound shows is = is
reason_at Shows Knows texts target Template shows is = is
reason_at Shows Knows texts target TooManyAliases shows is = is
reason_at Shows Knows texts target (Path place why) shows is = is
reason_at Shows Knows texts target (Broken place line) shows is = is
reason_at Shows Knows texts target (NothingToDo own read) shows is = is
reason_at Shows Knows texts target (Expression fault) shows is = is
reason_at Shows Knows texts target (CrontabEntry fault) shows is = is
reason_at Shows Knows texts target (ExpressionZone path reason) shows is =
    (is.0, is.1, λ machine knows. is.2 machine (shows machine knows))

-- a timer or a reason on all machines for which `Shows` holds is one on all machines for which `Knows` holds, if these
-- are among them
pub made_at : (Shows Knows : Machine → Type 0) (texts : List (List ℕ)) (loaded : Loaded) → ((machine : Machine) → Knows machine → Shows machine)
    → IsTimerOrReason Shows texts loaded → IsTimerOrReason Knows texts loaded
made_at Shows Knows texts loaded shows (none, inl one) = (none, inl one)
made_at Shows Knows texts loaded shows (none, inr fault) =
    (none, inr (fault.0, (fault.1.0, fault.1.1, reason_at Shows Knows texts (string_bytes fault.1.0.target) fault.1.0.reason shows fault.1.2)))

due_at : (Knows : Machine → List (List ℕ) → Type 0) (machine : Machine) (search_path : List (List ℕ)) (about : Option (List ℕ)) (timer : Option Loaded) → Knows machine search_path
    → HasDue Knows about timer → HasDue (λ other folders. (other ≡ machine) × (folders ≡ search_path)) about timer
due_at Knows machine search_path None timer knows all = tt
due_at Knows machine search_path (Some name) None knows all = tt
due_at Knows machine search_path (Some name) (Some timer) knows all = all_at Knows _ machine search_path timer knows all

pub loaded_at : (Knows : Machine → List (List ℕ) → Type 0) (machine : Machine) (search_path : List (List ℕ)) (all_units : Bool) (about : Option (List ℕ)) (loaded : LoadedByVerb) → Knows machine search_path
    → AreAll Knows all_units about loaded → AreAllOn machine search_path all_units about loaded
loaded_at Knows machine search_path all_units about (loads.List timers named is_all entries) knows all = for_at Knows machine search_path all_units (map string_bytes named.now) timers knows all
loaded_at Knows machine search_path all_units about (loads.Show timers named count) knows all = for_at Knows machine search_path all_units (map string_bytes named.now) timers knows all
loaded_at Knows machine search_path all_units about (loads.Lint files timers crontabs named is_strict) knows all = (
  linted_at Knows machine search_path all_units (map string_bytes named.now) timers knows all.0,
  λ other folders same.
      subst (λ other. AreFilesOn other folders all_units (map string_bytes named.now) files) (sym same.0)
      (subst (λ folders. AreFilesOn machine folders all_units (map string_bytes named.now) files) (sym same.1) (all.1 machine search_path knows)),
)
loaded_at Knows machine search_path all_units about (loads.Between timers named from to entries) knows all = for_at Knows machine search_path all_units (map string_bytes named.now) timers knows all
loaded_at Knows machine search_path all_units about (loads.Same first one second other) knows all = tt
loaded_at Knows machine search_path all_units about (loads.Next timers expressions count) knows all =
    made_at (λ other. (folders : List (List ℕ)) × Knows other folders) (λ other. (folders : List (List ℕ)) × ((other ≡ machine) × (folders ≡ search_path)))
    (map string_bytes expressions.now) timers (λ other is. (search_path, subst (λ other. Knows other search_path) (sym is.1.0) knows)) all
loaded_at Knows machine search_path all_units about (loads.Due timer named) knows all = due_at Knows machine search_path about timer knows all
loaded_at Knows machine search_path all_units about (loads.Cron crontabs named) knows all = tt

-- what is known for a question is true on a machine (`IsKnownOn`) if each part of it is; `search_path` is that of the
-- machine, or has no folders
known_with : (machine : Machine) (command : Command) (clock : Option ℤ) (known : Known) (search_path : List (List ℕ)) (needed : Bool)
    → IsPresent (stated_second machine command clock) (Some known.now)
    → option_map string_bytes known.about ≡ due_on machine command.question
    → known.boot ≡ boot_time_for machine command.options.now (due_on machine command.question)
    → needs_units command.question (due_on machine command.question) ≡ needed
    → IsLocalZone machine (local_zone_of machine command) (clock_zone known.local)
    → IsShownZone machine command (clock_zone known.shown)
    → AreRangeZones machine command.question known.range
    → IsPathOf machine command.options.is_user needed search_path → IsIndexOf machine search_path known.index → IsLoadedFor command.question known.loaded
    → ((folders : List (List ℕ)) → IsIndexOf machine folders known.index → AreLoadedOn machine folders (due_on machine command.question) known.loaded)
    → ((folders : List (List ℕ)) → IsIndexOf machine folders known.index → AreAllOn machine folders (asks_all command.question) (due_on machine command.question) known.loaded)
    → ((folders : List (List ℕ)) → IsIndexOf machine folders known.index → map unguarded_seen known.unguarded.items ≡ unguarded_on machine folders command.options.is_user known.loaded)
    → IsKnownOn machine command clock known
known_with machine command clock known search_path needed present timer boot about zone shown range searched is same loads whole unguarded = record {
  present = present;
  local = zone;
  shown = shown;
  about = timer;
  boot = boot;
  range = range;
  search_path = search_path;
  searched = subst (λ needed. IsPathOf machine command.options.is_user needed search_path) (sym about) searched;
  index = is;
  for_question = same;
  loaded = loads search_path is;
  whole = whole search_path is;
  unguarded = unguarded search_path is;
}

-- what is known for a question is true on a machine (`IsKnownOn`) if each part of it is; `needed` says whether the
-- question can be about units
pub known_on : (machine : Machine) (command : Command) (clock : Option ℤ) (known : Known) (search_path : List (List ℕ)) (needed : Bool)
    → IsPresent (stated_second machine command clock) (Some known.now)
    → option_map string_bytes known.about ≡ due_on machine command.question
    → known.boot ≡ boot_time_for machine command.options.now (due_on machine command.question)
    → needs_units command.question (due_on machine command.question) ≡ needed
    → IsLocalZone machine (local_zone_of machine command) (clock_zone known.local)
    → IsShownZone machine command (clock_zone known.shown)
    → AreRangeZones machine command.question known.range
    → machine_path machine command.options.is_user ≡ Some search_path → IsIndexFor machine search_path known.index
    → (needed ≡ true → IsIndexOf machine search_path known.index) → IsLoadedFor command.question known.loaded
    → ((folders : List (List ℕ)) → IsIndexOf machine folders known.index → AreLoadedOn machine folders (due_on machine command.question) known.loaded)
    → ((folders : List (List ℕ)) → IsIndexOf machine folders known.index → AreAllOn machine folders (asks_all command.question) (due_on machine command.question) known.loaded)
    → ((folders : List (List ℕ)) → IsIndexOf machine folders known.index → map unguarded_seen known.unguarded.items ≡ unguarded_on machine folders command.options.is_user known.loaded)
    → IsKnownOn machine command clock known
known_on machine command clock known search_path true present timer boot about zone shown range searched index indexed same loads whole unguarded =
    known_with machine command clock known search_path true present timer boot about zone shown range searched (indexed refl) same loads whole unguarded
known_on machine command clock known search_path false present timer boot about zone shown range searched (inl is) indexed same loads whole unguarded =
    known_with machine command clock known search_path false present timer boot about zone shown range (inl searched) is same loads whole unguarded
known_on machine command clock known search_path false present timer boot about zone shown range searched (inr is) indexed same loads whole unguarded =
    known_with machine command clock known [] false present timer boot about zone shown range (inr refl) is same loads whole unguarded

-- an error that can only be a failed allocation is one
pub only_memory : {A : Type 0} (result : Result A ReadFault) → IsErrAnd result (λ fault. fault ≡ faults.NoMemory) → result ≡ Err faults.NoMemory
only_memory (Ok value) is = absurd is
only_memory (Err fault) is = ap Err is

-- if something is true of all machines that agree with what a recorder has read, it follows from what was read
-- (`FollowsFromRead`)
pub follows : {S : Type 0} {system : Ghosts S} (tree : Recorder S system) (IsSo : Machine → Type 0)
    → ((machine : Machine) → AgreesWith tree.entries tree.names tree.files tree.variables machine → IsSo machine)
    → FollowsFromRead system.gives IsSo
follows tree IsSo known =
    let read = read_by tree in
    record {
      read = read;
      given = read_by-given tree;
      is_so = λ machine same. known machine (read_by-shows tree machine same);
      possible = (some_machine read, some_machine-matches read);
    }
