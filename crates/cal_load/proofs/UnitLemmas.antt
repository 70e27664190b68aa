-- Lemmas on what targets stand for, and on the outcomes of loading them.
use Rattle.std.proofs.Common.{◌≡◌, ◌+◌, ◌<◌, get_or, length, take, ◌∙◌, append_assoc, ℕ, List, [], ◌∷◌, ◌++◌, Ok, Err, Option, Result, ap, append-nil, inl, inr, map, refl, string_bytes, subst, false, sym, true}
use Rattle.std.proofs.lemmas.List.{flat_map_more, map-append, take_more}
use Rattle.std.proofs.lemmas.Grind.{flat_map-append}
use Rattle.std.proofs.lemmas.List.Elements.{All-append, All-cons, All-nil, All-weaker, filter_map-append, Contains-append_left, Contains-push}
use Rattle.std.proofs.lemmas.List.Sums.{fold-append}
use Rattle.std.specs.BTreeSet.{insert_key}
use Rattle.std.specs.Cmp.Lexicographic.{slice_cmp}
use Rattle.std.specs.List.{filter_map, flat_map}
use Rattle.std.specs.Option.{option_to_list}
use Rattle.std.specs.Ordering.{nat_cmp}
use Rattle.cal_machine.specs.rules.Machine.{Machine}
use Rattle.cal_unit_index.proofs.IndexLemmas.{appended_more}
use Rattle.cal_unit_index.specs.declared.fault.Reason.{Reason}
use Rattle.cal_unit_index.specs.rules.Destinations.{sorted_once, with_texts}
use Rattle.cal_unit_index.specs.rules.Files.{FileRead, UnitText}
use Rattle.cal_unit_index.specs.rules.Files.FileRead.{Unusable}
use Rattle.cal_unit_index.specs.rules.Folders.{end_at}
use Rattle.cal_unit_index.specs.rules.Index.{Fault}
use Rattle.cal_load.specs.rules.AllTargets.{AreAdded, AreOutcomes, HasAll, IsAccounted, IsFound, IsMore, IsOutcome, Outcome, Sought, masked_of, is_path, name_of, sought_at, sought_by, sought_in, timers_of, units_in_folder, unread_in_folder, without_slashes}
use Rattle.cal_load.specs.rules.AllTargets.Sought.{FolderUnit, ListedUnit, NamedUnit, SingleFile, UnreadPath}
use Rattle.std.specs.Prelude.{⊤, IfOk}
use Rattle.std.specs.Borrow.{Bor}
use Rattle.std.specs.Result.{IfErr}
use Rattle.cal_load.specs.rules.AllUnits.{HasFault, IsFileFault, IsFileReason, IsFoundOf, IsPushed, IsReported, IsUnusableFault, Keeps, is_absent, masked_in}
use Rattle.cal_load.specs.rules.LoadedTarget.{is_folder, timers_in}
use Rattle.cal_load.specs.declared.fault.TargetLoadFault.{TargetLoadFault}
use Rattle.cal_load.specs.declared.fault.TargetLoadFault as faults
use Rattle.cal_load.specs.declared.loaded.Loaded.{Loaded}
use Rattle.cal_load.specs.declared.loaded.LoadedTarget as targets
use Rattle.cal_load.specs.declared.target_fault.TargetFault.{TargetFault}

-- ## Faults are kept

-- a list that begins with another list has all faults of that list
pub keeps_appended : (old new more : List TargetFault) → new ≡ old ++ more → Keeps old new
keeps_appended old new more e fault has = rw e (Contains-append_left old more fault has)

pub keeps_same : (old : List TargetFault) → Keeps old old
keeps_same old fault has = has

pub keeps_both : (old mid new : List TargetFault) → Keeps old mid → Keeps mid new → Keeps old new
keeps_both old mid new first second fault has = second fault (first fault has)

fault_kept : (old new : List TargetFault) (name : List ℕ) (fault : TargetLoadFault) → Keeps old new → HasFault old name fault → HasFault new name fault
fault_kept old new name (faults.TheVariants.Target reason) keeps h = (h.0, keeps h.0 h.1, h.2, h.3)
fault_kept old new name faults.TheVariants.NoMemory keeps h = h

pub report_kept : (old new : List TargetFault) (name : List ℕ) (found : Result targets.LoadedTarget TargetLoadFault) → Keeps old new
    → IsReported old name found → IsReported new name found
report_kept old new name (Ok found) keeps h = tt
report_kept old new name (Err fault) keeps h = fault_kept old new name fault keeps h

appended_both : {X Y : Type 0} (f : List X → List Y) (first second : List X) (old mid new : List Y) → f (first ++ second) ≡ f first ++ f second
    → mid ≡ old ++ f first → new ≡ mid ++ f second → new ≡ old ++ f (first ++ second)
appended_both f first second old mid new both h k =
    k ∙ ap (λ xs. xs ++ f second) h ∙ append_assoc old (f first) (f second) ∙ ap (λ xs. old ++ xs) (sym both)

account_kept : (old new : List TargetFault) (outcome : Outcome) → Keeps old new → IsAccounted old outcome → IsAccounted new outcome
account_kept old new outcome keeps h =
    elim h [
      | inl absent ↦ inl absent
      | inr reported ↦ inr (report_kept old new (name_of outcome.sought) outcome.found keeps reported)
    ]

-- adding the outcomes `first`, and then the outcomes `second`, adds both
added_both : (first second : List Outcome) (old mid new : Loaded) → AreAdded first old mid → AreAdded second mid new → AreAdded (first ++ second) old new
added_both first second old mid new h k = record {
  timers = appended_both (flat_map timers_of) first second old.timers.items mid.timers.items new.timers.items (flat_map-append timers_of first second) h.timers k.timers;
  masked = appended_both (flat_map masked_of) first second (map string_bytes old.masked.items) (map string_bytes mid.masked.items) (map string_bytes new.masked.items)
      (flat_map-append masked_of first second) h.masked k.masked;
  accounted = All-append (IsAccounted new.faults.items) first second
      (All-weaker (IsAccounted mid.faults.items) (IsAccounted new.faults.items) (λ outcome. account_kept mid.faults.items new.faults.items outcome k.kept) first h.accounted)
      k.accounted;
  kept = keeps_both old.faults.items mid.faults.items new.faults.items h.kept k.kept;
}

-- after a fault is appended to a list, the list has it
pub fault_pushed : (old new : List TargetFault) (fault : TargetFault) (name : List ℕ) (found : TargetLoadFault) → new ≡ old ++ fault ∷ []
    → string_bytes fault.target ≡ name → found ≡ faults.TheVariants.Target fault.reason → HasFault new name found
fault_pushed old new fault name found e named is =
    subst (HasFault new name) (sym is) (fault, rw e (Contains-push old fault), named, refl)

-- if what is at a path can't be used, an error that says so is the right error for a target whose file is at this path
pub file_unusable : (machine : Machine) (why : Reason) (path : List ℕ) (read : FileRead) (name : List ℕ) (files : List UnitText) (fault : TargetLoadFault) → Unusable why ≡ read
    → IsUnusableFault why path fault → IsFileFault machine read path name files fault
file_unusable machine why path read name files (faults.TheVariants.Target reason) is h = subst (λ read. IsFileReason machine read path name files reason) is h
file_unusable machine why path read name files faults.TheVariants.NoMemory is h = tt

-- if what was found for a name was pushed (`IsPushed`), and only faults are added afterwards, `IsPushed` still holds
pub pushed_kept : (name : List ℕ) (found : Result targets.LoadedTarget TargetLoadFault) (old mid new : Loaded)
    → new.timers ≡ mid.timers → new.masked ≡ mid.masked → IsPushed name found old mid → Keeps mid.faults.items new.faults.items → IsPushed name found old new
pushed_kept name found old mid new timers masked pushed keeps = record {
  timers = ap (λ list. list.items) timers ∙ pushed.timers;
  masked = ap (λ list. map string_bytes list.items) masked ∙ pushed.masked;
  reported = report_kept mid.faults.items new.faults.items name found keeps pushed.reported;
  kept = keeps_both old.faults.items mid.faults.items new.faults.items pushed.kept keeps;
}

-- ## Sets of stems

-- Suppose that `before` is the sorted list `start` with the texts added that `f` returns for the elements of `xs`, seen
-- through `view`, and that `after` also has the text that `f` returns for `x`, if any. Then `after` is `start` with the
-- texts for `xs` and `x` added.
pub set_added : {X Y : Type 0} (f : Y → Option (List ℕ)) (view : X → Y) (start before after : List (List ℕ)) (xs : List X) (x : X)
    → after ≡ with_texts before (option_to_list (f (view x))) → before ≡ with_texts start (filter_map f (map view xs))
    → after ≡ with_texts start (filter_map f (map view (xs ++ x ∷ [])))
set_added f view start before after xs x added held =
    added
    ∙ ap (λ names. with_texts names (option_to_list (f (view x)))) held
    ∙ sym (fold-append (insert_key (slice_cmp nat_cmp)) start (filter_map f (map view xs)) (option_to_list (f (view x))))
    ∙ ap (with_texts start) (appended_more f view [] (filter_map f (map view xs)) (filter_map f (map view xs) ++ option_to_list (f (view x))) xs x refl refl)

-- adding the texts that `f` returns for `ys` to the set of the texts that it returns for `xs` makes the set for `xs ++
-- ys`
pub set_of_both : (f : List ℕ → Option (List ℕ)) (xs ys : List (List ℕ)) → with_texts (sorted_once (filter_map f xs)) (filter_map f ys) ≡ sorted_once (filter_map f (xs ++ ys))
set_of_both f xs ys =
    sym (fold-append (insert_key (slice_cmp nat_cmp)) [] (filter_map f xs) (filter_map f ys))
    ∙ ap sorted_once (sym (filter_map-append f xs ys))

-- ## Several outcomes

-- if `IsMore` holds for `first`, and then for `second`, it holds for both; what is known of the machine after the
-- second step includes what was known after the first
pub more_both : (Knows Now : Machine → List (List ℕ) → Type 0) (first second : Machine → List (List ℕ) → List Sought) (old mid new : Loaded)
    → ((machine : Machine) (search_path : List (List ℕ)) → Now machine search_path → Knows machine search_path)
    → IsMore Knows first old mid → IsMore Now second mid new → IsMore Now (λ machine search_path. first machine search_path ++ second machine search_path) old new
more_both Knows Now first second old mid new known h k = record {
  outcomes = h.outcomes ++ k.outcomes;
  added = added_both h.outcomes k.outcomes old mid new h.added k.added;
  are = record {
    true_of = λ machine search_path now. All-append (IsOutcome machine search_path) h.outcomes k.outcomes
        (h.are.true_of machine search_path (known machine search_path now)) (k.are.true_of machine search_path now);
    are_all = λ machine search_path now.
        map-append (λ outcome. outcome.sought) h.outcomes k.outcomes
        ∙ ap (λ xs. xs ++ map (λ outcome. outcome.sought) k.outcomes) (h.are.are_all machine search_path (known machine search_path now))
        ∙ ap (λ xs. first machine search_path ++ xs) (k.are.are_all machine search_path now);
  };
}

-- if `IsMore` holds for `first`, it holds for `second`, provided that both are the same wherever `Now` holds
pub more_as : (Knows Now : Machine → List (List ℕ) → Type 0) (first second : Machine → List (List ℕ) → List Sought) (old new : Loaded)
    → ((machine : Machine) (search_path : List (List ℕ)) → Now machine search_path → Knows machine search_path)
    → ((machine : Machine) (search_path : List (List ℕ)) → Now machine search_path → first machine search_path ≡ second machine search_path)
    → IsMore Knows first old new → IsMore Now second old new
more_as Knows Now first second old new known same h = record {
  outcomes = h.outcomes;
  added = h.added;
  are = record {
    true_of = λ machine search_path now. h.are.true_of machine search_path (known machine search_path now);
    are_all = λ machine search_path now. h.are.are_all machine search_path (known machine search_path now) ∙ same machine search_path now;
  };
}

-- `IsMore` still holds if only faults are added afterwards
pub more_kept : (Knows : Machine → List (List ℕ) → Type 0) (sought : Machine → List (List ℕ) → List Sought) (old mid new : Loaded)
    → new.timers ≡ mid.timers → new.masked ≡ mid.masked → Keeps mid.faults.items new.faults.items → IsMore Knows sought old mid → IsMore Knows sought old new
more_kept Knows sought old mid new timers masked keeps h = record {
  outcomes = h.outcomes;
  added = record {
    timers = ap (λ list. list.items) timers ∙ h.added.timers;
    masked = ap (λ list. map string_bytes list.items) masked ∙ h.added.masked;
    accounted = All-weaker (IsAccounted mid.faults.items) (IsAccounted new.faults.items)
        (λ outcome. account_kept mid.faults.items new.faults.items outcome keeps) h.outcomes h.added.accounted;
    kept = keeps_both old.faults.items mid.faults.items new.faults.items h.added.kept keeps;
  };
  are = h.are;
}

pub none_more : (Knows : Machine → List (List ℕ) → Type 0) (loaded : Loaded) → IsMore Knows (λ machine search_path. []) loaded loaded
none_more Knows loaded = record {
  outcomes = [];
  added = record {
    timers = sym (append-nil loaded.timers.items);
    masked = sym (append-nil (map string_bytes loaded.masked.items));
    accounted = All-nil (IsAccounted loaded.faults.items);
    kept = keeps_same loaded.faults.items;
  };
  are = record {
    true_of = λ machine search_path knows. All-nil (IsOutcome machine search_path);
    are_all = λ machine search_path knows. refl;
  };
}

-- if `IsMore` holds and nothing had been loaded before, everything that was loaded comes from what was looked for
-- (`HasAll`)
pub all_loaded : (Knows : Machine → List (List ℕ) → Type 0) (sought : Machine → List (List ℕ) → List Sought) (start loaded : Loaded)
    → start.timers.items ≡ [] → start.masked.items ≡ [] → IsMore Knows sought start loaded → HasAll Knows sought loaded
all_loaded Knows sought start loaded timers masked h = record {
  outcomes = h.outcomes;
  loaded_from = record {
    timers = h.added.timers ∙ ap (λ xs. xs ++ flat_map timers_of h.outcomes) timers;
    masked = h.added.masked ∙ ap (λ xs. map string_bytes xs ++ flat_map masked_of h.outcomes) masked;
    accounted = h.added.accounted;
  };
  are = h.are;
}

-- ## One more outcome

abbrev outcome_of : Sought → Result targets.LoadedTarget TargetLoadFault → Outcome
outcome_of sought found = record { sought = sought; found = found }

one_outcome : (Knows : Machine → List (List ℕ) → Type 0) (sought : Sought) (found : Result targets.LoadedTarget TargetLoadFault)
    → ((machine : Machine) (search_path : List (List ℕ)) → Knows machine search_path → IsFound machine search_path sought found)
    → AreOutcomes Knows (λ machine search_path. sought ∷ []) (outcome_of sought found ∷ [])
one_outcome Knows sought found true_of = record {
  true_of = λ machine search_path knows. All-cons (IsOutcome machine search_path) (outcome_of sought found) [] (true_of machine search_path knows) (All-nil (IsOutcome machine search_path));
  are_all = λ machine search_path knows. refl;
}

-- if what was found for `sought` was pushed under its name, `IsMore` holds for `sought`
pub pushed_more : (Knows : Machine → List (List ℕ) → Type 0) (sought : Sought) (name : List ℕ) (old new : Loaded) (found : Result targets.LoadedTarget TargetLoadFault)
    → name ≡ name_of sought → IsPushed name found old new
    → ((machine : Machine) (search_path : List (List ℕ)) → Knows machine search_path → IsFound machine search_path sought found)
    → IsMore Knows (λ machine search_path. sought ∷ []) old new
pushed_more Knows sought name old new found e pushed true_of = record {
  outcomes = outcome_of sought found ∷ [];
  added = record {
    timers = pushed.timers ∙ ap (λ xs. old.timers.items ++ xs) (sym (append-nil (timers_in found)));
    masked = pushed.masked ∙ ap (λ xs. map string_bytes old.masked.items ++ xs) (ap (λ name. masked_in name found) e ∙ sym (append-nil (masked_in (name_of sought) found)));
    accounted = All-cons (IsAccounted new.faults.items) (outcome_of sought found) []
        (inr (subst (λ name. IsReported new.faults.items name found) e pushed.reported)) (All-nil (IsAccounted new.faults.items));
    kept = pushed.kept;
  };
  are = one_outcome Knows sought found true_of;
}

-- if a unit of the search path has no file, `IsMore` holds for this unit although nothing was loaded
pub absent_more : (Knows : Machine → List (List ℕ) → Type 0) (stem : List ℕ) (loaded : Loaded) (found : Result targets.LoadedTarget TargetLoadFault)
    → is_absent found ≡ true → ((machine : Machine) (search_path : List (List ℕ)) → Knows machine search_path → IsFoundOf machine search_path stem found)
    → IsMore Knows (λ machine search_path. ListedUnit stem ∷ []) loaded loaded
absent_more Knows stem loaded (Ok found) e true_of = absurd (cc)
absent_more Knows stem loaded (Err fault) e true_of = record {
  outcomes = outcome_of (ListedUnit stem) (Err fault) ∷ [];
  added = record {
    timers = sym (append-nil loaded.timers.items);
    masked = sym (append-nil (map string_bytes loaded.masked.items));
    accounted = All-cons (IsAccounted loaded.faults.items) (outcome_of (ListedUnit stem) (Err fault)) [] (inl (rw e refl)) (All-nil (IsAccounted loaded.faults.items));
    kept = keeps_same loaded.faults.items;
  };
  are = one_outcome Knows (ListedUnit stem) (Err fault) true_of;
}

-- ## What was found, and errors in finding it

pub ok_or_err : {X E : Type 0} (P : X → Type 0) (Q : E → Type 0) (R : Result X E → Type 0) (r : Result X E)
    → ((x : X) → P x → R (Ok x)) → ((e : E) → Q e → R (Err e)) → IfOk r P → IfErr r Q → R r
ok_or_err P Q R (Ok x) f g h k = f x h
ok_or_err P Q R (Err e) f g h k = g e k

-- if `IsMore` holds for the elements in `xs`, and then for `x`, it holds for all of them; for an element, seen through
-- `view`, `make` returns what is looked for
pub one_more : {X Y : Type 0} (Knows Now : Machine → List (List ℕ) → Type 0) (make : Y → Sought) (view : X → Y) (xs : List X) (x : X) (y : Y) (old mid new : Loaded)
    → ((machine : Machine) (search_path : List (List ℕ)) → Now machine search_path → Knows machine search_path) → y ≡ view x
    → IsMore Knows (λ machine search_path. map make (map view xs)) old mid → IsMore Now (λ machine search_path. make y ∷ []) mid new
    → IsMore Now (λ machine search_path. map make (map view (xs ++ x ∷ []))) old new
one_more Knows Now make view xs x y old mid new known is h k =
    let before : List Sought = map make (map view xs) in
    more_as Now Now (λ machine search_path. before ++ make y ∷ []) (λ machine search_path. map make (map view (xs ++ x ∷ []))) old new
    (λ machine search_path now. now)
    (λ machine search_path now.
    ap (λ y. before ++ make y ∷ []) is
    ∙ sym (map-append make (map view xs) (view x ∷ []))
    ∙ ap (map make) (sym (map-append view xs (x ∷ []))))
    (more_both Knows Now (λ machine search_path. before) (λ machine search_path. make y ∷ []) old mid new known h k)

-- if the units of a folder were loaded, and then the paths in it that can't be read were reported, `IsMore` holds for
-- the folder
pub folder_more : (Knows : Machine → List (List ℕ) → Type 0) (Shows : Machine → Type 0) (folder : List ℕ) (stems : List (List ℕ)) (unread : List Fault) (old mid new : Loaded)
    → ((machine : Machine) (search_path : List (List ℕ)) → Shows machine → Knows machine search_path)
    → ((machine : Machine) → Shows machine → stems ≡ units_in_folder machine folder)
    → ((machine : Machine) → Shows machine → unread ≡ unread_in_folder machine folder)
    → IsMore Knows (λ machine search_path. map (FolderUnit folder) stems) old mid
    → IsMore (λ machine search_path. ⊤) (λ machine search_path. map UnreadPath unread) mid new
    → IsMore (λ machine search_path. Shows machine) (λ machine search_path. sought_in machine folder) old new
folder_more Knows Shows folder stems unread old mid new known stems_are unread_are h k =
    let Now : Machine → List (List ℕ) → Type 0 = λ machine search_path. Shows machine in
    let Always : Machine → List (List ℕ) → Type 0 = λ machine search_path. ⊤ in
    more_as Now Now (λ machine search_path. map (FolderUnit folder) stems ++ map UnreadPath unread) (λ machine search_path. sought_in machine folder) old new
    (λ machine search_path now. now)
    (λ machine search_path now.
    ap (λ stems. map (FolderUnit folder) stems ++ map UnreadPath unread) (stems_are machine now)
    ∙ ap (λ unread. map (FolderUnit folder) (units_in_folder machine folder) ++ map UnreadPath unread) (unread_are machine now))
    (more_both Knows Now (λ machine search_path. map (FolderUnit folder) stems) (λ machine search_path. map UnreadPath unread) old mid new known h
    (more_as Always Now (λ machine search_path. map UnreadPath unread) (λ machine search_path. map UnreadPath unread) mid new (λ machine search_path now. tt) (λ machine search_path now. refl) k))

-- if `IsMore` holds for the first `i` targets, and then for the next one, it holds for the first `i + 1`
pub target_more : (Knows Now : Machine → List (List ℕ) → Type 0) (targets : List (Bor (List ℕ))) (i : ℕ) (target other : Bor (List ℕ)) (old mid new : Loaded)
    → ((machine : Machine) (search_path : List (List ℕ)) → Now machine search_path → Knows machine search_path) → i < length targets → target.now ≡ (get_or targets i other).now
    → IsMore Knows (λ machine search_path. flat_map (sought_by machine) (map (λ target. target.now) (take i targets))) old mid
    → IsMore Now (λ machine search_path. sought_by machine target.now) mid new
    → IsMore Now (λ machine search_path. flat_map (sought_by machine) (map (λ target. target.now) (take (i + 1) targets))) old new
target_more Knows Now targets i target other old mid new known within is h k =
    let before : Machine → List Sought = λ machine. flat_map (sought_by machine) (map (λ target. target.now) (take i targets)) in
    more_as Now Now (λ machine search_path. before machine ++ sought_by machine target.now) (λ machine search_path. flat_map (sought_by machine) (map (λ target. target.now) (take (i + 1) targets))) old new
    (λ machine search_path now. now)
    (λ machine search_path now.
    ap (λ name. before machine ++ sought_by machine name) is
    ∙ flat_map_more (sought_by machine) [] (map (λ target. target.now) (take i targets)) (get_or targets i other).now
    ∙ ap (flat_map (sought_by machine)) (sym (map-append (λ target. target.now) (take i targets) (get_or targets i other ∷ []))
    ∙ ap (map (λ target. target.now)) (sym (take_more targets i other within))))
    (more_both Knows Now (λ machine search_path. before machine) (λ machine search_path. sought_by machine target.now) old mid new known h k)

-- ## Kinds of targets

pub folder_sought : (machine : Machine) (path : List ℕ) → is_folder (end_at machine path) ≡ true
    → sought_in machine path ≡ sought_at machine path
folder_sought machine path e = rw e refl

pub file_sought : (machine : Machine) (path : List ℕ) → is_folder (end_at machine path) ≡ false → SingleFile path ∷ [] ≡ sought_at machine path
file_sought machine path e = rw e refl

pub path_sought : (machine : Machine) (target path : List ℕ) → is_path target ≡ true → path ≡ without_slashes target
    → sought_at machine path ≡ sought_by machine target
path_sought machine target path e is = rw e (ap (sought_at machine) is)

pub name_sought : (machine : Machine) (target : List ℕ) → is_path target ≡ false → NamedUnit target ∷ [] ≡ sought_by machine target
name_sought machine target e = rw e refl
