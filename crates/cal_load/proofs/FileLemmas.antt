-- Lemmas on the files that targets stand for: which paths were tried, what was read there, and what is lost, that is,
-- can't be read.
use Rattle.std.proofs.Common.{◌≡◌, ◌⊎◌, ◌∙◌, ◌+◌, ◌<◌, ◌&&◌, ℕ, All, Bool, Bor, List, [], ◌∷◌, ◌++◌, None, Option, Some, Ok, Err, Result, String, true, false, append-nil, append_assoc, arith, cond, filter, if◌then◌else◌, ap, get_or, inl, inr, length, map, not, refl, string_bytes, subst, sym, take}
use Rattle.std.proofs.lemmas.Bool.{cases_Bool, false≢true}
use Rattle.std.proofs.lemmas.List.{flat_map_more, map-append, take_more}
use Rattle.std.proofs.lemmas.List.Elements.{All-append, All-cons, All-head, All-nil, All-tail}
use Rattle.std.proofs.lemmas.List.Folds.{list_any-append}
use Rattle.std.proofs.lemmas.List.Sums.{fold-append}
use Rattle.std.proofs.lemmas.Slice.Eq.{bytes_eq-Decides}
use Rattle.std.proofs.lemmas.Map.Lookups.{exact_bytes}
use Rattle.std.specs.BTreeMap.{BTreeMap, Updates, get_by_text}
use Rattle.std.specs.Cmp.Lexicographic.{slice_cmp}
use Rattle.std.specs.Ordering.{nat_cmp}
use Rattle.cal_machine.proofs.KeepLemmas.{changes}
use Rattle.std.specs.List.{flat_map, fold, list_any}
use Rattle.std.specs.Option.{option_map, option_to_list}
use Rattle.std.specs.Str.{bytes_eq}
use Rattle.std.specs.declared.alloc.Global.{Global}
use Rattle.cal_machine.specs.declared.tree.Unreadable.{Unreadable}
use Rattle.cal_machine.specs.rules.Machine.{Listing, Machine}
use Rattle.cal_machine.specs.rules.Places.{names_at}
use Rattle.cal_machine.specs.rules.Seen.{seen}
use Rattle.cal_unit_index.specs.declared.fault.Reason.TheVariants as reasons
use Rattle.cal_unit_index.specs.declared.fault.Reason.{Reason}
use Rattle.cal_unit_index.specs.declared.fault.UnitFault.{UnitFault}
use Rattle.cal_unit_index.specs.rules.DropIns.{drop_ins, unread_folders}
use Rattle.cal_unit_index.specs.rules.Folders.{end_at}
use Rattle.cal_unit_index.specs.rules.Index.{Fault, faults_of_listing, shown_fault}
use Rattle.cal_unit_index.specs.rules.Names.{names_on}
use Rattle.cal_unit_index.specs.declared.files.UnitText as texts
use Rattle.cal_unit_index.specs.declared.unit_type.UnitType.TheVariants.{Timer}
use Rattle.cal_unit_index.specs.rules.Files.{FileRead, UnitText, drop_in_fault, file_at, lost_for, shown_unit_text, text_at, texts_at}
use Rattle.cal_unit_index.specs.rules.Files.FileRead.{Mask, Unusable, Text}
use Rattle.cal_unit_index.specs.rules.UnitName.{unit_stem}
use Rattle.cal_unit_index.specs.rules.Units.{Unit, unit_on}
use Rattle.cal_unit_index.specs.rules.Units.Unit.{FoundAt}
use Rattle.cal_load.specs.declared.files.Reading.{Reading}
use Rattle.cal_load.specs.declared.files.Taken.{Taken}
use Rattle.cal_load.specs.declared.files.Taken as taken
use Rattle.cal_load.specs.declared.target_fault.TargetReason.{TargetReason}
use Rattle.cal_load.specs.rules.AllTargets.{IsUnreadReason, is_path, path_in, text_names_at, text_names_in, units_in_folder, unread_in_folder, without_slashes}
use Rattle.cal_load.specs.rules.AllFiles.{AreTextsAt, AreTried, HasTried, IsTaken, each_once, folder_paths, is_text, paths_at, paths_by, paths_if_valid, paths_in, paths_of_unit, remembered_of, unit_paths, taken_of, text_of, with_path}
use Rattle.cal_load.specs.rules.Loaded.{IsStoredOn}
use Rattle.cal_load.specs.rules.LoadedTarget.{is_folder}
use Rattle.cal_load.specs.rules.FileFaults.{AreFaultsOf, AreLostAlso, AreReadAlso, AreReadFor, Cause, IsCause, IsCauseIf, Lost, cause_at, cause_if_valid, cause_of, cause_of_unit, lost_as, lost_at, lost_by, lost_drop_in, lost_drop_ins, lost_file, lost_folder, lost_if_valid, lost_listed, lost_named, lost_of_unit, lost_path, lost_texts}
use Rattle.cal_load.specs.rules.FileFaults.Cause.{Absent, UnusableAt}
use Rattle.cal_load.proofs.FileFaultLemmas.{all_faults, lost_both, lost_none, one_named}

-- ## One more path

has_pushed : (paths : List (List ℕ)) (path : List ℕ) → list_any (bytes_eq path) (paths ++ path ∷ []) ≡ true
has_pushed paths path = list_any-append (bytes_eq path) paths (path ∷ []) ∙ rw ((bytes_eq-Decides path path).1 refl) (grind arith)

has_as_before : (paths : List (List ℕ)) (path other : List ℕ) → bytes_eq other path ≡ false
    → list_any (bytes_eq other) paths ≡ list_any (bytes_eq other) (paths ++ path ∷ [])
has_as_before paths path other e = sym (list_any-append (bytes_eq other) paths (path ∷ []) ∙ rw e (grind arith))

-- Suppose that a map has an entry for each of `paths`, which says what is at this path. After what was found at one
-- more path is inserted, the map has such entries for `paths` and for this path.
seen_more : (machine : Machine) (paths : List (List ℕ)) (path : List ℕ) (found : FileRead) (old new : BTreeMap (String Global) Taken)
    → found ≡ file_at machine path → get_by_text new path ≡ Some (taken_of found)
    → ((other : List ℕ) → ((other ≡ path) × (get_by_text new other ≡ Some (taken_of found))) ⊎ (get_by_text new other ≡ get_by_text old other))
    → ((other : List ℕ) → get_by_text old other ≡ remembered_of machine paths other)
    → (other : List ℕ) → get_by_text new other ≡ remembered_of machine (paths ++ path ∷ []) other
seen_more machine paths path found old new is at changed h other =
    elim (cases_Bool (bytes_eq other path)) [
      | inl same ↦ subst (λ q. get_by_text new q ≡ remembered_of machine (paths ++ path ∷ []) q) (sym ((bytes_eq-Decides other path).0 same))
          (at ∙ ap (λ read. Some (taken_of read)) is
          ∙ ap (λ known. if known then Some (taken_of (file_at machine path)) else None) (sym (has_pushed paths path)))
      | inr differs ↦ elim (changed other) [
        | inl here ↦ absurd (false≢true (sym differs ∙ (bytes_eq-Decides other path).1 here.0))
        | inr stays ↦ stays ∙ h other
            ∙ ap (λ known. if known then Some (taken_of (file_at machine other)) else None) (has_as_before paths path other differs)
      ]
    ]

-- if `paths` were tried, and then one more path, the tried paths are `paths` and this one
tried_more : (machine : Machine) (paths : List (List ℕ)) (path : List ℕ) (found : FileRead) (old new : Reading)
    → found ≡ file_at machine path → get_by_text new.seen path ≡ Some (taken_of found)
    → ((other : List ℕ) → ((other ≡ path) × (get_by_text new.seen other ≡ Some (taken_of found))) ⊎ (get_by_text new.seen other ≡ get_by_text old.seen other))
    → map shown_unit_text new.loaded.files.items ≡ map shown_unit_text old.loaded.files.items ++ text_of path found
    → AreTried machine paths old → AreTried machine (paths ++ path ∷ []) new
tried_more machine paths path found old new is at changed pushed h = record {
  files = pushed
      ∙ ap (λ texts. texts ++ text_of path found) h.files
      ∙ ap (λ read. texts_at machine paths ++ text_of path read) is
      ∙ flat_map_more (text_at machine) [] paths path;
  seen = seen_more machine paths path found old.seen new.seen is at changed h.seen;
}

-- Suppose that `paths` were tried, and then one more path. If what was found there was inserted into the map `seen`,
-- under a key with the bytes of this path, and its text, if any, was appended to the loaded files, then the tried paths
-- are `paths` and this one.
pub tried_at : (machine : Machine) (paths : List (List ℕ)) (path : List ℕ) (found : FileRead) (old new : Reading) (key : String Global) (taken : Taken)
    → string_bytes key ≡ path → taken ≡ taken_of found
    → Updates (λ x y. slice_cmp nat_cmp (string_bytes x) (string_bytes y)) old.seen new.seen key (Some taken) → found ≡ file_at machine path
    → map shown_unit_text new.loaded.files.items ≡ map shown_unit_text old.loaded.files.items ++ text_of path found
    → AreTried machine paths old → AreTried machine (paths ++ path ∷ []) new
tried_at machine paths path found old new key taken named e updates is pushed h =
    let same : Some taken ≡ Some (taken_of found) = ap (λ taken. Some taken) e in
    let changed = changes string_bytes (slice_cmp nat_cmp) exact_bytes old.seen new.seen (string_bytes key) (Some taken) updates in
    tried_more machine paths path found old new is
    (subst (λ path. get_by_text new.seen path ≡ Some (taken_of found)) named (updates.1 ∙ same))
    (subst (λ path. (other : List ℕ) → ((other ≡ path) × (get_by_text new.seen other ≡ Some (taken_of found))) ⊎ (get_by_text new.seen other ≡ get_by_text old.seen other)) named
    (subst (λ found. (other : List ℕ) → ((other ≡ string_bytes key) × (get_by_text new.seen other ≡ found)) ⊎ (get_by_text new.seen other ≡ get_by_text old.seen other)) same changed))
    pushed h

-- ## Files that are stored

abbrev IsStored : Machine → UnitText → Type 0
IsStored machine text = file_at machine text.path ≡ Text text.bytes

text_stored : (machine : Machine) (path : List ℕ) (found : FileRead) → found ≡ file_at machine path → All (IsStored machine) (text_of path found)
text_stored machine path Mask is = All-nil (IsStored machine)
text_stored machine path (Unusable reason) is = All-nil (IsStored machine)
text_stored machine path (Text bytes) is = All-cons (IsStored machine) (record { path = path; bytes = bytes }) [] (sym is) (All-nil (IsStored machine))

texts_stored : (machine : Machine) (paths : List (List ℕ)) → All (IsStored machine) (texts_at machine paths)
texts_stored machine [] = All-nil (IsStored machine)
texts_stored machine (path ∷ paths) =
    All-append (IsStored machine) (text_at machine path) (texts_at machine paths) (text_stored machine path (file_at machine path) refl) (texts_stored machine paths)

stored_files : (machine : Machine) (files : List texts.UnitText) → All (IsStored machine) (map shown_unit_text files) → All (IsStoredOn machine) files
stored_files machine [] h = All-nil (IsStoredOn machine)
stored_files machine (file ∷ files) h =
    All-cons (IsStoredOn machine) file files
    (All-head (IsStored machine) (shown_unit_text file) (map shown_unit_text files) h)
    (stored_files machine files (All-tail (IsStored machine) (shown_unit_text file) (map shown_unit_text files) h))

-- each text that was read is what the machine has at its path
pub tried_stored : (machine : Machine) (reading : Reading) → HasTried machine reading → All (IsStoredOn machine) reading.loaded.files.items
tried_stored machine reading h = stored_files machine reading.loaded.files.items (subst (All (IsStored machine)) (sym h.1.files) (texts_stored machine h.0))

-- ## Each path once

-- the paths that aren't in `known`
abbrev new_to : List (List ℕ) → List (List ℕ) → List (List ℕ)
new_to known paths = filter (λ other. not (list_any (bytes_eq other) known)) paths

-- filtering by one test and then by another is filtering once by both
filter_both : {X : Type 0} (p q r : X → Bool) → ((x : X) → r x ≡ (q x && p x)) → (xs : List X) → filter p (filter q xs) ≡ filter r xs
filter_both p q r is [] = refl
filter_both p q r is (x ∷ xs) =
    let rest = filter_both p q r is xs in
    elim (cases_Bool (q x)) [
      | inl e ↦ rw (is x, e) (ap (λ xs. cond (p x) (x ∷ xs) xs) rest)
      | inr e ↦ rw (is x, e) rest
    ]

-- if `path` is in `known`, `other` isn't in `known` if and only if it differs from `path` and isn't in `known`
new_known : (known : List (List ℕ)) (path : List ℕ) → list_any (bytes_eq path) known ≡ true → (other : List ℕ)
    → not (list_any (bytes_eq other) known) ≡ (not (bytes_eq other path) && not (list_any (bytes_eq other) known))
new_known known path has other =
    elim (cases_Bool (bytes_eq other path)) [
      | inl same ↦ rw (same, (bytes_eq-Decides other path).0 same, has) refl
      | inr differs ↦ rw differs refl
    ]

new_added : (known : List (List ℕ)) (path other : List ℕ)
    → not (list_any (bytes_eq other) (known ++ path ∷ [])) ≡ (not (bytes_eq other path) && not (list_any (bytes_eq other) known))
new_added known path other =
    ap not (list_any-append (bytes_eq other) known (path ∷ []))
    ∙ elim (cases_Bool (bytes_eq other path)) [
      | inl same ↦ rw same (grind arith)
      | inr differs ↦ rw differs (grind arith)
    ]

-- adding paths one by one to `known` appends those that aren't in it yet, each once
added_once : (known paths : List (List ℕ)) → fold with_path known paths ≡ known ++ new_to known (each_once paths)
added_once known [] = sym (append-nil known)
added_once known (path ∷ paths) =
    elim (cases_Bool (list_any (bytes_eq path) known)) [
      | inl has ↦ rw has
          (added_once known paths
          ∙ ap (λ xs. known ++ xs) (sym (filter_both (λ other. not (list_any (bytes_eq other) known)) (λ other. not (bytes_eq other path))
          (λ other. not (list_any (bytes_eq other) known)) (new_known known path has) (each_once paths))))
      | inr lacks ↦ rw lacks
          (added_once (known ++ path ∷ []) paths
          ∙ append_assoc known (path ∷ []) (new_to (known ++ path ∷ []) (each_once paths))
          ∙ ap (λ xs. known ++ path ∷ xs) (sym (filter_both (λ other. not (list_any (bytes_eq other) known)) (λ other. not (bytes_eq other path))
          (λ other. not (list_any (bytes_eq other) (known ++ path ∷ []))) (new_added known path) (each_once paths))))
    ]

filter_all : {X : Type 0} (xs : List X) → filter (λ x. true) xs ≡ xs
filter_all [] = refl
filter_all (x ∷ xs) = ap (λ xs. x ∷ xs) (filter_all xs)

-- adding paths one by one to an empty list makes a list of these paths, each once
once : (paths : List (List ℕ)) → fold with_path [] paths ≡ each_once paths
once paths = added_once [] paths ∙ filter_all (each_once paths)

-- ## Several paths

-- if only the errors of a reading change, the same paths were tried
tried_same : (machine : Machine) (paths : List (List ℕ)) (old new : Reading) → new.seen ≡ old.seen → new.loaded.files.items ≡ old.loaded.files.items
    → AreTried machine paths old → AreTried machine paths new
tried_same machine paths old new seen files h = record {
  files = ap (map shown_unit_text) files ∙ h.files;
  seen = λ path. ap (λ map. get_by_text map path) seen ∙ h.seen path;
}

-- if no path was tried, and only errors about `lost` were added, `AreReadAlso` holds for the empty list of paths and
-- for `lost`
read_errors : (machine : Machine) (lost : List Lost) (old new : Reading) → new.seen ≡ old.seen → new.loaded.files.items ≡ old.loaded.files.items
    → AreLostAlso lost old.loaded.faults.items new.loaded.faults.items → AreReadAlso machine [] lost old new
read_errors machine lost old new seen files h paths tried = (tried_same machine paths old new seen files tried, h)

-- if `AreReadAlso` holds for the paths `first`, and then for the paths `second`, it holds for all of them
read_both : (machine : Machine) (first second : List (List ℕ)) (lost also : List Lost) (old mid new : Reading)
    → AreReadAlso machine first lost old mid → AreReadAlso machine second also mid new → AreReadAlso machine (first ++ second) (lost ++ also) old new
read_both machine first second lost also old mid new h k paths tried =
    let before = h paths tried in
    let after = k (fold with_path paths first) before.0 in (
      subst (λ all. AreTried machine all new) (sym (fold-append with_path paths first second)) after.0,
      lost_both lost also old.loaded.faults.items mid.loaded.faults.items new.loaded.faults.items before.1 after.1,
    )

pub read_as : (machine : Machine) (first second : List (List ℕ)) (lost also : List Lost) (old new : Reading) → first ≡ second → lost ≡ also
    → AreReadAlso machine first lost old new → AreReadAlso machine second also old new
read_as machine first second lost also old new e f h =
    subst (λ paths. AreReadAlso machine paths also old new) e (subst (λ lost. AreReadAlso machine first lost old new) f h)

-- if `AreReadAlso` holds for the texts in `before`, and then for the text `more`, it holds for all of them; for a text,
-- `f` returns the paths that it stands for, and `g` what can't be read for it
read_flat : (machine : Machine) (f : List ℕ → List (List ℕ)) (g : List ℕ → List Lost) (before : List (List ℕ)) (more : List ℕ) (old mid new : Reading)
    → AreReadAlso machine (flat_map f before) (flat_map g before) old mid → AreReadAlso machine (f more) (g more) mid new
    → AreReadAlso machine (flat_map f (before ++ more ∷ [])) (flat_map g (before ++ more ∷ [])) old new
read_flat machine f g before more old mid new h k =
    read_as machine (flat_map f before ++ f more) (flat_map f (before ++ more ∷ [])) (flat_map g before ++ g more) (flat_map g (before ++ more ∷ [])) old new
    (flat_map_more f [] before more) (flat_map_more g [] before more)
    (read_both machine (flat_map f before) (f more) (flat_map g before) (g more) old mid new h k)

-- if `AreReadAlso` holds for the paths in `before`, and then for the path `more`, it holds for all of them
read_path : (machine : Machine) (g : List ℕ → List Lost) (before : List (List ℕ)) (more : List ℕ) (old mid new : Reading)
    → AreReadAlso machine before (flat_map g before) old mid → AreReadAlso machine (more ∷ []) (g more) mid new
    → AreReadAlso machine (before ++ more ∷ []) (flat_map g (before ++ more ∷ [])) old new
read_path machine g before more old mid new h k =
    read_as machine (before ++ more ∷ []) (before ++ more ∷ []) (flat_map g before ++ g more) (flat_map g (before ++ more ∷ [])) old new
    refl (flat_map_more g [] before more)
    (read_both machine before (more ∷ []) (flat_map g before) (g more) old mid new h k)

-- if `AreReadAlso` holds for the strings in `before`, and then for the string `more`, it holds for all these paths
pub read_drop_in : (machine : Machine) (g : List ℕ → List Lost) (before : List (String Global)) (more : String Global) (old mid new : Reading)
    → AreReadAlso machine (map string_bytes before) (flat_map g (map string_bytes before)) old mid
    → AreReadAlso machine (string_bytes more ∷ []) (g (string_bytes more)) mid new
    → AreReadAlso machine (map string_bytes (before ++ more ∷ [])) (flat_map g (map string_bytes (before ++ more ∷ []))) old new
read_drop_in machine g before more old mid new h k =
    let all : map string_bytes before ++ string_bytes more ∷ [] ≡ map string_bytes (before ++ more ∷ []) = sym (map-append string_bytes before (more ∷ [])) in
    read_as machine (map string_bytes before ++ string_bytes more ∷ []) (map string_bytes (before ++ more ∷ []))
    (flat_map g (map string_bytes before ++ string_bytes more ∷ [])) (flat_map g (map string_bytes (before ++ more ∷ []))) old new
    all (ap (flat_map g) all)
    (read_path machine g (map string_bytes before) (string_bytes more) old mid new h k)

-- if `AreReadAlso` holds for the paths that `f` makes of the strings in `before`, and then for `path`, which `f` makes
-- of the string `more`, it holds for all these paths
pub read_string : (machine : Machine) (f : List ℕ → List ℕ) (g : List ℕ → List Lost) (before : List (String Global)) (more : String Global) (path : List ℕ) (old mid new : Reading)
    → path ≡ f (string_bytes more)
    → AreReadAlso machine (map f (map string_bytes before)) (flat_map g (map f (map string_bytes before))) old mid → AreReadAlso machine (path ∷ []) (g path) mid new
    → AreReadAlso machine (map f (map string_bytes (before ++ more ∷ []))) (flat_map g (map f (map string_bytes (before ++ more ∷ [])))) old new
read_string machine f g before more path old mid new is h k =
    let all : map f (map string_bytes before) ++ path ∷ [] ≡ map f (map string_bytes (before ++ more ∷ [])) =
    ap (λ path. map f (map string_bytes before) ++ path ∷ []) is
    ∙ sym (map-append f (map string_bytes before) (string_bytes more ∷ []))
    ∙ ap (map f) (sym (map-append string_bytes before (more ∷ []))) in
    read_as machine (map f (map string_bytes before) ++ path ∷ []) (map f (map string_bytes (before ++ more ∷ [])))
    (flat_map g (map f (map string_bytes before) ++ path ∷ [])) (flat_map g (map f (map string_bytes (before ++ more ∷ [])))) old new
    all (ap (flat_map g) all)
    (read_path machine g (map f (map string_bytes before)) path old mid new h k)

-- if `AreReadAlso` holds for the units in `before`, and then for the unit `more`, it holds for all of them; for the
-- name of a unit, `f` returns its paths, and `g` what can't be read for it
pub read_unit : (machine : Machine) (f : List ℕ → List (List ℕ)) (g : List ℕ → List Lost) (before : List (String Global)) (more : String Global) (name : List ℕ) (old mid new : Reading)
    → name ≡ string_bytes more → AreReadAlso machine (flat_map f (map string_bytes before)) (flat_map g (map string_bytes before)) old mid
    → AreReadAlso machine (f name) (g name) mid new
    → AreReadAlso machine (flat_map f (map string_bytes (before ++ more ∷ []))) (flat_map g (map string_bytes (before ++ more ∷ []))) old new
read_unit machine f g before more name old mid new is h k =
    let all : map string_bytes before ++ string_bytes more ∷ [] ≡ map string_bytes (before ++ more ∷ []) = sym (map-append string_bytes before (more ∷ [])) in
    read_as machine (flat_map f (map string_bytes before ++ string_bytes more ∷ [])) (flat_map f (map string_bytes (before ++ more ∷ [])))
    (flat_map g (map string_bytes before ++ string_bytes more ∷ [])) (flat_map g (map string_bytes (before ++ more ∷ []))) old new
    (ap (flat_map f) all) (ap (flat_map g) all)
    (read_flat machine f g (map string_bytes before) (string_bytes more) old mid new h
    (read_as machine (f name) (f (string_bytes more)) (g name) (g (string_bytes more)) mid new (ap f is) (ap g is) k))

-- if `AreReadAlso` holds for the first `i` targets, and then for the next one, it holds for the first `i + 1`; for a
-- target, `f` returns its paths, and `g` what can't be read for it
pub read_target : (machine : Machine) (f : List ℕ → List (List ℕ)) (g : List ℕ → List Lost) (targets : List (Bor (List ℕ))) (i : ℕ) (target other : Bor (List ℕ)) (old mid new : Reading)
    → i < length targets → target.now ≡ (get_or targets i other).now
    → AreReadAlso machine (flat_map f (map (λ target. target.now) (take i targets))) (flat_map g (map (λ target. target.now) (take i targets))) old mid
    → AreReadAlso machine (f target.now) (g target.now) mid new
    → AreReadAlso machine (flat_map f (map (λ target. target.now) (take (i + 1) targets))) (flat_map g (map (λ target. target.now) (take (i + 1) targets))) old new
read_target machine f g targets i target other old mid new within is h k =
    let before = map (λ (target : Bor (List ℕ)). target.now) (take i targets) in
    let all : before ++ target.now ∷ [] ≡ map (λ (target : Bor (List ℕ)). target.now) (take (i + 1) targets) =
    ap (λ name. before ++ name ∷ []) is
    ∙ sym (map-append (λ (target : Bor (List ℕ)). target.now) (take i targets) (get_or targets i other ∷ []))
    ∙ ap (map (λ (target : Bor (List ℕ)). target.now)) (sym (take_more targets i other within)) in
    read_as machine (flat_map f (before ++ target.now ∷ [])) (flat_map f (map (λ target. target.now) (take (i + 1) targets)))
    (flat_map g (before ++ target.now ∷ [])) (flat_map g (map (λ target. target.now) (take (i + 1) targets))) old new
    (ap (flat_map f) all) (ap (flat_map g) all)
    (read_flat machine f g before target.now old mid new h k)

-- if errors about something else that can't be read, `more`, are added after the paths were tried, `AreReadAlso` holds
-- for the same paths, and for what is in `lost` and `more`
pub read_besides : (machine : Machine) (tried : List (List ℕ)) (lost more : List Lost) (old mid new : Reading)
    → new.seen ≡ mid.seen → new.loaded.files ≡ mid.loaded.files
    → AreReadAlso machine tried lost old mid → AreLostAlso more mid.loaded.faults.items new.loaded.faults.items
    → AreReadAlso machine tried (lost ++ more) old new
read_besides machine tried lost more old mid new seen files h k paths before =
    let read = h paths before in (
      record {
        files = ap (λ list. map shown_unit_text list.items) files ∙ read.0.files;
        seen = λ path. ap (λ known. get_by_text known path) seen ∙ read.0.seen path;
      },
      lost_both lost more old.loaded.faults.items mid.loaded.faults.items new.loaded.faults.items read.1 k,
    )

-- if no path had been tried before, and there were no errors, then the texts that were read are those at `paths`, each
-- path once, and the errors are those about what is lost
pub all_read : (machine : Machine) (tried paths : List (List ℕ)) (lost all : List Lost) (old new : Reading) → tried ≡ paths → lost ≡ all
    → AreTried machine [] old → old.loaded.faults.items ≡ [] → AreReadAlso machine tried lost old new
    → AreTextsAt machine paths new.loaded.files.items × AreFaultsOf all new.loaded.faults.items
all_read machine tried paths lost all old new e f none no_faults h =
    let read = read_as machine tried paths lost all old new e f h [] none in
    (read.0.files ∙ ap (texts_at machine) (once paths), all_faults all old.loaded.faults.items new.loaded.faults.items no_faults read.1)

-- ## One path

abbrev is_read : Taken → Bool
is_read taken.TheVariants.Read = true
is_read taken.TheVariants.Masked = false
is_read (taken.TheVariants.Unusable reason) = false

text_read : (read : FileRead) → is_read (taken_of read) ≡ is_text read
text_read Mask = refl
text_read (Unusable reason) = refl
text_read (Text bytes) = refl

-- why the file at a path can't be read, given what was found there; `None` if it can be read
abbrev cause_taken : List ℕ → Taken → Option Cause
cause_taken path taken.TheVariants.Read = None
cause_taken path taken.TheVariants.Masked = None
cause_taken path (taken.TheVariants.Unusable reason) = Some (cause_of path reason)

cause_same : (path : List ℕ) (read : FileRead) → cause_taken path (taken_of read) ≡ cause_at path read
cause_same path Mask = refl
cause_same path (Unusable reason) = refl
cause_same path (Text bytes) = refl

-- what can't be read for a drop-in, given what was found at its path
abbrev drop_in_taken : List ℕ → Taken → List Lost
drop_in_taken path taken.TheVariants.Read = []
drop_in_taken path taken.TheVariants.Masked = []
drop_in_taken path (taken.TheVariants.Unusable reason) =
    map lost_path (option_to_list (option_map (λ reason. record { path = path; reason = reason }) (lost_for reason)))

drop_in_same : (path : List ℕ) (read : FileRead)
    → drop_in_taken path (taken_of read) ≡ map lost_path (option_to_list (option_map (λ reason. record { path = path; reason = reason }) (drop_in_fault read)))
drop_in_same path Mask = refl
drop_in_same path (Unusable reason) = refl
drop_in_same path (Text bytes) = refl

-- if a path was tried, and then an error was added if it can't be used, `AreReadAlso` holds for this path
read_one : (machine : Machine) (path : List ℕ) (taken : Taken) (f : Taken → List Lost) (lost : List Lost) (old mid new : Reading)
    → IsTaken machine path taken old mid → f (taken_of (file_at machine path)) ≡ lost → mid.loaded.faults.items ≡ old.loaded.faults.items
    → new.seen ≡ mid.seen → new.loaded.files.items ≡ mid.loaded.files.items
    → AreLostAlso (f taken) mid.loaded.faults.items new.loaded.faults.items → AreReadAlso machine (path ∷ []) lost old new
read_one machine path taken f lost old mid new h is same seen files k paths tried =
    let was = h paths tried in (
      tried_same machine (with_path paths path) mid new seen files was.0,
      subst (λ lost. AreLostAlso lost old.loaded.faults.items new.loaded.faults.items) (ap f was.1 ∙ is)
          (subst (λ faults. AreLostAlso (f taken) faults new.loaded.faults.items) same k),
    )

pub file_read : (machine : Machine) (path : List ℕ) (taken : Taken) (old mid new : Reading)
    → IsTaken machine path taken old mid → mid.loaded.faults.items ≡ old.loaded.faults.items
    → new.seen ≡ mid.seen → new.loaded.files.items ≡ mid.loaded.files.items
    → AreLostAlso (lost_as path (cause_taken path taken)) mid.loaded.faults.items new.loaded.faults.items
    → AreReadAlso machine (path ∷ []) (lost_file machine path) old new
file_read machine path taken old mid new h same seen files k =
    read_one machine path taken (λ taken. lost_as path (cause_taken path taken)) (lost_file machine path) old mid new h
    (ap (lost_as path) (cause_same path (file_at machine path))) same seen files k

drop_in_read : (machine : Machine) (path : List ℕ) (taken : Taken) (old mid new : Reading)
    → IsTaken machine path taken old mid → mid.loaded.faults.items ≡ old.loaded.faults.items
    → new.seen ≡ mid.seen → new.loaded.files.items ≡ mid.loaded.files.items
    → AreLostAlso (drop_in_taken path taken) mid.loaded.faults.items new.loaded.faults.items
    → AreReadAlso machine (path ∷ []) (lost_drop_in machine path) old new
drop_in_read machine path taken old mid new h same seen files k =
    read_one machine path taken (drop_in_taken path) (lost_drop_in machine path) old mid new h
    (drop_in_same path (file_at machine path)) same seen files k

-- if a drop-in can't be used, for a reason that has to be reported (`lost_for`), and its error was added, `AreReadAlso`
-- holds for the drop-in
pub lost_read : (machine : Machine) (path : String Global) (place : List ℕ) (reason : Reason) (tried : Taken) (old mid new : Reading)
    → place ≡ string_bytes path → tried ≡ taken.TheVariants.Unusable reason → IsTaken machine place tried old mid
    → mid.loaded.faults.items ≡ old.loaded.faults.items → new.seen ≡ mid.seen → new.loaded.files.items ≡ mid.loaded.files.items
    → lost_for reason ≡ Some reason
    → AreLostAlso (lost_path (record { path = string_bytes path; reason = reason }) ∷ []) mid.loaded.faults.items new.loaded.faults.items
    → AreReadAlso machine (string_bytes path ∷ []) (lost_drop_in machine (string_bytes path)) old new
lost_read machine path place reason tried old mid new named is h same seen files because k =
    drop_in_read machine (string_bytes path) (taken.TheVariants.Unusable reason) old mid new
    (subst (λ place. IsTaken machine place (taken.TheVariants.Unusable reason) old mid) named (subst (λ tried. IsTaken machine place tried old mid) is h))
    same seen files
    (subst (λ found. AreLostAlso (map lost_path (option_to_list (option_map (λ reason. record { path = string_bytes path; reason = reason }) found))) mid.loaded.faults.items new.loaded.faults.items)
    (sym because) k)

-- ## Units

-- if the file of a unit was tried, and then its drop-ins if the file is a text, `AreReadFor` holds for the unit
unit_read : (machine : Machine) (path : List ℕ) (taken : Taken) (drop_ins : List (List ℕ)) (lost : List Lost) (reason : Option TargetReason) (old mid new : Reading)
    → IsTaken machine path taken old mid → mid.loaded.faults.items ≡ old.loaded.faults.items
    → AreReadAlso machine (if is_read taken then drop_ins else []) (if is_read taken then lost else []) mid new
    → IsCauseIf (cause_taken path taken) reason
    → AreReadFor machine (path ∷ (if is_text (file_at machine path) then drop_ins else [])) (if is_text (file_at machine path) then lost else [])
    (cause_at path (file_at machine path)) reason old new
unit_read machine path taken drop_ins lost reason old mid new h same k because paths tried =
    let was = h paths tried in
    let text : is_read taken ≡ is_text (file_at machine path) = ap is_read was.1 ∙ text_read (file_at machine path) in
    let after = k (with_path paths path) was.0 in (
      subst (λ is. AreTried machine (fold with_path (with_path paths path) (if is then drop_ins else [])) new) text after.0,
      subst (λ is. AreLostAlso (if is then lost else []) old.loaded.faults.items new.loaded.faults.items) text
          (subst (λ faults. AreLostAlso (if is_read taken then lost else []) faults new.loaded.faults.items) same after.1),
      subst (λ cause. IsCauseIf cause reason) (ap (cause_taken path) was.1 ∙ cause_same path (file_at machine path)) because,
    )

-- if the file of a unit can't be used, and so no drop-in was tried, `AreReadFor` holds for the unit
pub unusable_read : (machine : Machine) (search_path : List (List ℕ)) (asked file own_file own : List ℕ) (reason : Reason) (found : TargetReason) (unit : Unit) (old new : Reading)
    → IsTaken machine file (taken.TheVariants.Unusable reason) old new → new.loaded.faults.items ≡ old.loaded.faults.items
    → IsCause (cause_of file reason) found → FoundAt file own_file own ≡ unit
    → AreReadFor machine (paths_of_unit machine search_path asked unit) (lost_of_unit machine search_path asked unit) (cause_of_unit machine unit) (Some found) old new
unusable_read machine search_path asked file own_file own reason found unit old new h same because is =
    let names = names_on machine search_path own_file own asked in
    subst (λ unit. AreReadFor machine (paths_of_unit machine search_path asked unit) (lost_of_unit machine search_path asked unit) (cause_of_unit machine unit) (Some found) old new) is
    (unit_read machine file (taken.TheVariants.Unusable reason) (drop_ins machine search_path Timer names) (lost_drop_ins machine search_path names) (Some found) old new new h same
    (λ paths tried. (tried, lost_none new.loaded.faults.items)) because)

-- if a unit was read (`AreReadFor`), and then, if the unit is lost, the reason was reported, `AreReadAlso` holds
pub reported_read : (machine : Machine) (more : List (List ℕ)) (lost : List Lost) (cause : Option Cause) (reason given : Option TargetReason) (also : List Lost) (old mid new : Reading)
    → AreReadFor machine more lost cause reason old mid → reason ≡ given → new.seen ≡ mid.seen → new.loaded.files.items ≡ mid.loaded.files.items
    → (IsCauseIf cause given → AreLostAlso also mid.loaded.faults.items new.loaded.faults.items)
    → AreReadAlso machine more (lost ++ also) old new
reported_read machine more lost cause reason given also old mid new h e seen files k paths tried =
    let was = h paths tried in (
      tried_same machine (fold with_path paths more) mid new seen files was.0,
      lost_both lost also old.loaded.faults.items mid.loaded.faults.items new.loaded.faults.items was.1 (k (subst (IsCauseIf cause) e was.2)),
    )

-- if a name isn't valid, no path was tried, and the name was reported as not found, then `AreReadAlso` holds for the
-- name
pub invalid_read : (machine : Machine) (search_path : List (List ℕ)) (name : List ℕ) (stem : Option (List ℕ)) (old new : Reading) → None ≡ stem
    → new.seen ≡ old.seen → new.loaded.files.items ≡ old.loaded.files.items
    → AreLostAlso (lost_as name (Some Absent)) old.loaded.faults.items new.loaded.faults.items
    → AreReadAlso machine (paths_if_valid machine search_path stem) (lost_if_valid machine search_path stem ++ lost_as name (cause_if_valid machine search_path stem)) old new
invalid_read machine search_path name stem old new e seen files h =
    subst (λ stem. AreReadAlso machine (paths_if_valid machine search_path stem) (lost_if_valid machine search_path stem ++ lost_as name (cause_if_valid machine search_path stem)) old new) e
    (read_errors machine (lost_as name (Some Absent)) old new seen files h)

-- if a name is valid, and its unit is lost and was reported, then `AreReadAlso` holds for the name
pub valid_read : (machine : Machine) (search_path : List (List ℕ)) (name asked : List ℕ) (stem : Option (List ℕ)) (found : Option TargetReason) (reason : TargetReason) (old mid new : Reading)
    → Some asked ≡ stem
    → AreReadFor machine (unit_paths machine search_path asked) (lost_of_unit machine search_path asked (unit_on machine search_path asked)) (cause_of_unit machine (unit_on machine search_path asked)) found old mid
    → found ≡ Some reason → new.seen ≡ mid.seen → new.loaded.files.items ≡ mid.loaded.files.items
    → ((cause : Cause) → IsCause cause reason → AreLostAlso (lost_as name (Some cause)) mid.loaded.faults.items new.loaded.faults.items)
    → AreReadAlso machine (paths_if_valid machine search_path stem) (lost_if_valid machine search_path stem ++ lost_as name (cause_if_valid machine search_path stem)) old new
valid_read machine search_path name asked stem found reason old mid new e h is seen files k =
    let cause = cause_of_unit machine (unit_on machine search_path asked) in
    subst (λ stem. AreReadAlso machine (paths_if_valid machine search_path stem) (lost_if_valid machine search_path stem ++ lost_as name (cause_if_valid machine search_path stem)) old new) e
    (reported_read machine (unit_paths machine search_path asked) (lost_of_unit machine search_path asked (unit_on machine search_path asked)) cause found (Some reason) (lost_as name cause) old mid new
    h is seen files (one_named name cause reason mid.loaded.faults.items new.loaded.faults.items k))

-- if the drop-in folders that can't be read were reported, and then the drop-ins of a unit were tried, `AreReadAlso`
-- holds for the drop-ins
pub drop_ins_read : (machine : Machine) (search_path names : List (List ℕ)) (paths : List (String Global)) (unread : List UnitFault) (old mid new : Reading)
    → map string_bytes paths ≡ drop_ins machine search_path Timer names → map shown_fault unread ≡ unread_folders machine search_path Timer names
    → mid.seen ≡ old.seen → mid.loaded.files.items ≡ old.loaded.files.items
    → AreLostAlso (map lost_path (map shown_fault unread)) old.loaded.faults.items mid.loaded.faults.items
    → AreReadAlso machine (map string_bytes paths) (flat_map (lost_drop_in machine) (map string_bytes paths)) mid new
    → AreReadAlso machine (drop_ins machine search_path Timer names) (lost_drop_ins machine search_path names) old new
drop_ins_read machine search_path names paths unread old mid new are unread_are seen files h k =
    let folders = map lost_path (map shown_fault unread) in
    let files_lost = flat_map (lost_drop_in machine) (map string_bytes paths) in
    read_as machine (map string_bytes paths) (drop_ins machine search_path Timer names) (folders ++ files_lost) (lost_drop_ins machine search_path names) old new are
    (ap (λ faults. map lost_path faults ++ files_lost) unread_are
    ∙ ap (λ paths. map lost_path (unread_folders machine search_path Timer names) ++ flat_map (lost_drop_in machine) paths) are)
    (read_both machine [] (map string_bytes paths) folders files_lost old mid new (read_errors machine folders old mid seen files h) k)

-- ## Folders

-- if the names in a folder can't be read, no path was tried, and the folder was reported, then `AreReadAlso` holds for
-- the texts in the folder
pub unread_read : (machine : Machine) (folder : List ℕ) (names : Result Listing Unreadable) (reason : TargetReason) (old new : Reading)
    → new.seen ≡ old.seen → new.loaded.files.items ≡ old.loaded.files.items → IsUnreadReason folder names reason
    → ((cause : Cause) → IsCause cause reason → AreLostAlso (lost_as folder (Some cause)) old.loaded.faults.items new.loaded.faults.items)
    → AreReadAlso machine (paths_in folder (seen text_names_in names))
    (map lost_path (faults_of_listing folder names) ++ flat_map (lost_file machine) (paths_in folder (seen text_names_in names))) old new
unread_read machine folder (Ok names) reason old new seen files h f = absurd h
unread_read machine folder (Err why) reason old new seen files h f =
    read_errors machine (lost_as folder (Some (UnusableAt folder (reasons.Unreadable why)))) old new seen files
    (f (UnusableAt folder (reasons.Unreadable why)) h)

names_known : (folder : List ℕ) (names : Result Listing Unreadable) (keys : List (List ℕ)) → seen text_names_in names ≡ Ok keys
    → faults_of_listing folder names ≡ []
names_known folder (Ok names) keys e = refl
names_known folder (Err why) keys e = absurd (cc)

-- if the files with the names `keys` in a folder were tried, `AreReadAlso` holds for the folder's texts
pub texts_read : (machine : Machine) (folder : List ℕ) (keys : List (List ℕ)) (old new : Reading) → text_names_at machine folder ≡ Ok keys
    → AreReadAlso machine (map (path_in folder) keys) (flat_map (lost_file machine) (map (path_in folder) keys)) old new
    → AreReadAlso machine (paths_in folder (text_names_at machine folder)) (lost_texts machine folder) old new
texts_read machine folder keys old new e h =
    read_as machine (map (path_in folder) keys) (paths_in folder (text_names_at machine folder))
    (flat_map (lost_file machine) (map (path_in folder) keys)) (lost_texts machine folder) old new
    (sym (ap (paths_in folder) e))
    (sym (ap (λ found. map lost_path found ++ flat_map (lost_file machine) (paths_in folder (text_names_at machine folder))) (names_known folder (names_at machine folder) keys e)
    ∙ ap (λ names. flat_map (lost_file machine) (paths_in folder names)) e))
    h

-- if the texts in a folder were tried, and then its units, and then the paths in it that can't be read were reported,
-- `AreReadAlso` holds for the folder
pub folder_read : (machine : Machine) (folder : List ℕ) (stems : List (List ℕ)) (unread : List Fault) (old mid last new : Reading)
    → stems ≡ units_in_folder machine folder → unread ≡ unread_in_folder machine folder
    → new.seen ≡ last.seen → new.loaded.files ≡ last.loaded.files
    → AreReadAlso machine (paths_in folder (text_names_at machine folder)) (lost_texts machine folder) old mid
    → AreReadAlso machine (flat_map (unit_paths machine (folder ∷ [])) stems) (flat_map (lost_listed machine (folder ∷ [])) stems) mid last
    → AreLostAlso (map lost_path unread) last.loaded.faults.items new.loaded.faults.items
    → AreReadAlso machine (folder_paths machine folder) (lost_folder machine folder) old new
folder_read machine folder stems unread old mid last new stems_are unread_are seen files texts units also =
    let names = paths_in folder (text_names_at machine folder) in
    let paths = flat_map (unit_paths machine (folder ∷ [])) in
    let lost = flat_map (lost_listed machine (folder ∷ [])) in
    read_as machine (names ++ paths stems) (folder_paths machine folder) (lost_texts machine folder ++ (lost stems ++ map lost_path unread)) (lost_folder machine folder) old new
    (ap (λ stems. names ++ paths stems) stems_are)
    (ap (λ stems. lost_texts machine folder ++ (lost stems ++ map lost_path unread)) stems_are
    ∙ ap (λ unread. lost_texts machine folder ++ (lost (units_in_folder machine folder) ++ map lost_path unread)) unread_are)
    (read_both machine names (paths stems) (lost_texts machine folder) (lost stems ++ map lost_path unread) old mid new texts
    (read_besides machine (paths stems) (lost stems) (map lost_path unread) mid last new seen files units also))

-- ## Targets

pub named_by : (machine : Machine) (search_path : List (List ℕ)) (target : List ℕ) (old new : Reading) → is_path target ≡ false
    → AreReadAlso machine (paths_if_valid machine search_path (unit_stem target)) (lost_named machine search_path target) old new
    → AreReadAlso machine (paths_by machine search_path target) (lost_by machine search_path target) old new
named_by machine search_path target old new e h = rw e h

folder_paths_by : (machine : Machine) (search_path : List (List ℕ)) (target folder : List ℕ) → is_path target ≡ true → folder ≡ without_slashes target
    → is_folder (end_at machine folder) ≡ true → folder_paths machine folder ≡ paths_by machine search_path target
folder_paths_by machine search_path target folder e is folders =
    let at : folder_paths machine folder ≡ paths_at machine folder = rw folders refl in
    let by : paths_at machine folder ≡ paths_by machine search_path target = rw e (ap (paths_at machine) is) in
    at ∙ by

folder_lost_by : (machine : Machine) (search_path : List (List ℕ)) (target folder : List ℕ) → is_path target ≡ true → folder ≡ without_slashes target
    → is_folder (end_at machine folder) ≡ true → lost_folder machine folder ≡ lost_by machine search_path target
folder_lost_by machine search_path target folder e is folders =
    let at : lost_folder machine folder ≡ lost_at machine folder = rw folders refl in
    let by : lost_at machine folder ≡ lost_by machine search_path target = rw e (ap (lost_at machine) is) in
    at ∙ by

pub folder_by : (machine : Machine) (search_path : List (List ℕ)) (target folder : List ℕ) (old new : Reading) → is_path target ≡ true
    → folder ≡ without_slashes target → is_folder (end_at machine folder) ≡ true
    → AreReadAlso machine (folder_paths machine folder) (lost_folder machine folder) old new
    → AreReadAlso machine (paths_by machine search_path target) (lost_by machine search_path target) old new
folder_by machine search_path target folder old new e is folders h =
    read_as machine (folder_paths machine folder) (paths_by machine search_path target) (lost_folder machine folder) (lost_by machine search_path target) old new
    (folder_paths_by machine search_path target folder e is folders) (folder_lost_by machine search_path target folder e is folders) h
