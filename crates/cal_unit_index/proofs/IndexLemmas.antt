-- What one more folder, stem or name adds to the index, and to the sets and lists that loops make from the index.
use Rattle.std.proofs.Common.{◌≡◌, ◌∙◌, ◌+◌, ◌<◌, ℕ, Bool, true, false, cond, List, [], ◌∷◌, ◌++◌, Option, Some, None, refl, sym, ap, append_assoc, filter, get_or, inl, inr, length, map, option_map, string_bytes, take}
use Rattle.std.specs.Prelude.{◌||◌, String, Vec, is_some, slice_get}
use Rattle.std.specs.BTreeSet.{insert_key}
use Rattle.std.specs.Cmp.Lexicographic.{slice_cmp}
use Rattle.std.specs.List.{filter_map, flat_map, list_any}
use Rattle.std.specs.Option.{option_or, option_to_list}
use Rattle.std.specs.Ordering.{is_eq, match_ordering, nat_cmp}
use Rattle.std.specs.Str.{bytes_eq}
use Rattle.std.specs.String.{string_cmp}
use Rattle.std.specs.declared.alloc.Global.{Global}
use Rattle.std.specs.declared.cmp.Ordering.{Ordering}
use Rattle.std.specs.declared.cmp.Ordering.TheVariants.{Less, Equal, Greater}
use Rattle.std.proofs.lemmas.Bool.{cases_Bool, false_from_ne_true}
use Rattle.std.proofs.lemmas.List.{flat_map_more, map-append, take_more}
use Rattle.std.proofs.lemmas.List.Elements.{filter-append, filter_map-append}
use Rattle.std.proofs.lemmas.List.Folds.{flat_map-map, list_any-append}
use Rattle.std.proofs.lemmas.List.Sums.{fold-append}
use Rattle.std.proofs.lemmas.Map.Text.{is_eq-slice_cmp}
use Rattle.std.proofs.lemmas.Slice.Eq.{bytes_eq-Decides}
use Rattle.cal_bytes.proofs.General.{not_some, option_or-none}
use Rattle.cal_machine.specs.rules.Machine.{Machine}
use Rattle.cal_machine.specs.rules.Places.{names_at}
use Rattle.cal_unit_index.specs.declared.fault.UnitFault.{UnitFault}
use Rattle.cal_unit_index.specs.declared.index.SearchFolder.{SearchFolder}
use Rattle.cal_unit_index.specs.declared.index.UnitIndex.{UnitIndex}
use Rattle.cal_unit_index.specs.rules.Destinations.{Destination, destination_at, destination_at_path, destination_by, destination_in, is_among, listed, sorted_once, stems_of, unless_unreadable, with_texts}
use Rattle.cal_unit_index.specs.rules.Index.{HasStems, IsIndexUpTo, Searched, destination_of, fault_of_stem, faults_of_listing, faults_of_stems, searched, shown_fault, shown_folder, unreadable_at}

-- ## Sets of names

put_key : (o : Ordering) (x k : String Global) (keys more : List (String Global)) (rest : List (List ℕ))
    → map string_bytes more ≡ rest
    → map string_bytes (match_ordering o (k ∷ x ∷ keys) (x ∷ keys) (x ∷ more))
    ≡ match_ordering o (string_bytes k ∷ string_bytes x ∷ map string_bytes keys) (string_bytes x ∷ map string_bytes keys) (string_bytes x ∷ rest)
put_key Less x k keys more rest h = refl
put_key Equal x k keys more rest h = refl
put_key Greater x k keys more rest h = ap (λ names. string_bytes x ∷ names) h

pub shown_insert_key : (keys : List (String Global)) (k : String Global)
    → map string_bytes (insert_key string_cmp keys k) ≡ insert_key (slice_cmp nat_cmp) (map string_bytes keys) (string_bytes k)
shown_insert_key [] k = refl
shown_insert_key (x ∷ keys) k = put_key (string_cmp k x) x k keys (insert_key string_cmp keys k) _ (shown_insert_key keys k)

pub any_among : (name : List ℕ) (keys : List (String Global))
    → list_any (λ key. is_eq (slice_cmp nat_cmp name (string_bytes key))) keys ≡ is_among (map string_bytes keys) name
any_among name [] = refl
any_among name (key ∷ keys) =
    ap (λ b. b || list_any (λ key. is_eq (slice_cmp nat_cmp name (string_bytes key))) keys) (is_eq-slice_cmp name (string_bytes key))
    ∙ ap (λ b. bytes_eq name (string_bytes key) || b) (any_among name keys)

-- ## One more item

one_item : {X Y : Type 0} (f : X → Option Y) (x : X) (o : Option Y) → f x ≡ o → filter_map f (x ∷ []) ≡ option_to_list o
one_item f x None e = rw e refl
one_item f x (Some y) e = rw e refl

filter_map_more : {X Y : Type 0} (f : X → Option Y) (xs : List X) (x : X) → filter_map f (xs ++ x ∷ []) ≡ filter_map f xs ++ option_to_list (f x)
filter_map_more f xs x = filter_map-append f xs (x ∷ []) ∙ ap (λ ys. filter_map f xs ++ ys) (one_item f x (f x) refl)

pub mapped_more : {X Y Z : Type 0} (f : Y → Option Z) (view : X → Y) (xs : List X) (x : X)
    → filter_map f (map view xs) ++ option_to_list (f (view x)) ≡ filter_map f (map view (xs ++ x ∷ []))
mapped_more f view xs x = sym (filter_map_more f (map view xs) (view x)) ∙ ap (filter_map f) (sym (map-append view xs (x ∷ [])))

-- if `before` is `start` followed by what `f` returns for `xs`, and `after` also has what `f` returns for `x`, then
-- `after` is `start` followed by what `f` returns for `xs` and `x`
pub appended_more : {X Y Z : Type 0} (f : Y → Option Z) (view : X → Y) (start before after : List Z) (xs : List X) (x : X)
    → after ≡ before ++ option_to_list (f (view x)) → before ≡ start ++ filter_map f (map view xs)
    → after ≡ start ++ filter_map f (map view (xs ++ x ∷ []))
appended_more f view start before after xs x added held =
    added
    ∙ ap (λ ys. ys ++ option_to_list (f (view x))) held
    ∙ append_assoc start (filter_map f (map view xs)) (option_to_list (f (view x)))
    ∙ ap (λ ys. start ++ ys) (mapped_more f view xs x)

next_taken : {X : Type 0} (xs : List X) (i : ℕ) (x : X) → i < length xs → x ≡ get_or xs i x → take (i + 1) xs ≡ take i xs ++ x ∷ []
next_taken xs i x h is = take_more xs i x h ∙ ap (λ y. take i xs ++ y ∷ []) (sym is)

-- if `before` is the sorted set of what `f` returns for the first `i` items, and `after` also has what `f` returns for
-- the next item, then `after` is this set for the first `i + 1` items
pub set_more : {X Y : Type 0} (f : Y → Option (List ℕ)) (view : X → Y) (xs : List X) (i : ℕ) (x : X) (before after : List (List ℕ))
    → i < length xs → x ≡ get_or xs i x
    → after ≡ with_texts before (option_to_list (f (view x))) → before ≡ sorted_once (filter_map f (map view (take i xs)))
    → after ≡ sorted_once (filter_map f (map view (take (i + 1) xs)))
set_more f view xs i x before after h is added held =
    added
    ∙ ap (λ names. with_texts names (option_to_list (f (view x)))) held
    ∙ sym (fold-append (insert_key (slice_cmp nat_cmp)) [] (filter_map f (map view (take i xs))) (option_to_list (f (view x))))
    ∙ ap sorted_once (mapped_more f view (take i xs) x ∙ ap (λ ys. filter_map f (map view ys)) (sym (next_taken xs i x h is)))

-- if `before` is the set of the names in `xs` that pass a test, and `after` also has the name of `x` if it passes, then
-- `after` is the set for `xs` and `x`
pub passing_pushed : {X : Type 0} (test : List ℕ → Bool) (view : X → List ℕ) (before after : List (List ℕ)) (xs : List X) (x : X)
    → after ≡ with_texts before (filter test (view x ∷ [])) → before ≡ sorted_once (filter test (map view xs))
    → after ≡ sorted_once (filter test (map view (xs ++ x ∷ [])))
passing_pushed test view before after xs x added held =
    added
    ∙ ap (λ names. with_texts names (filter test (view x ∷ []))) held
    ∙ sym (fold-append (insert_key (slice_cmp nat_cmp)) [] (filter test (map view xs)) (filter test (view x ∷ [])))
    ∙ ap sorted_once (sym (filter-append test (map view xs) (view x ∷ [])) ∙ ap (filter test) (sym (map-append view xs (x ∷ []))))

-- ## Destinations

-- entering a destination for a stem that had none changes the look-up of this stem, and of no other
pub entered_new : {X Y : Type 0} (view : X → Y) (old new : List ℕ → Option X) (stem other : List ℕ) (destination : X)
    → is_some (old stem) ≡ false → new other ≡ cond (bytes_eq stem other) (Some destination) (old other)
    → option_map view (new other) ≡ option_or (option_map view (old other)) (cond (bytes_eq other stem) (Some (view destination)) None)
entered_new view old new stem other destination absent now =
    elim (cases_Bool (bytes_eq other stem)) [
      | inl is ↦
          (let same : other ≡ stem = (bytes_eq-Decides other stem).0 is in
          let also : bytes_eq stem other ≡ true = (bytes_eq-Decides stem other).1 (sym same) in
          let was : old other ≡ None = ap old same ∙ not_some (old stem) absent in
          let has : new other ≡ Some destination = now ∙ ap (λ b. cond b (Some destination) (old other)) also in
          rw (has, was, is) refl)
      | inr differs ↦
          (let also : bytes_eq stem other ≡ false =
          false_from_ne_true (bytes_eq stem other) (λ is. let again : bytes_eq other stem ≡ true = (bytes_eq-Decides other stem).1 (sym ((bytes_eq-Decides stem other).0 is)) in absurd (cc)) in
          let has : new other ≡ old other = now ∙ ap (λ b. cond b (Some destination) (old other)) also in
          rw (has, differs) (sym (option_or-none (option_map view (old other)))))
    ]

among_either : {X : Type 0} (a d : Option X) (b c : Bool) → option_or (option_or a (cond b d None)) (cond c d None) ≡ option_or a (cond (b || c) d None)
among_either (Some x) d b c = refl
among_either None (Some x) true c = refl
among_either None None true true = refl
among_either None None true false = refl
among_either None d false c = refl

-- if several stems, and then one more, were added to an index, all of them were added
pub stems_more : (machine : Machine) (search_path : List (List ℕ)) (folder : List ℕ) (stems : List (List ℕ)) (stem : List ℕ) (old mid new : UnitIndex)
    → HasStems machine search_path folder stems old mid → HasStems machine search_path folder (stem ∷ []) mid new
    → HasStems machine search_path folder (stems ++ stem ∷ []) old new
stems_more machine search_path folder stems stem old mid new had more = record {
  destinations = λ other.
      let destination = unless_unreadable (destination_at_path machine search_path folder other) in
      more.destinations other
      ∙ ap (λ found. option_or found (destination_by machine search_path folder (stem ∷ []) other)) (had.destinations other)
      ∙ among_either (destination_of old other) destination (is_among stems other) (is_among (stem ∷ []) other)
      ∙ ap (λ b. option_or (destination_of old other) (cond b destination None)) (sym (list_any-append (bytes_eq other) stems (stem ∷ [])));
  unreadable =
      more.unreadable
      ∙ ap (λ faults. faults ++ faults_of_stems machine search_path folder (stem ∷ [])) had.unreadable
      ∙ append_assoc (map shown_fault old.unreadable.items) (faults_of_stems machine search_path folder stems) (faults_of_stems machine search_path folder (stem ∷ []))
      ∙ ap (λ faults. map shown_fault old.unreadable.items ++ faults) (sym (filter_map-append (fault_of_stem machine search_path folder) stems (stem ∷ [])));
  folders = more.folders ∙ had.folders;
}

pub next_stem : {X : Type 0} (machine : Machine) (search_path : List (List ℕ)) (folder : List ℕ) (view : X → List ℕ) (stems : List X) (i : ℕ) (other : X) (old mid new : UnitIndex)
    → i < length stems
    → HasStems machine search_path folder (map view (take i stems)) old mid → HasStems machine search_path folder (view (get_or stems i other) ∷ []) mid new
    → HasStems machine search_path folder (map view (take (i + 1) stems)) old new
next_stem machine search_path folder view stems i other old mid new h had more =
    let stem = get_or stems i other in
    rw (take_more stems i other h, map-append view (take i stems) (stem ∷ [])) (stems_more machine search_path folder (map view (take i stems)) (view stem) old mid new had more)

first_or : {X : Type 0} (xs : List X) (o : Option X) → slice_get (xs ++ option_to_list o) 0 ≡ option_or (slice_get xs 0) o
first_or [] None = refl
first_or [] (Some x) = refl
first_or (x ∷ xs) o = refl

first_more : {X Y : Type 0} (f : X → Option Y) (xs : List X) (x : X) → slice_get (filter_map f (xs ++ x ∷ [])) 0 ≡ option_or (slice_get (filter_map f xs) 0) (f x)
first_more f xs x = ap (λ ys. slice_get ys 0) (filter_map_more f xs x) ∙ first_or (filter_map f xs) (f x)

-- ## Folders

-- if `old` is the index of the folders `done`, and `after` also has what the stems in one more folder lead to, then
-- `after` with this folder is the index of `done` and this folder
pub folder_more : (machine : Machine) (search_path : List (List ℕ)) (folder : List ℕ) (done : List (List ℕ)) (old after : UnitIndex)
    (unreadable : Vec UnitFault Global) (folders : Vec SearchFolder Global) (item : SearchFolder)
    → map shown_fault unreadable.items ≡ map shown_fault old.unreadable.items ++ faults_of_listing folder (names_at machine folder)
    → shown_folder item ≡ searched machine folder
    → HasStems machine search_path folder (stems_of (listed machine folder)) (record old { unreadable = unreadable }) after
    → folders.items ≡ after.folders.items ++ item ∷ []
    → IsIndexUpTo machine search_path done old
    → IsIndexUpTo machine search_path (done ++ folder ∷ []) (record after { folders = folders })
folder_more machine search_path folder done old after unreadable folders item faulty is stems added had =
    let stems_there = stems_of (listed machine folder) in
    record {
      folders =
          ap (map shown_folder) (added ∙ ap (λ items. items ++ item ∷ []) stems.folders)
          ∙ map-append shown_folder old.folders.items (item ∷ [])
          ∙ ap (λ found. found ++ shown_folder item ∷ []) had.folders
          ∙ ap (λ found. map (searched machine) done ++ found ∷ []) is
          ∙ sym (map-append (searched machine) done (folder ∷ []));
      destinations = λ stem.
          stems.destinations stem
          ∙ ap (λ found. option_or found (destination_at machine search_path stem folder)) (had.destinations stem)
          ∙ sym (first_more (destination_at machine search_path stem) done folder);
      unreadable =
          stems.unreadable
          ∙ ap (λ faults. faults ++ faults_of_stems machine search_path folder stems_there) faulty
          ∙ append_assoc (map shown_fault old.unreadable.items) (faults_of_listing folder (names_at machine folder)) (faults_of_stems machine search_path folder stems_there)
          ∙ ap (λ faults. faults ++ unreadable_at machine search_path folder) had.unreadable
          ∙ flat_map_more (unreadable_at machine search_path) [] done folder;
    }

-- ## The index of a whole search path

-- two look-ups that find the same for each stem are equal
pub same_lookup : {X : Type 0} (one other : List ℕ → Option X) → ((stem : List ℕ) → one stem ≡ other stem) → one ≡ other
same_lookup one other same = λ i stem. same stem i

-- if `make` is applied to each folder of an index, the result is the same as for each folder of the search path on the
-- machine
pub each_folder : {X : Type 0} (machine : Machine) (search_path : List (List ℕ)) (index : UnitIndex) (make : (List ℕ → Option Destination) → List (List ℕ) → List X)
    → map shown_folder index.folders.items ≡ map (searched machine) search_path
    → ((stem : List ℕ) → destination_of index stem ≡ destination_in machine search_path stem)
    → flat_map (λ folder. make (destination_of index) folder.names) (map shown_folder index.folders.items)
    ≡ flat_map (λ folder. make (destination_in machine search_path) (listed machine folder)) search_path
each_folder machine search_path index make folders destinations =
    ap (λ lookup. flat_map (λ (folder : Searched). make lookup folder.names) (map shown_folder index.folders.items)) (same_lookup (destination_of index) (destination_in machine search_path) destinations)
    ∙ ap (flat_map (λ (folder : Searched). make (destination_in machine search_path) folder.names)) folders
    ∙ flat_map-map (λ (folder : Searched). make (destination_in machine search_path) folder.names) (searched machine) search_path
