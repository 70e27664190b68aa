-- Lemmas on two lists that loops build step by step. One has the drop-ins that count, one for each name: the lemmas say
-- how one more file changes `by_name` and the Rust map with the same entries. The other has the drop-ins in a folder:
-- the lemmas say what one more name adds to `candidates`.
use Rattle.std.proofs.Common.{◌≡◌, ℕ, Bool, true, false, cond, List, [], ◌∷◌, ◌++◌, refl, sym, ap, ◌∙◌, map, reverse, Option, Some, None, option_map, string_bytes, append_assoc, append-nil, filter}
use Rattle.std.specs.BTreeMap.{insert_entry}
use Rattle.std.specs.Cmp.Lexicographic.{slice_cmp}
use Rattle.std.specs.List.{find, fold}
use Rattle.std.specs.Map.{lookup}
use Rattle.std.specs.Option.{option_or}
use Rattle.std.specs.Ordering.{match_ordering, nat_cmp, is_eq}
use Rattle.std.specs.Str.{bytes_eq}
use Rattle.std.specs.Prelude.{String}
use Rattle.std.specs.String.{string_cmp}
use Rattle.std.specs.declared.alloc.Global.{Global}
use Rattle.std.specs.declared.cmp.Ordering.{Ordering}
use Rattle.std.specs.declared.cmp.Ordering.TheVariants.{Less, Equal, Greater}
use Rattle.std.proofs.lemmas.List.{reverse-append, map-append}
use Rattle.std.proofs.lemmas.List.Elements.{filter-append}
use Rattle.std.proofs.lemmas.List.Folds.{find-append}
use Rattle.std.proofs.lemmas.List.Sums.{fold-append}
use Rattle.std.proofs.lemmas.Bool.{false_from_ne_true}
use Rattle.std.proofs.lemmas.Map.Text.{is_eq-slice_cmp}
use Rattle.std.proofs.lemmas.Slice.Eq.{bytes_eq-Decides}
use Rattle.cal_bytes.proofs.General.{option_or-none}
use Rattle.cal_unit_index.specs.declared.drop_in_files.DropIn.{DropIn}
use Rattle.cal_unit_index.specs.rules.DropIns.{FolderFile, by_name, candidates, chosen, enter, file_in, is_drop_in, shown_drop_in, shown_pair}

put_by : (o : Ordering) (e : String Global × String Global) (es more : List (String Global × String Global)) (k : String Global) (v : String Global) (rest : List (List ℕ × List ℕ))
    → map shown_pair more ≡ rest
    → map shown_pair (match_ordering o ((k, v) ∷ e ∷ es) ((e.0, v) ∷ es) (e ∷ more))
    ≡ match_ordering o ((string_bytes k, string_bytes v) ∷ shown_pair e ∷ map shown_pair es) ((string_bytes e.0, string_bytes v) ∷ map shown_pair es) (shown_pair e ∷ rest)
put_by Less e es more k v rest h = refl
put_by Equal e es more k v rest h = refl
put_by Greater e es more k v rest h = ap (λ es. shown_pair e ∷ es) h

pub shown_insert : (es : List (String Global × String Global)) (k : String Global) (v : String Global)
    → map shown_pair (insert_entry string_cmp es k v) ≡ insert_entry (slice_cmp nat_cmp) (map shown_pair es) (string_bytes k) (string_bytes v)
shown_insert [] k v = refl
shown_insert (e ∷ es) k v = put_by (string_cmp k e.0) e es (insert_entry string_cmp es k v) k v _ (shown_insert es k v)

-- if a file is appended to `found`, then `by_name` of the longer list is `by_name found` with this file entered
pub by_name_more : (found : List FolderFile) (file : FolderFile) → by_name (found ++ file ∷ []) ≡ enter (by_name found) file
unfolding by_name
by_name_more found file = fold-append enter [] found (file ∷ [])

agree : {X : Type 0} (b : Bool) (v : X) (w r : Option X) → cond b (Some v) r ≡ cond b (Some v) (cond b w r)
agree true v w r = refl
agree false v w r = refl

apart : {X : Type 0} (b d : Bool) (x y z : X) → (b ≡ true → d ≡ false) → cond b x (cond d y z) ≡ cond d y (cond b x z)
apart true true x y z h = let other = h refl in absurd (cc)
apart true false x y z h = refl
apart false d x y z h = refl

differs : (name k e : List ℕ) → slice_cmp nat_cmp k e ≡ Greater → bytes_eq name e ≡ true → bytes_eq name k ≡ false
differs name k e c h = false_from_ne_true (bytes_eq name k) (λ h2.
    let same : name ≡ e = (bytes_eq-Decides name e).0 h in
    let also : name ≡ k = (bytes_eq-Decides name k).0 h2 in
    let both : k ≡ e = cc in
    let equal : bytes_eq k e ≡ true = (bytes_eq-Decides k e).1 both in
    let is_not : is_eq (slice_cmp nat_cmp k e) ≡ false = ap is_eq c in
    let is = is_eq-slice_cmp k e in
    absurd (cc))

put_has : (name : List ℕ) (o : Ordering) (k : List ℕ) (v : List ℕ) (e : List ℕ × List ℕ) (es more : List (List ℕ × List ℕ))
    → slice_cmp nat_cmp k e.0 ≡ o → lookup (bytes_eq name) more ≡ cond (bytes_eq name k) (Some v) (lookup (bytes_eq name) es)
    → lookup (bytes_eq name) (match_ordering o ((k, v) ∷ e ∷ es) ((e.0, v) ∷ es) (e ∷ more)) ≡ cond (bytes_eq name k) (Some v) (lookup (bytes_eq name) (e ∷ es))
put_has name Less k v e es more c h = refl
put_has name Equal k v e es more c h =
    let same : k ≡ e.0 = (bytes_eq-Decides k e.0).0 (sym (is_eq-slice_cmp k e.0) ∙ ap is_eq c) in
    rw same (agree (bytes_eq name e.0) v (Some e.1) (lookup (bytes_eq name) es))
put_has name Greater k v e es more c h =
    ap (λ rest. cond (bytes_eq name e.0) (Some e.1) rest) h
    ∙ apart (bytes_eq name e.0) (bytes_eq name k) (Some e.1) (Some v) (lookup (bytes_eq name) es) (differs name k e.0 c)

put_lookup : (name : List ℕ) (entries : List (List ℕ × List ℕ)) (file : FolderFile) → lookup (bytes_eq name) (enter entries file) ≡ cond (bytes_eq name file.name) (Some file.path) (lookup (bytes_eq name) entries)
put_lookup name [] file = refl
put_lookup name (e ∷ es) file = put_has name (slice_cmp nat_cmp file.name e.0) file.name file.path e es (enter es file) refl (put_lookup name es file)

either : (o : Option FolderFile) (b : Bool) (x : FolderFile) (r : Option (List ℕ)) → option_or (option_map (λ file. file.path) o) (cond b (Some x.path) r) ≡ option_or (option_map (λ file. file.path) (option_or o (cond b (Some x) None))) r
either (Some f) b x r = refl
either None true x r = refl
either None false x r = refl

last_after : (name : List ℕ) (entries : List (List ℕ × List ℕ)) (found : List FolderFile)
    → lookup (bytes_eq name) (fold enter entries found) ≡ option_or (option_map (λ file. file.path) (find (λ file. bytes_eq name file.name) (reverse found))) (lookup (bytes_eq name) entries)
last_after name entries [] = refl
last_after name entries (x ∷ xs) =
    last_after name (enter entries x) xs
    ∙ ap (λ r. option_or (option_map (λ file. file.path) (find (λ file. bytes_eq name file.name) (reverse xs))) r) (put_lookup name entries x)
    ∙ either (find (λ file. bytes_eq name file.name) (reverse xs)) (bytes_eq name x.name) x (lookup (bytes_eq name) entries)
    ∙ ap (λ o. option_or (option_map (λ file. file.path) o) (lookup (bytes_eq name) entries)) (sym (find-append (λ file. bytes_eq name file.name) (reverse xs) (x ∷ [])))
    ∙ ap (λ all. option_or (option_map (λ file. file.path) (find (λ file. bytes_eq name file.name) all)) (lookup (bytes_eq name) entries)) (sym (reverse-append (x ∷ []) xs))

-- of several files with the same name, `by_name` has the path of the last
pub last_of_name : (found : List FolderFile) (name : List ℕ) → lookup (bytes_eq name) (by_name found) ≡ option_map (λ file. file.path) (find (λ file. bytes_eq name file.name) (reverse found))
unfolding by_name
last_of_name found name = last_after name [] found ∙ option_or-none (option_map (λ file. file.path) (find (λ file. bytes_eq name file.name) (reverse found)))

-- if the Rust map has the entries of `by_name` for `files`, then entering `file` into the map gives it the entries of
-- `by_name` for `files` and `file`
pub file_more : (entries after : List (String Global × String Global)) (files : List DropIn) (file : DropIn)
    → map shown_pair entries ≡ by_name (map shown_drop_in files) → map shown_pair after ≡ enter (map shown_pair entries) (shown_drop_in file) → map shown_pair after ≡ by_name (map shown_drop_in (files ++ file ∷ []))
file_more entries after files file h e =
    e
    ∙ ap (λ es. enter es (shown_drop_in file)) h
    ∙ sym (by_name_more (map shown_drop_in files) (shown_drop_in file))
    ∙ ap by_name (sym (map-append shown_drop_in files (file ∷ [])))

pub shown_paths : (entries : List (String Global × String Global))
    → map string_bytes (map (λ entry. entry.1) entries) ≡ map (λ entry. entry.1) (map shown_pair entries)
shown_paths [] = refl
shown_paths (e ∷ es) = ap (λ rest. string_bytes e.1 ∷ rest) (shown_paths es)

pub paths_are : (entries : List (String Global × String Global)) (paths : List (String Global)) (files : List DropIn)
    → map shown_pair entries ≡ by_name (map shown_drop_in files) → paths ≡ map (λ entry. entry.1) entries
    → map string_bytes paths ≡ chosen (map shown_drop_in files)
unfolding chosen
paths_are entries paths files h e = ap (map string_bytes) e ∙ shown_paths entries ∙ ap (map (λ entry. entry.1)) h

-- if `name` is appended to `names`, then the file called `name` is appended to the candidates if it is a drop-in
pub candidates_more : (folder : List ℕ) (names : List (List ℕ)) (name : List ℕ)
    → candidates folder (names ++ name ∷ []) ≡ candidates folder names ++ candidates folder (name ∷ [])
unfolding candidates
candidates_more folder names name =
    ap (map (file_in folder)) (filter-append is_drop_in names (name ∷ []))
    ∙ map-append (file_in folder) (filter is_drop_in names) (filter is_drop_in (name ∷ []))

pub candidates_none : (folder : List ℕ) → candidates folder [] ≡ []
unfolding candidates
candidates_none folder = refl

pub candidate_more : (old before new : List FolderFile) (folder : List ℕ) (names : List (List ℕ)) (name : List ℕ)
    → before ≡ old ++ candidates folder names → new ≡ before ++ candidates folder (name ∷ [])
    → new ≡ old ++ candidates folder (names ++ name ∷ [])
candidate_more old before new folder names name h e =
    e
    ∙ ap (λ before. before ++ candidates folder (name ∷ [])) h
    ∙ append_assoc old (candidates folder names) (candidates folder (name ∷ []))
    ∙ ap (λ last. old ++ last) (sym (candidates_more folder names name))

-- an unreadable folder adds no drop-ins
pub no_candidates : (folder : List ℕ) (found : List FolderFile) → found ≡ found ++ candidates folder []
no_candidates folder found = rw (candidates_none folder) (sym (append-nil found))
